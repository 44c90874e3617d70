-- Values in braces, read one after another.
use Rattle.c_types_rules.specs.Checked.{Notes}
use Rattle.std.proofs.Common.{◌≡◌, ℕ, suc, ◌+◌, ◌<◌, ◌≤◌, Bool, List, [], ◌∷◌, ◌++◌, length, drop, get_or, Some, None, Ok, Err, ap, ◌∙◌, subst, arith}
use Rattle.std.specs.Prelude.{slice_get}
use Rattle.std.proofs.lemmas.List.{drop_all, drop_more}
use Rattle.c_syntax.specs.declared.declaration.Value.{Value}
use Rattle.c_syntax.specs.Nodes.{Nodes}
use Rattle.c_syntax.specs.Syntax.{Value as Written, Values as Writtens}
use Rattle.c_syntax.specs.Stands.{StandsValue}
use Rattle.c_types_model.specs.Types.{CType}
use Rattle.c_types_rules.specs.Environment.{Environment}
use Rattle.c_types_rules.specs.Initials.{initial, members, start_of_value}
use Rattle.c_types_operators.specs.declared.error.TypeError.{TypeError}
use Rattle.c_types_operators.specs.declared.error.TypeError.TheVariants.{Rule}
use Rattle.c_types_program.specs.declared.global.Initial.{Initial}
use Rattle.c_types_expressions.specs.Found.{Found}
use Rattle.c_types_initializers.specs.Values.{AreInitials, IsInitial}
use Rattle.c_types_initializers.proofs.Rests.{RestOfValues, no_type_here, none_left, one_less, one_stops, one_too_many, type_here}

module _ (N : Nodes) (env : Environment) (f g : Notes) (vs : List Value) (k : ℕ) (xs : Writtens) (all : List CType) (given : List Initial) (r : RestOfValues N env f g (drop k vs) (drop k all) xs all given) where
  -- all values are read
  pub all_read : length vs ≤ k → Found f g AreInitials (members xs env all) (Ok given)
  all_read le =
      let P : List Value → Type 0 = λ us. RestOfValues N env f g us (drop k all) xs all given in
      none_left N env f g (drop k all) xs all given (subst P (drop_all k vs le) r)

  module _ (d : Value) (lt : k < length vs) where
    next_value : RestOfValues N env f g (get_or vs k d ∷ drop (k + 1) vs) (drop k all) xs all given
    next_value = let P : List Value → Type 0 = λ us. RestOfValues N env f g us (drop k all) xs all given in subst P (drop_more vs k d lt) r

    -- there is no element or member for the next one
    pub too_many : (from : ℕ) → slice_get all k ≡ None → ((x : Written) → StandsValue N (get_or vs k d) x → from ≡ start_of_value x) → Found f g AreInitials (members xs env all) (Err (Rule from 16))
    too_many from none starts =
        let P : List CType → Type 0 = λ ts. RestOfValues N env f g (get_or vs k d ∷ drop (k + 1) vs) ts xs all given in
        one_too_many N env f g (get_or vs k d) (drop (k + 1) vs) xs all given from (subst P (no_type_here all k none) next_value) starts

    module _ (t : CType) (some : slice_get all k ≡ Some t) where
      next_type : RestOfValues N env f g (get_or vs k d ∷ drop (k + 1) vs) (t ∷ drop (k + 1) all) xs all given
      next_type =
          let P : List CType → Type 0 = λ ts. RestOfValues N env f g (get_or vs k d ∷ drop (k + 1) vs) ts xs all given in
          let step : suc k ≡ k + 1 = omega arith in
          subst P (type_here all k t some ∙ ap (λ j. t ∷ drop j all) step) next_value

      pub one_on : (h : Notes) (one : Initial) → ((x : Written) → StandsValue N (get_or vs k d) x → Found g h IsInitial (initial x env t) (Ok one))
          → RestOfValues N env f h (drop (k + 1) vs) (drop (k + 1) all) xs all (given ++ one ∷ [])
      one_on h one p = one_less N env f g h (get_or vs k d) (drop (k + 1) vs) t (drop (k + 1) all) xs all given one next_type p

      pub one_off : (h : Notes) (e : TypeError) → ((x : Written) → StandsValue N (get_or vs k d) x → Found g h IsInitial (initial x env t) (Err e)) → Found f h AreInitials (members xs env all) (Err e)
      one_off h e p = one_stops N env f g h (get_or vs k d) (drop (k + 1) vs) t (drop (k + 1) all) xs all given e next_type p
