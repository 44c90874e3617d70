-- Arguments of a call, one after another.
use Rattle.std.proofs.Common.{◌≡◌, ◌+◌, ℕ, zero, suc, Bool, List, [], ◌∷◌, ◌++◌, Ok, Err, refl, sym, ap, ◌∙◌, arith, subst}
use Rattle.c_syntax.specs.declared.id.ExprId.{ExprId}
use Rattle.c_syntax.specs.Nodes.{Nodes}
use Rattle.c_syntax.specs.Syntax.{Expr, Exprs, NoExprs, MoreExprs}
use Rattle.c_syntax.specs.Stands.{Stands, StandExprs}
use Rattle.c_types_model.specs.Types.{CType, CTypes, NoTypes, MoreTypes}
use Rattle.c_types_rules.specs.Checked.{Checked, Fine, Noted, Broken, ◌>>=◌, Notes}
use Rattle.c_types_rules.specs.Environment.{Environment}
use Rattle.c_types_rules.specs.Expressions.{arguments, expression, start_of}
use Rattle.c_types_rules.specs.Operators.{assigned}
use Rattle.c_types_rules.specs.TypedTree.{Value, Values, NoValues, MoreValues, value_of}
use Rattle.c_types_nodes.specs.declared.ids.NodeId.{NodeId}
use Rattle.c_types_nodes.specs.Tables.{Table, Keeps, value_at}
use Rattle.c_types_operators.specs.declared.error.TypeError.{TypeError}
use Rattle.c_types_operators.specs.declared.error.TypeError.TheVariants.{Rule}
use Rattle.c_types_operators.specs.Answers.{IsAt}
use Rattle.c_types_operators.specs.Calls.{types_after}
use Rattle.c_types_environment.specs.States.{notes_of, State}
use Rattle.c_types_expressions.specs.Found.{Found, Finds, AreValues}
use Rattle.c_types_expressions.specs.Pieces.{argument, argument_of}
use Rattle.c_types_expressions.proofs.Sequences.{passed, gone_on, stopped_in, in_turn, same_steps}
use Rattle.c_types_expressions.proofs.Kept.{values_stay, value_is}
use Rattle.c_types_expressions.proofs.Lists.{first_expr, no_expr}
use Rattle.c_types_expressions.proofs.Rests.{RestOfArguments, values_joined}

-- ---- lists of values

joined_more : (vs : Values) (v : Value) (us : Values) → values_joined (values_joined vs (MoreValues v NoValues)) us ≡ values_joined vs (MoreValues v us)
joined_more NoValues v us = refl
joined_more (MoreValues w vs) v us = ap (MoreValues w) (joined_more vs v us)

joined_end : (vs : Values) → values_joined vs NoValues ≡ vs
joined_end NoValues = refl
joined_end (MoreValues v vs) = ap (MoreValues v) (joined_end vs)

one_value_more : (table : Table) (vs : Values) (ids : List NodeId) (v : Value) (id : NodeId) → AreValues table vs ids → IsAt table v id → AreValues table (values_joined vs (MoreValues v NoValues)) (ids ++ id ∷ [])
one_value_more table NoValues [] v id h p = (p, tt)
one_value_more table NoValues (i ∷ ids) v id h p = absurd h
one_value_more table (MoreValues w vs) [] v id h p = absurd h
one_value_more table (MoreValues w vs) (i ∷ ids) v id h p = (h.0, one_value_more table vs ids v id h.1 p)

nothing_before : (c : Checked Values) → (c >>= (λ vs. Fine (values_joined NoValues vs))) ≡ c
nothing_before (Fine x) = refl
nothing_before (Noted n x) = refl
nothing_before (Broken from rule) = refl

-- ---- parameters that are left

abbrev after_one : CTypes → CTypes
after_one NoTypes = NoTypes
after_one (MoreTypes t ts) = ts

after_next : (n : ℕ) (ts : CTypes) → types_after (suc n) ts ≡ after_one (types_after n ts)
after_next zero NoTypes = refl
after_next zero (MoreTypes t ts) = refl
after_next (suc n) NoTypes = refl
after_next (suc n) (MoreTypes t ts) = after_next n ts

after_more : (n : ℕ) (ts : CTypes) → types_after (n + 1) ts ≡ after_one (types_after n ts)
after_more n ts = let next : n + 1 ≡ suc n = omega arith in ap (λ k. types_after k ts) next ∙ after_next n ts

-- ---- one argument

rest_is : (x : Expr) (xs : Exprs) (E : Environment) (from : ℕ) (us : CTypes) (K : Values → Checked Values) →
    (arguments (MoreExprs x xs) E from us >>= K) ≡ (argument_of x E from us >>= (λ v. arguments xs E from (after_one us) >>= (λ vs. K (MoreValues v vs))))
rest_is x xs E from NoTypes K = refl
rest_is x xs E from (MoreTypes t ts) K =
    in_turn (expression x E) _ K
    ∙ (same_steps (expression x E) _ _ (λ a. in_turn (assigned (start_of x) t (value_of a)) _ K
    ∙ same_steps (assigned (start_of x) t (value_of a)) _ _ (λ v. in_turn (arguments xs E from ts) (λ vs. Fine (MoreValues v vs)) K))
    ∙ sym (in_turn (expression x E) (λ a. argument (start_of x) t a) (λ v. arguments xs E from ts >>= (λ vs. K (MoreValues v vs)))))

-- a value that is found is there
there_now : (t : Table) (id : NodeId) (c : Checked Value) (f g : Notes) → Found f g (IsAt t) c (Ok id) → IsAt t (value_at t id) id
there_now t id (Fine v) f g h = subst (λ w. IsAt t w id) (sym (value_is t id v h.0)) h.0
there_now t id (Noted n v) f g h = subst (λ w. IsAt t w id) (sym (value_is t id v h.0)) h.0
there_now t id (Broken from rule) f g h = absurd h

pub arguments_begin : (N : Nodes) (E : Environment) (from : ℕ) (f : Notes) (t : Table) (vs : List ExprId) (xs : Exprs) (ts : CTypes) → StandExprs N vs xs → RestOfArguments N E from f f t [] vs xs ts ts
arguments_begin N E from f t vs xs ts h = record {
  rest = xs;
  stand = h;
  done = NoValues;
  there = tt;
  go_on = λ table h r p. passed f h (AreValues table) _ _ r (sym (nothing_before (arguments xs E from ts))) p;
}

pub arguments_next : (N : Nodes) (E : Environment) (from : ℕ) (f : Notes) (now new : State) (ids : List NodeId) (v : ExprId) (vs us : List ExprId) (xs : Exprs) (ts : CTypes) (number : ℕ) (id : NodeId) → us ≡ v ∷ vs → Keeps now.table new.table → now.env ≡ E →
    RestOfArguments N E from f (notes_of now) now.table ids us xs ts (types_after number ts) →
    ((x : Expr) → Stands N v x → Finds now new (IsAt new.table) (argument_of x now.env from (types_after number ts)) (Ok id)) →
    RestOfArguments N E from f (notes_of new) new.table (ids ++ id ∷ []) vs xs ts (types_after (number + 1) ts)
arguments_next N E from f now new ids v vs us xs ts number id u k e rest given =
    let one = first_expr N v vs rest.rest (subst (λ ws. StandExprs N ws rest.rest) u rest.stand) in
    let there : Finds now new (IsAt new.table) (argument_of one.first E from (types_after number ts)) (Ok id) =
    passed (notes_of now) (notes_of new) (IsAt new.table) _ _ (Ok id) (ap (λ F. argument_of one.first F from (types_after number ts)) (sym e)) (given one.first one.on_first) in
    record {
      rest = one.others;
      stand = one.on_others;
      done = values_joined rest.done (MoreValues (value_at new.table id) NoValues);
      there = one_value_more new.table rest.done ids (value_at new.table id) id (values_stay now.table new.table rest.done ids k rest.there) (there_now new.table id _ _ _ there);
      go_on = λ table h r p. rest.go_on table h r (passed (notes_of now) h (AreValues table) _ _ r
          (ap (λ ys. arguments ys E from (types_after number ts) >>= (λ ws. Fine (values_joined rest.done ws))) one.is ∙ rest_is one.first one.others E from (types_after number ts) (λ ws. Fine (values_joined rest.done ws)))
          (gone_on (notes_of now) (notes_of new) h (IsAt new.table) (AreValues table) (argument_of one.first E from (types_after number ts)) _ id r there (λ w at.
          passed (notes_of new) h (AreValues table) _ _ r
          (ap (λ qs. arguments one.others E from qs >>= (λ ws. Fine (values_joined rest.done (MoreValues w ws)))) (sym (after_more number ts))
          ∙ same_steps (arguments one.others E from (types_after (number + 1) ts)) _ _ (λ ws. ap Fine (ap (λ y. values_joined rest.done (MoreValues y ws)) (sym (value_is new.table id w at)) ∙ sym (joined_more rest.done (value_at new.table id) ws))))
          p)));
    }

pub arguments_stop : (N : Nodes) (E : Environment) (from : ℕ) (f : Notes) (now new : State) (ids : List NodeId) (v : ExprId) (vs us : List ExprId) (xs : Exprs) (ts : CTypes) (number : ℕ) (x : TypeError) → us ≡ v ∷ vs → now.env ≡ E →
    RestOfArguments N E from f (notes_of now) now.table ids us xs ts (types_after number ts) →
    ((y : Expr) → Stands N v y → Finds now new (IsAt new.table) (argument_of y now.env from (types_after number ts)) (Err x)) →
    Found f (notes_of new) (AreValues new.table) (arguments xs E from ts) (Err x)
arguments_stop N E from f now new ids v vs us xs ts number x u e rest given =
    let one = first_expr N v vs rest.rest (subst (λ ws. StandExprs N ws rest.rest) u rest.stand) in
    rest.go_on new.table (notes_of new) (Err x) (passed (notes_of now) (notes_of new) (AreValues new.table) _ _ (Err x)
    (ap (λ ys. arguments ys E from (types_after number ts) >>= (λ ws. Fine (values_joined rest.done ws))) one.is ∙ rest_is one.first one.others E from (types_after number ts) (λ ws. Fine (values_joined rest.done ws)))
    (stopped_in (notes_of now) (notes_of new) (notes_of new) (IsAt new.table) (AreValues new.table) (argument_of one.first E from (types_after number ts)) _ x
    (passed (notes_of now) (notes_of new) (IsAt new.table) _ _ (Err x) (ap (λ F. argument_of one.first F from (types_after number ts)) (sym e)) (given one.first one.on_first))))

-- fewer arguments than parameters
pub too_few : (N : Nodes) (E : Environment) (from : ℕ) (f : Notes) (now : State) (ids : List NodeId) (us : List ExprId) (xs : Exprs) (ts : CTypes) (number : ℕ) (t : CType) (qs : CTypes) → us ≡ [] → types_after number ts ≡ MoreTypes t qs →
    RestOfArguments N E from f (notes_of now) now.table ids us xs ts (types_after number ts) → Found f (notes_of now) (AreValues now.table) (arguments xs E from ts) (Err (Rule from 9))
too_few N E from f now ids us xs ts number t qs u more rest =
    let none = no_expr N rest.rest (subst (λ ws. StandExprs N ws rest.rest) u rest.stand) in
    rest.go_on now.table (notes_of now) (Err (Rule from 9)) (passed (notes_of now) (notes_of now) (AreValues now.table) _ _ (Err (Rule from 9))
    (ap (λ ys. arguments ys E from (types_after number ts) >>= (λ ws. Fine (values_joined rest.done ws))) none ∙ ap (λ ps. arguments NoExprs E from ps >>= (λ ws. Fine (values_joined rest.done ws))) more)
    (refl, refl))

pub arguments_end : (N : Nodes) (E : Environment) (from : ℕ) (f : Notes) (now : State) (ids : List NodeId) (us : List ExprId) (xs : Exprs) (ts : CTypes) (number : ℕ) → us ≡ [] → types_after number ts ≡ NoTypes →
    RestOfArguments N E from f (notes_of now) now.table ids us xs ts (types_after number ts) → Found f (notes_of now) (AreValues now.table) (arguments xs E from ts) (Ok ids)
arguments_end N E from f now ids us xs ts number u no_more rest =
    let none = no_expr N rest.rest (subst (λ ws. StandExprs N ws rest.rest) u rest.stand) in
    rest.go_on now.table (notes_of now) (Ok ids) (passed (notes_of now) (notes_of now) (AreValues now.table) _ _ (Ok ids)
    (ap (λ ys. arguments ys E from (types_after number ts) >>= (λ ws. Fine (values_joined rest.done ws))) none ∙ (ap (λ ps. arguments NoExprs E from ps >>= (λ ws. Fine (values_joined rest.done ws))) no_more ∙ ap Fine (joined_end rest.done)))
    (rest.there, refl))
