-- What scalars have before a run, by what their expressions are.
use Rattle.std.proofs.Common.{◌≡◌, ℕ, ℤ, length, Bool, Option, Some, None, Result, Ok, Err, refl, sym, ap, ◌∙◌, subst}
use Rattle.std.specs.Option.{option_map}
use Rattle.std.specs.Result.{IsErrAnd}
use Rattle.c_syntax.specs.Nodes.{Nodes}
use Rattle.c_syntax.specs.Syntax.{Expr}
use Rattle.c_types_table.specs.declared.ids.TypeId.{TypeId}
use Rattle.c_types_table.specs.Tables.{IsBelow, type_at}
use Rattle.c_types_rules.specs.Checked.{Notes, Checked, Fine, need, ◌>>=◌, ◌>>◌}
use Rattle.c_types_rules.specs.Constants.{integer_constant}
use Rattle.c_types_rules.specs.Expressions.{expression, start_of}
use Rattle.c_types_rules.specs.Initials as initials
use Rattle.c_types_rules.specs.Initials.{address_in, global_known, known, known_before, known_by, named_under_address, number_or, stored_as}
use Rattle.c_types_rules.specs.Operators.{assigned}
use Rattle.c_types_rules.specs.TypedTree.{AValue, Typed, value_of}
use Rattle.c_types_nodes.specs.declared.ids.NodeId.{NodeId}
use Rattle.c_types_nodes.specs.Tables.{IsNode, node_at, typed_at, value_at}
use Rattle.c_types_program.specs.declared.global.Known.{Known}
use Rattle.c_types_program.specs.declared.global.Known.TheVariants as knowns
use Rattle.c_types_program.specs.Declarations.{known_in}
use Rattle.c_types_operators.specs.declared.error.TypeError.{TypeError}
use Rattle.c_types_operators.specs.declared.error.TypeError.TheVariants.{Rule, Memory}
use Rattle.c_types_operators.specs.Answers.{Agrees, IsAt, StandsAt}
use Rattle.c_types_environment.specs.States.{notes_of, State, KeepsAll}
use Rattle.c_types_expressions.specs.Found.{Finds, Found, Stays}
use Rattle.c_types_expressions.proofs.Kept.{is_node, node_is, node_stays, type_stays, value_is}
use Rattle.c_types_expressions.proofs.Operands.{agrees_as}
use Rattle.c_types_expressions.proofs.Sequences.{gone_on, gone_on_after, noted_nothing, passed, since, stopped_before, stopped_in, there}
use Rattle.c_types_initializers.specs.Pieces.{MayStand}
use Rattle.c_types_initializers.specs.Values.{IsKnown}

-- of memory nothing is said
pub of_memory : {A B : Type 0} (f g : Notes) (is : A → B → Type 0) (c : Checked A) (e : TypeError) → e ≡ Memory → Found f g is c (Err e)
of_memory f g is c e h = let P : TypeError → Type 0 = λ z. Found f g is c (Err z) in subst P (sym h) tt

-- what a callee broke is handed on
pub handed_on : {A B : Type 0} (f g : Notes) (is : A → B → Type 0) (c : Checked A) (r : Result B TypeError) (e : TypeError) → IsErrAnd r (λ x. x ≡ e) → Found f g is c (Err e) → Found f g is c r
handed_on f g is c (Ok y) e h k = absurd h
handed_on f g is c (Err x) e h k = let P : TypeError → Type 0 = λ z. Found f g is c (Err z) in subst P (sym h) k

-- the value that stands at a number
value_at_is : (s t : State) (node v : NodeId) → typed_at t.table v ≡ Some (AValue (value_of (node_at s.table node))) → value_at t.table v ≡ value_of (node_at s.table node)
value_at_is s t node v h = value_is t.table v (value_of (node_at s.table node)) h

-- ---- scalars

module _ (a b : State) (x : Expr) (ty : TypeId) where
  -- what is found after the expression
  abbrev after : Typed → Checked initials.Known
  after y = known_before a.env x y >>= (λ k. assigned (start_of x) (type_at a.table.types ty) (value_of y) >> Fine (stored_as (type_at a.table.types ty) k))

  pub scalar_broken : (e : TypeError) → Finds a b (StandsAt b.table) (expression x a.env) (Err e) → Finds a b IsKnown (known a.env (type_at a.table.types ty) x) (Err e)
  scalar_broken e h = stopped_in (notes_of a) (notes_of b) (notes_of b) (StandsAt b.table) IsKnown (expression x a.env) after e h

  module _ (node : NodeId) (found : Finds a b (StandsAt b.table) (expression x a.env) (Ok node)) (one : Stays a b) (low : IsBelow (length a.table.types) ty) where
    pub node_there : IsNode b.table node
    node_there = let h = there (notes_of a) (notes_of b) (StandsAt b.table) (expression x a.env) node found in is_node b.table node h.0 h.1

    -- the same at the node
    as_known : (c : State) (y : Typed) (r : Result Known TypeError) → StandsAt b.table y node → Finds b c IsKnown (known_before b.env x (node_at b.table node)) r → Finds b c IsKnown (known_before a.env x y) r
    as_known c y r at h =
        let same : known_before a.env x y ≡ known_before b.env x (node_at b.table node) = ap (λ z. known_before z x y) (sym one.env) ∙ ap (known_before b.env x) (sym (node_is b.table node y at)) in
        passed (notes_of b) (notes_of c) IsKnown _ _ r same h

    pub known_broken : (c : State) (e : TypeError) → Finds b c IsKnown (known_before b.env x (node_at b.table node)) (Err e) → Finds a c IsKnown (known a.env (type_at a.table.types ty) x) (Err e)
    known_broken c e h =
        gone_on (notes_of a) (notes_of b) (notes_of c) (StandsAt b.table) IsKnown (expression x a.env) after node (Err e) found (λ y at.
        stopped_in (notes_of b) (notes_of c) (notes_of c) IsKnown IsKnown (known_before a.env x y) (λ k. assigned (start_of x) (type_at a.table.types ty) (value_of y) >> Fine (stored_as (type_at a.table.types ty) k)) e (as_known c y (Err e) at h))

    module _ (c d e : State) (k : Known) (knows : Finds b c IsKnown (known_before b.env x (node_at b.table node)) (Ok k)) (two : Stays b c) (three : KeepsAll c d)
        (v : NodeId) (valued : typed_at d.table v ≡ Some (AValue (value_of (node_at c.table node)))) (from : ℕ) (starts : from ≡ start_of x) (four : KeepsAll d e) where
      low_b : IsBelow (length b.table.types) ty
      low_b = (one.numbers.types.names ty (type_at a.table.types ty) (record { inside = low; is = refl })).inside

      low_c : IsBelow (length c.table.types) ty
      low_c = (two.numbers.types.names ty (type_at b.table.types ty) (record { inside = low_b; is = refl })).inside

      low_d : IsBelow (length d.table.types) ty
      low_d = (three.numbers.types.names ty (type_at c.table.types ty) (record { inside = low_c; is = refl })).inside

      same_type : type_at d.table.types ty ≡ type_at a.table.types ty
      same_type = type_stays c.table d.table ty three.numbers low_c ∙ (type_stays b.table c.table ty two.numbers low_b ∙ type_stays a.table b.table ty one.numbers low)

      pub type_there : IsBelow (length e.table.types) ty
      type_there = (four.numbers.types.names ty (type_at d.table.types ty) (record { inside = low_d; is = refl })).inside

      assigned_so : (y : Typed) (r : Result NodeId TypeError) → StandsAt b.table y node → Agrees (IsAt e.table) (assigned from (type_at d.table.types ty) (value_at d.table v)) r
          → Finds c e (IsAt e.table) (assigned (start_of x) (type_at a.table.types ty) (value_of y)) r
      assigned_so y r at h =
          let value : value_at d.table v ≡ value_of y = value_is d.table v (value_of (node_at c.table node)) valued ∙ ap value_of (node_is c.table node y (two.numbers.nodes node y at)) in
          let same : assigned (start_of x) (type_at a.table.types ty) (value_of y) ≡ assigned from (type_at d.table.types ty) (value_at d.table v) =
          ap (λ z. assigned z (type_at a.table.types ty) (value_of y)) (sym starts)
          ∙ (ap (λ z. assigned from z (value_of y)) (sym same_type) ∙ ap (assigned from (type_at d.table.types ty)) (sym value)) in
          noted_nothing (notes_of c) (notes_of e) (IsAt e.table) (assigned (start_of x) (type_at a.table.types ty) (value_of y)) r (four.notes ∙ three.notes) (agrees_as (IsAt e.table) _ _ r same h)

      pub assigned_broken : (wrong : TypeError) → Agrees (IsAt e.table) (assigned from (type_at d.table.types ty) (value_at d.table v)) (Err wrong) → Finds a e IsKnown (known a.env (type_at a.table.types ty) x) (Err wrong)
      assigned_broken wrong h =
          gone_on (notes_of a) (notes_of b) (notes_of e) (StandsAt b.table) IsKnown (expression x a.env) after node (Err wrong) found (λ y at.
          gone_on (notes_of b) (notes_of c) (notes_of e) IsKnown IsKnown (known_before a.env x y) (λ k. assigned (start_of x) (type_at a.table.types ty) (value_of y) >> Fine (stored_as (type_at a.table.types ty) k)) k (Err wrong) (as_known c y (Ok k) at knows) (λ q is.
          stopped_before (notes_of c) (notes_of e) (notes_of e) (IsAt e.table) IsKnown (assigned (start_of x) (type_at a.table.types ty) (value_of y)) (Fine (stored_as (type_at a.table.types ty) q)) wrong (assigned_so y (Err wrong) at h)))

      pub scalar_found : (w : NodeId) (made : Known) → Agrees (IsAt e.table) (assigned from (type_at d.table.types ty) (value_at d.table v)) (Ok w) → known_in made ≡ stored_as (type_at e.table.types ty) (known_in k)
          → Finds a e IsKnown (known a.env (type_at a.table.types ty) x) (Ok made)
      scalar_found w made h stored =
          gone_on (notes_of a) (notes_of b) (notes_of e) (StandsAt b.table) IsKnown (expression x a.env) after node (Ok made) found (λ y at.
          gone_on (notes_of b) (notes_of c) (notes_of e) IsKnown IsKnown (known_before a.env x y) (λ k. assigned (start_of x) (type_at a.table.types ty) (value_of y) >> Fine (stored_as (type_at a.table.types ty) k)) k (Ok made) (as_known c y (Ok k) at knows) (λ q is.
          let type : type_at e.table.types ty ≡ type_at a.table.types ty = type_stays d.table e.table ty four.numbers low_d ∙ same_type in
          let what : known_in made ≡ stored_as (type_at a.table.types ty) q = stored ∙ (ap (λ u. stored_as u (known_in k)) type ∙ ap (stored_as (type_at a.table.types ty)) is) in
          gone_on_after (notes_of c) (notes_of e) (notes_of e) (IsAt e.table) IsKnown (assigned (start_of x) (type_at a.table.types ty) (value_of y)) (Fine (stored_as (type_at a.table.types ty) q)) w (Ok made) (assigned_so y (Ok w) at h) (what, refl)))

-- ---- what is known

module _ (a b : State) (x : Expr) (node v : NodeId) (valued : typed_at b.table v ≡ Some (AValue (value_of (node_at a.table node)))) (one : KeepsAll a b) where
  value_known : integer_constant (value_at b.table v) ≡ integer_constant (value_of (node_at a.table node))
  value_known = ap integer_constant (value_at_is a b node v valued)

  -- a number
  pub number_known : (n : ℤ) → Some n ≡ integer_constant (value_at b.table v) → Finds a b IsKnown (known_before a.env x (node_at a.table node)) (Ok (knowns.Number n))
  number_known n h =
      let P : Option ℤ → Type 0 = λ o. Finds a b IsKnown (number_or o (address_in a.env x (node_at a.table node) (named_under_address x))) (Ok (knowns.Number n)) in
      subst P (h ∙ value_known) (refl, one.notes)

  -- an address
  pub address_known : (c : State) (r : Result Known TypeError) → None ≡ integer_constant (value_at b.table v) → IsNode a.table node → Finds b c IsKnown (address_in b.env x (node_at b.table node) (named_under_address x)) r
      → Finds a c IsKnown (known_before a.env x (node_at a.table node)) r
  address_known c r h inside q =
      let P : Option ℤ → Type 0 = λ o. Finds a c IsKnown (number_or o (address_in a.env x (node_at a.table node) (named_under_address x))) r in
      let same : address_in a.env x (node_at a.table node) (named_under_address x) ≡ address_in b.env x (node_at b.table node) (named_under_address x) =
      ap (λ E. address_in E x (node_at a.table node) (named_under_address x)) (sym one.env) ∙ ap (λ y. address_in b.env x y (named_under_address x)) (sym (node_stays a.table b.table node one.numbers inside)) in
      subst P (h ∙ value_known) (since (notes_of b) (notes_of a) (notes_of c) IsKnown (address_in a.env x (node_at a.table node) (named_under_address x)) r one.notes (passed (notes_of b) (notes_of c) IsKnown _ _ r same q))

-- ---- addresses

-- what is needed is there, or it isn't
needed : (a b : State) (from wrong : ℕ) (o : Option Known) (c : Option initials.Known) (r : Result Known TypeError) → (notes_of b) ≡ (notes_of a) → option_map known_in o ≡ c
    → ((k : Known) → o ≡ Some k → r ≡ Ok k) → (o ≡ None → r ≡ Err (Rule wrong 16)) → wrong ≡ from → Finds a b IsKnown (need from 16 c) r
needed a b from wrong (Some k) c r l e some none at =
    let P : Option initials.Known → Type 0 = λ z. Finds a b IsKnown (need from 16 z) r in
    let Q : Result Known TypeError → Type 0 = λ z. Finds a b IsKnown (need from 16 (Some (known_in k))) z in
    subst P e (subst Q (sym (some k refl)) (refl, l))
needed a b from wrong None c r l e some none at =
    let P : Option initials.Known → Type 0 = λ z. Finds a b IsKnown (need from 16 z) r in
    let Q : Result Known TypeError → Type 0 = λ z. Finds a b IsKnown (need {A = initials.Known} from 16 None) z in
    subst P e (subst Q (sym (none refl)) (at, refl))

-- `&` of what is named
module _ (a b : State) (x : Expr) (y : Typed) (z : Expr) (named : named_under_address x ≡ Some z) where
  pub named_broken : (e : TypeError) → Finds a b (StandsAt b.table) (expression z a.env) (Err e) → Finds a b IsKnown (address_in a.env x y (named_under_address x)) (Err e)
  named_broken e h =
      let P : Option Expr → Type 0 = λ o. Finds a b IsKnown (address_in a.env x y o) (Err e) in
      subst P (sym named) (stopped_in (notes_of a) (notes_of b) (notes_of b) (StandsAt b.table) IsKnown (expression z a.env) (λ b. need (start_of x) 16 (global_known b)) e h)

  pub named_found : (node : NodeId) (o : Option Known) (r : Result Known TypeError) (wrong : ℕ) → Finds a b (StandsAt b.table) (expression z a.env) (Ok node) → option_map known_in o ≡ global_known (node_at b.table node)
      → ((k : Known) → o ≡ Some k → r ≡ Ok k) → (o ≡ None → r ≡ Err (Rule wrong 16)) → wrong ≡ start_of x → Finds a b IsKnown (address_in a.env x y (named_under_address x)) r
  named_found node o r wrong h e some none at =
      let P : Option Expr → Type 0 = λ q. Finds a b IsKnown (address_in a.env x y q) r in
      subst P (sym named)
      (gone_on (notes_of a) (notes_of b) (notes_of b) (StandsAt b.table) IsKnown (expression z a.env) (λ b. need (start_of x) 16 (global_known b)) node r h (λ w is.
      needed b b (start_of x) wrong o (global_known w) r refl (e ∙ ap global_known (node_is b.table node w is)) some none at))

-- the name itself
pub name_found : (a : State) (x : Expr) (y : Typed) (o : Option Known) (r : Result Known TypeError) (wrong : ℕ) → named_under_address x ≡ None → option_map known_in o ≡ known_by x y
    → ((k : Known) → o ≡ Some k → r ≡ Ok k) → (o ≡ None → r ≡ Err (Rule wrong 16)) → wrong ≡ start_of x → Finds a a IsKnown (address_in a.env x y (named_under_address x)) r
name_found a x y o r wrong no_name e some none at =
    let P : Option Expr → Type 0 = λ q. Finds a a IsKnown (address_in a.env x y q) r in
    subst P (sym no_name) (needed a a (start_of x) wrong o (known_by x y) r refl e some none at)

-- where no number stands for a name, there is none
pub no_name_there : (N : Nodes) (o : Option Expr) → MayStand N o None → o ≡ None
no_name_there N None h = refl
no_name_there N (Some x) h = absurd h
