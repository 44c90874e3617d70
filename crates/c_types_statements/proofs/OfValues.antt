-- The values of expressions, and what they decide.
use Rattle.std.proofs.Common.{◌≡◌, ℕ, length, true, false, Option, Some, None, Result, Ok, Err, refl, sym, ap, ◌∙◌, subst}
use Rattle.c_syntax.specs.declared.id.ExprId.{ExprId}
use Rattle.c_syntax.specs.Nodes.{Nodes}
use Rattle.c_syntax.specs.Syntax.{Expr, MaybeExpr, NoExpr, OneExpr}
use Rattle.c_syntax.specs.Stands.{Stands, StandsMaybe}
use Rattle.c_types_model.specs.Types.{CType, Void, Integer, PointerTo, ArrayOf, StructOf, UndefinedStruct, FunctionOf}
use Rattle.c_types_table.specs.declared.ids.TypeId.{TypeId}
use Rattle.c_types_table.specs.Tables.{IsBelow, type_at}
use Rattle.c_types_rules.specs.Checked.{Checked, Fine, ◌>>=◌, ◌>>◌}
use Rattle.c_types_rules.specs.Environment.{Environment}
use Rattle.c_types_rules.specs.Expressions.{expression, start_of}
use Rattle.c_types_rules.specs.Operators.{assigned, scalar}
use Rattle.c_types_rules.specs.Statements.{condition_in, evaluated, maybe_in, returned, value_in}
use Rattle.c_types_rules.specs.TypeTests.{is_scalar, is_void}
use Rattle.c_types_rules.specs.TypedTree as typed
use Rattle.c_types_rules.specs.TypedTree.{AValue, MaybeValue, OneValue, Value, typed_type, value_of, value_type}
use Rattle.c_types_nodes.specs.declared.ids.NodeId.{NodeId}
use Rattle.c_types_nodes.specs.Tables.{IsNode, IsValueAt, Names, node_at, typed_at, value_at}
use Rattle.c_types_program.specs.declared.statement.Statement.{Statement}
use Rattle.c_types_operators.specs.declared.error.TypeError.{TypeError}
use Rattle.c_types_operators.specs.declared.error.TypeError.TheVariants.{Rule}
use Rattle.c_types_operators.specs.Answers.{Agrees, IsAt, StandsAt}
use Rattle.c_types_environment.specs.States.{notes_of, State, KeepsAll}
use Rattle.c_types_expressions.specs.Found.{Finds, Stays}
use Rattle.c_types_expressions.proofs.Kept.{is_node, is_value, node_is, type_stays, value_is}
use Rattle.c_types_expressions.proofs.Operands.{agrees_as}
use Rattle.c_types_expressions.proofs.Sequences.{gone_on, in_turn, kept, not_kept, noted_nothing, stopped_in, there}
use Rattle.c_types_statements.specs.Pieces.{converted_in, evaluated_in}
use Rattle.c_types_statements.specs.Typed.{MaybeStands, StatementStands}

-- ---- values

module _ (a b : State) (x : Expr) where
  pub value_broken : (e : TypeError) → Finds a b (StandsAt b.table) (expression x a.env) (Err e) → Finds a b (IsAt b.table) (value_in a.env x) (Err e)
  value_broken e h = stopped_in (notes_of a) (notes_of b) (notes_of b) (StandsAt b.table) (IsAt b.table) (expression x a.env) (λ y. Fine (value_of y)) e h

  module _ (node : NodeId) (found : Finds a b (StandsAt b.table) (expression x a.env) (Ok node)) where
    pub node_there : IsNode b.table node
    node_there = let h = there (notes_of a) (notes_of b) (StandsAt b.table) (expression x a.env) node found in is_node b.table node h.0 h.1

    pub value_found : (c : State) (v : NodeId) → KeepsAll b c → typed_at c.table v ≡ Some (AValue (value_of (node_at b.table node))) → Finds a c (IsAt c.table) (value_in a.env x) (Ok v)
    value_found c v k h =
        gone_on (notes_of a) (notes_of b) (notes_of c) (StandsAt b.table) (IsAt c.table) (expression x a.env) (λ y. Fine (value_of y)) node (Ok v) found (λ y at.
        (h ∙ ap (λ z. Some (AValue (value_of z))) (node_is b.table node y at), k.notes))

-- the value of an expression is a value
pub value_there : (a b : State) (x : Expr) (v : NodeId) → Finds a b (IsAt b.table) (value_in a.env x) (Ok v) → IsValueAt b.table v
value_there a b x v h = let k = there (notes_of a) (notes_of b) (IsAt b.table) (value_in a.env x) v h in is_value b.table v k.0 k.1

-- and a node
pub value_node : (a b : State) (x : Expr) (v : NodeId) → Finds a b (IsAt b.table) (value_in a.env x) (Ok v) → IsNode b.table v
value_node a b x v h = let k = there (notes_of a) (notes_of b) (IsAt b.table) (value_in a.env x) v h in is_node b.table v (AValue k.0) k.1

-- ---- values that are converted

pub converted_broken : (a b : State) (t : CType) (x : Expr) (e : TypeError) → Finds a b (IsAt b.table) (value_in a.env x) (Err e) → Finds a b (IsAt b.table) (converted_in a.env t x) (Err e)
converted_broken a b t x e h = stopped_in (notes_of a) (notes_of b) (notes_of b) (IsAt b.table) (IsAt b.table) (value_in a.env x) (λ v. assigned (start_of x) t v) e h

pub converted_found : (a b c : State) (ty : TypeId) (x : Expr) (v : NodeId) (from : ℕ) (r : Result NodeId TypeError) → IsBelow (length a.table.types) ty → Finds a b (IsAt b.table) (value_in a.env x) (Ok v) → Stays a b
    → from ≡ start_of x → Agrees (IsAt c.table) (assigned from (type_at b.table.types ty) (value_at b.table v)) r → KeepsAll b c → Finds a c (IsAt c.table) (converted_in a.env (type_at a.table.types ty) x) r
converted_found a b c ty x v from r low found one starts h k =
    gone_on (notes_of a) (notes_of b) (notes_of c) (IsAt b.table) (IsAt c.table) (value_in a.env x) (λ y. assigned (start_of x) (type_at a.table.types ty) y) v r found (λ y at.
    let type : type_at b.table.types ty ≡ type_at a.table.types ty = type_stays a.table b.table ty one.numbers low in
    let value : value_at b.table v ≡ y = value_is b.table v y at in
    let same : assigned (start_of x) (type_at a.table.types ty) y ≡ assigned from (type_at b.table.types ty) (value_at b.table v) = cc in
    noted_nothing (notes_of b) (notes_of c) (IsAt c.table) (assigned (start_of x) (type_at a.table.types ty) y) r k.notes (agrees_as (IsAt c.table) (assigned (start_of x) (type_at a.table.types ty) y) (assigned from (type_at b.table.types ty) (value_at b.table v)) r same h))

-- ---- conditions

pub condition_broken : (a b : State) (x : Expr) (e : TypeError) → Finds a b (IsAt b.table) (value_in a.env x) (Err e) → Finds a b (IsAt b.table) (condition_in a.env x) (Err e)
condition_broken a b x e h = stopped_in (notes_of a) (notes_of b) (notes_of b) (IsAt b.table) (IsAt b.table) (value_in a.env x) (λ v. scalar (start_of x) v >> Fine v) e h

module _ (a b : State) (x : Expr) (v : NodeId) (ty : TypeId) (found : Finds a b (IsAt b.table) (value_in a.env x) (Ok v)) (names : Names b.table.types ty (typed_type (node_at b.table v))) where
  type_of_value : (y : Value) → IsAt b.table y v → type_at b.table.types ty ≡ value_type y
  type_of_value y at = names.is ∙ ap typed_type (node_is b.table v (AValue y) at)

  pub condition_found : is_scalar (type_at b.table.types ty) ≡ true → Finds a b (IsAt b.table) (condition_in a.env x) (Ok v)
  condition_found holds =
      gone_on (notes_of a) (notes_of b) (notes_of b) (IsAt b.table) (IsAt b.table) (value_in a.env x) (λ y. scalar (start_of x) y >> Fine y) v (Ok v) found (λ y at.
      kept (notes_of b) (notes_of b) (IsAt b.table) (start_of x) 10 (is_scalar (value_type y)) (Fine y) (Ok v) (ap is_scalar (sym (type_of_value y at)) ∙ holds) (at, refl))

  pub no_condition : (from : ℕ) → from ≡ start_of x → is_scalar (type_at b.table.types ty) ≡ false → Finds a b (IsAt b.table) (condition_in a.env x) (Err (Rule from 10))
  no_condition from starts fails =
      gone_on (notes_of a) (notes_of b) (notes_of b) (IsAt b.table) (IsAt b.table) (value_in a.env x) (λ y. scalar (start_of x) y >> Fine y) v (Err (Rule from 10)) found (λ y at.
      let P : ℕ → Type 0 = λ f. Finds b b (IsAt b.table) (scalar (start_of x) y >> Fine y) (Err (Rule f 10)) in
      subst P (sym starts) (not_kept (notes_of b) (notes_of b) (IsAt b.table) (start_of x) 10 (is_scalar (value_type y)) (Fine y) (ap is_scalar (sym (type_of_value y at)) ∙ fails)))

-- ---- values that may be there

pub maybe_none : (N : Nodes) (x : MaybeExpr) → StandsMaybe N None x → x ≡ NoExpr
maybe_none N NoExpr h = refl
maybe_none N (OneExpr x) (j, e, p) = absurd cc

pub maybe_some : (N : Nodes) (i : ExprId) (x : MaybeExpr) → StandsMaybe N (Some i) x → (y : Expr) × (x ≡ OneExpr y) × Stands N i y
maybe_some N i NoExpr h = absurd cc
maybe_some N i (OneExpr x) (j, e, p) = let same : j ≡ i = cc in let P : ExprId → Type 0 = λ k. Stands N k x in (x, refl, subst P same p)

pub no_value_stands : (a : State) (v : MaybeValue) → v ≡ typed.NoValue → Finds a a (MaybeStands a.table) (Fine v) (Ok None)
no_value_stands a v h = (record { inside = tt; is = sym h }, refl)

pub one_stands : (a b : State) (c : Checked Value) (v : NodeId) → Finds a b (IsAt b.table) c (Ok v) → Finds a b (MaybeStands b.table) (c >>= (λ u. Fine (OneValue u))) (Ok (Some v))
one_stands a b c v h =
    gone_on (notes_of a) (notes_of b) (notes_of b) (IsAt b.table) (MaybeStands b.table) c (λ u. Fine (OneValue u)) v (Ok (Some v)) h (λ u at.
    (record { inside = is_value b.table v u at; is = ap OneValue (value_is b.table v u at) }, refl))

pub one_broken : (a b : State) (c : Checked Value) (e : TypeError) → Finds a b (IsAt b.table) c (Err e) → Finds a b (MaybeStands b.table) (c >>= (λ u. Fine (OneValue u))) (Err e)
one_broken a b c e h = stopped_in (notes_of a) (notes_of b) (notes_of b) (IsAt b.table) (MaybeStands b.table) c (λ u. Fine (OneValue u)) e h

-- ---- statements of a value

pub evaluated_found : (a b : State) (x : MaybeExpr) (v : Option NodeId) (s : Statement) → Finds a b (MaybeStands b.table) (maybe_in a.env x) (Ok v)
    → ((y : MaybeValue) → MaybeStands b.table y v → StatementStands b.table (evaluated y) s) → Finds a b (StatementStands b.table) (evaluated_in a.env x) (Ok s)
evaluated_found a b x v s h makes =
    gone_on (notes_of a) (notes_of b) (notes_of b) (MaybeStands b.table) (StatementStands b.table) (maybe_in a.env x) (λ y. Fine (evaluated y)) v (Ok s) h (λ y is. (makes y is, refl))

pub evaluated_broken : (a b : State) (x : MaybeExpr) (e : TypeError) → Finds a b (MaybeStands b.table) (maybe_in a.env x) (Err e) → Finds a b (StatementStands b.table) (evaluated_in a.env x) (Err e)
evaluated_broken a b x e h = stopped_in (notes_of a) (notes_of b) (notes_of b) (MaybeStands b.table) (StatementStands b.table) (maybe_in a.env x) (λ y. Fine (evaluated y)) e h

-- ---- returns

-- what a function gives whose type isn't void
returned_value : (env : Environment) (from : ℕ) (t : CType) (x : Expr) → is_void t ≡ false → returned env from t (OneExpr x) ≡ (converted_in env t x >>= (λ w. Fine (typed.Return from (OneValue w))))
returned_value env from Void x h = absurd cc
returned_value env from (Integer k) x h = sym (in_turn (value_in env x) (λ v. assigned (start_of x) (Integer k) v) (λ w. Fine (typed.Return from (OneValue w))))
returned_value env from (PointerTo t) x h = sym (in_turn (value_in env x) (λ v. assigned (start_of x) (PointerTo t) v) (λ w. Fine (typed.Return from (OneValue w))))
returned_value env from (ArrayOf n t) x h = sym (in_turn (value_in env x) (λ v. assigned (start_of x) (ArrayOf n t) v) (λ w. Fine (typed.Return from (OneValue w))))
returned_value env from (StructOf n) x h = sym (in_turn (value_in env x) (λ v. assigned (start_of x) (StructOf n) v) (λ w. Fine (typed.Return from (OneValue w))))
returned_value env from (UndefinedStruct tag) x h = sym (in_turn (value_in env x) (λ v. assigned (start_of x) (UndefinedStruct tag) v) (λ w. Fine (typed.Return from (OneValue w))))
returned_value env from (FunctionOf t ts) x h = sym (in_turn (value_in env x) (λ v. assigned (start_of x) (FunctionOf t ts) v) (λ w. Fine (typed.Return from (OneValue w))))

module _ (a b : State) (from : ℕ) (t : CType) (x : Expr) where
  pub returned_found : (v : NodeId) (s : Statement) → is_void t ≡ false → Finds a b (IsAt b.table) (converted_in a.env t x) (Ok v)
      → ((y : Value) → IsAt b.table y v → StatementStands b.table (typed.Return from (OneValue y)) s) → Finds a b (StatementStands b.table) (returned a.env from t (OneExpr x)) (Ok s)
  returned_found v s gives h makes =
      let P : Checked typed.Statement → Type 0 = λ c. Finds a b (StatementStands b.table) c (Ok s) in
      subst P (sym (returned_value a.env from t x gives))
      (gone_on (notes_of a) (notes_of b) (notes_of b) (IsAt b.table) (StatementStands b.table) (converted_in a.env t x) (λ w. Fine (typed.Return from (OneValue w))) v (Ok s) h (λ y at. (makes y at, refl)))

  pub returned_broken : (e : TypeError) → is_void t ≡ false → Finds a b (IsAt b.table) (converted_in a.env t x) (Err e) → Finds a b (StatementStands b.table) (returned a.env from t (OneExpr x)) (Err e)
  returned_broken e gives h =
      let P : Checked typed.Statement → Type 0 = λ c. Finds a b (StatementStands b.table) c (Err e) in
      subst P (sym (returned_value a.env from t x gives))
      (stopped_in (notes_of a) (notes_of b) (notes_of b) (IsAt b.table) (StatementStands b.table) (converted_in a.env t x) (λ w. Fine (typed.Return from (OneValue w))) e h)
