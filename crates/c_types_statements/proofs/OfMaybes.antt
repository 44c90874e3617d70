-- Values and conditions where one may be there, and returns.
use Rattle.std.proofs.Common.{◌≡◌, ℕ, false, Option, Some, None, Ok, Err, refl, sym, subst}
use Rattle.c_syntax.specs.declared.id.ExprId.{ExprId}
use Rattle.c_syntax.specs.Nodes.{Nodes}
use Rattle.c_syntax.specs.Syntax.{Expr, MaybeExpr, NoExpr, OneExpr}
use Rattle.c_syntax.specs.Stands.{Stands, StandsMaybe}
use Rattle.c_types_model.specs.Types.{CType}
use Rattle.c_types_rules.specs.Statements.{condition_in, maybe_condition, maybe_in, returned, value_in}
use Rattle.c_types_rules.specs.TypeTests.{is_void}
use Rattle.c_types_rules.specs.TypedTree as typed
use Rattle.c_types_rules.specs.TypedTree.{NoValue, OneValue, Value}
use Rattle.c_types_nodes.specs.declared.ids.NodeId.{NodeId}
use Rattle.c_types_program.specs.declared.statement.Statement.{Statement}
use Rattle.c_types_operators.specs.declared.error.TypeError.{TypeError}
use Rattle.c_types_operators.specs.Answers.{IsAt}
use Rattle.c_types_environment.specs.States.{State}
use Rattle.c_types_expressions.specs.Found.{Finds}
use Rattle.c_types_expressions.specs.Walks.{IsExpr}
use Rattle.c_types_statements.specs.Pieces.{converted_in}
use Rattle.c_types_statements.specs.Typed.{MaybeStands, StatementStands}
use Rattle.c_types_statements.specs.Walks.{IsMaybeExpr}
use Rattle.c_types_statements.proofs.OfValues.{maybe_none, maybe_some, no_value_stands, one_broken, one_stands, returned_broken, returned_found}
use Rattle.c_types_statements.proofs.Parts.{maybe_is}

-- ---- the number of none

module _ (N : Nodes) (i : Option ExprId) (none : i ≡ None) (a : State) (x : MaybeExpr) (h : StandsMaybe N i x) where
  none_given : x ≡ NoExpr
  none_given = let P : Option ExprId → Type 0 = λ z. StandsMaybe N z x in maybe_none N x (subst P none h)

  pub no_value : Finds a a (MaybeStands a.table) (maybe_in a.env x) (Ok None)
  no_value = let P : MaybeExpr → Type 0 = λ z. Finds a a (MaybeStands a.table) (maybe_in a.env z) (Ok None) in subst P (sym none_given) (no_value_stands a NoValue refl)

  pub no_test : Finds a a (MaybeStands a.table) (maybe_condition a.env x) (Ok None)
  no_test = let P : MaybeExpr → Type 0 = λ z. Finds a a (MaybeStands a.table) (maybe_condition a.env z) (Ok None) in subst P (sym none_given) (no_value_stands a NoValue refl)

-- ---- the number of one

pub one_is : (N : Nodes) (i : Option ExprId) (j : ExprId) → i ≡ Some j → IsMaybeExpr N i → IsExpr N j
one_is N i j one h = maybe_is N j (subst (IsMaybeExpr N) one h)

module _ (N : Nodes) (i : Option ExprId) (j : ExprId) (one : i ≡ Some j) (a : State) (x : MaybeExpr) (h : StandsMaybe N i x) where
  one_given : (y : Expr) × (x ≡ OneExpr y) × Stands N j y
  one_given = let P : Option ExprId → Type 0 = λ z. StandsMaybe N z x in maybe_some N j x (subst P one h)

  module _ (b : State) where
    pub a_value : (v : NodeId) → ((y : Expr) → Stands N j y → Finds a b (IsAt b.table) (value_in a.env y) (Ok v)) → Finds a b (MaybeStands b.table) (maybe_in a.env x) (Ok (Some v))
    a_value v k =
        let P : MaybeExpr → Type 0 = λ z. Finds a b (MaybeStands b.table) (maybe_in a.env z) (Ok (Some v)) in
        subst P (sym one_given.1) (one_stands a b (value_in a.env one_given.0) v (k one_given.0 one_given.2))

    pub value_breaks : (e : TypeError) → ((y : Expr) → Stands N j y → Finds a b (IsAt b.table) (value_in a.env y) (Err e)) → Finds a b (MaybeStands b.table) (maybe_in a.env x) (Err e)
    value_breaks e k =
        let P : MaybeExpr → Type 0 = λ z. Finds a b (MaybeStands b.table) (maybe_in a.env z) (Err e) in
        subst P (sym one_given.1) (one_broken a b (value_in a.env one_given.0) e (k one_given.0 one_given.2))

    pub a_test : (v : NodeId) → ((y : Expr) → Stands N j y → Finds a b (IsAt b.table) (condition_in a.env y) (Ok v)) → Finds a b (MaybeStands b.table) (maybe_condition a.env x) (Ok (Some v))
    a_test v k =
        let P : MaybeExpr → Type 0 = λ z. Finds a b (MaybeStands b.table) (maybe_condition a.env z) (Ok (Some v)) in
        subst P (sym one_given.1) (one_stands a b (condition_in a.env one_given.0) v (k one_given.0 one_given.2))

    pub test_breaks : (e : TypeError) → ((y : Expr) → Stands N j y → Finds a b (IsAt b.table) (condition_in a.env y) (Err e)) → Finds a b (MaybeStands b.table) (maybe_condition a.env x) (Err e)
    test_breaks e k =
        let P : MaybeExpr → Type 0 = λ z. Finds a b (MaybeStands b.table) (maybe_condition a.env z) (Err e) in
        subst P (sym one_given.1) (one_broken a b (condition_in a.env one_given.0) e (k one_given.0 one_given.2))

    -- its value is returned
    module _ (from : ℕ) (t : CType) where
      pub a_return : (v : NodeId) (s : Statement) → is_void t ≡ false → ((y : Expr) → Stands N j y → Finds a b (IsAt b.table) (converted_in a.env t y) (Ok v))
          → ((u : Value) → IsAt b.table u v → StatementStands b.table (typed.Return from (OneValue u)) s) → Finds a b (StatementStands b.table) (returned a.env from t x) (Ok s)
      a_return v s gives k makes =
          let P : MaybeExpr → Type 0 = λ z. Finds a b (StatementStands b.table) (returned a.env from t z) (Ok s) in
          subst P (sym one_given.1) (returned_found a b from t one_given.0 v s gives (k one_given.0 one_given.2) makes)

      pub return_breaks : (e : TypeError) → is_void t ≡ false → ((y : Expr) → Stands N j y → Finds a b (IsAt b.table) (converted_in a.env t y) (Err e)) → Finds a b (StatementStands b.table) (returned a.env from t x) (Err e)
      return_breaks e gives k =
          let P : MaybeExpr → Type 0 = λ z. Finds a b (StatementStands b.table) (returned a.env from t z) (Err e) in
          subst P (sym one_given.1) (returned_broken a b from t one_given.0 e gives (k one_given.0 one_given.2))
