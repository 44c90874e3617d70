-- Statements while their table grows.
use Rattle.std.proofs.Common.{◌≡◌, length, Option, None, Some, refl, sym, ap, ◌∙◌}
use mathlib.Core.Former.{Count}
use Rattle.c_types_table.specs.declared.ids.TypeId.{TypeId}
use Rattle.c_types_table.specs.Tables.{IsBelow, type_at}
use Rattle.c_types_rules.specs.TypedTree as tree
use Rattle.c_types_rules.specs.TypedTree.{AValue, NoValue, OneValue, MoreStatements}
use Rattle.c_types_nodes.specs.declared.ids.NodeId.{NodeId}
use Rattle.c_types_nodes.specs.Parts.{value_in}
use Rattle.c_types_nodes.specs.Tables.{Table, Keeps, IsValueAt, value_at}
use Rattle.c_types_program.specs.declared.statement.Statement.{Statement, Row_of-Statement, end_of-Statement, more_of-Statement, items-the_row-Statement}
use Rattle.c_types_program.specs.declared.statement.Statement as statements
use Rattle.c_types_program.specs.Statements.{AllStatements, AreStatements, IsMaybeAt, IsStatement, maybe_at, row_in, statement_in, statements_in}

-- statements in a vector, as a list
pub row_is_list : {m : Count} (t : Table) (ss : Row_of-Statement m) → row_in t ss ≡ statements_in t (items-the_row-Statement m ss)
row_is_list t end_of-Statement = refl
row_is_list t (more_of-Statement s ss) = ap (MoreStatements (statement_in t s)) (row_is_list t ss)

pub all_statements : {m : Count} (t : Table) (ss : Row_of-Statement m) → AreStatements t ss → AllStatements t (items-the_row-Statement m ss)
all_statements t end_of-Statement h = tt
all_statements t (more_of-Statement s ss) h = (h.0, all_statements t ss h.1)

pub are_statements : {m : Count} (t : Table) (ss : Row_of-Statement m) → AllStatements t (items-the_row-Statement m ss) → AreStatements t ss
are_statements t end_of-Statement h = tt
are_statements t (more_of-Statement s ss) h = (h.0, are_statements t ss h.1)

module _ (t u : Table) (k : Keeps t u) where
  pub value_kept : (id : NodeId) → IsValueAt t id → value_at u id ≡ value_at t id
  value_kept id h = ap value_in (k.nodes id (AValue (value_at t id)) h)

  pub is_value_kept : (id : NodeId) → IsValueAt t id → IsValueAt u id
  is_value_kept id h = k.nodes id (AValue (value_at t id)) h ∙ ap (λ v. Some (AValue v)) (sym (value_kept id h))

  pub type_kept : (id : TypeId) → IsBelow (length t.types) id → type_at u.types id ≡ type_at t.types id
  type_kept id h = (k.types.names id (type_at t.types id) (record { inside = h; is = refl })).is

  pub is_type_kept : (id : TypeId) → IsBelow (length t.types) id → IsBelow (length u.types) id
  is_type_kept id h = (k.types.names id (type_at t.types id) (record { inside = h; is = refl })).inside

  maybe_kept : (id : Option NodeId) → IsMaybeAt t id → maybe_at u id ≡ maybe_at t id
  maybe_kept None h = refl
  maybe_kept (Some id) h = ap OneValue (value_kept id h)

  is_maybe_kept : (id : Option NodeId) → IsMaybeAt t id → IsMaybeAt u id
  is_maybe_kept None h = tt
  is_maybe_kept (Some id) h = is_value_kept id h

  mutual
    pub is_statement_kept : (s : Statement) → IsStatement t s → IsStatement u s
    is_statement_kept (statements.Block' shape ss) h = are_statements_kept ss h
    is_statement_kept (statements.Evaluate v) h = is_value_kept v h
    is_statement_kept (statements.Initialise place ty v) h = (is_type_kept ty h.0, is_value_kept v h.1)
    is_statement_kept (statements.If' v p s) h = (is_value_kept v h.0, is_statement_kept s h.1)
    is_statement_kept (statements.IfElse' v p s q z) h = (is_value_kept v h.0, is_statement_kept s h.1, is_statement_kept z h.2)
    is_statement_kept (statements.While' from v p s) h = (is_value_kept v h.0, is_statement_kept s h.1)
    is_statement_kept (statements.Do' from p s v) h = (is_statement_kept s h.0, is_value_kept v h.1)
    is_statement_kept (statements.For' from shape first v last p s) h = (are_statements_kept first h.0, is_maybe_kept v h.1, is_maybe_kept last h.2, is_statement_kept s h.3)
    is_statement_kept statements.Break h = tt
    is_statement_kept statements.Continue h = tt
    is_statement_kept (statements.Return from v) h = is_maybe_kept v h

    are_statements_kept : {m : Count} (ss : Row_of-Statement m) → AreStatements t ss → AreStatements u ss
    are_statements_kept end_of-Statement h = tt
    are_statements_kept (more_of-Statement s ss) h = (is_statement_kept s h.0, are_statements_kept ss h.1)

  mutual
    pub statement_kept : (s : Statement) → IsStatement t s → statement_in u s ≡ statement_in t s
    statement_kept (statements.Block' shape ss) h = ap tree.Block (row_kept ss h)
    statement_kept (statements.Evaluate v) h = ap tree.Evaluate (value_kept v h)
    statement_kept (statements.Initialise place ty v) h = ap (λ x. tree.Initialise place x (value_at u v)) (type_kept ty h.0) ∙ ap (tree.Initialise place (type_at t.types ty)) (value_kept v h.1)
    statement_kept (statements.If' v p s) h = ap (λ x. tree.If x (statement_in u s)) (value_kept v h.0) ∙ ap (tree.If (value_at t v)) (statement_kept s h.1)
    statement_kept (statements.IfElse' v p s q z) h =
        ap (λ x. tree.IfElse x (statement_in u s) (statement_in u z)) (value_kept v h.0)
        ∙ (ap (λ x. tree.IfElse (value_at t v) x (statement_in u z)) (statement_kept s h.1) ∙ ap (tree.IfElse (value_at t v) (statement_in t s)) (statement_kept z h.2))
    statement_kept (statements.While' from v p s) h = ap (λ x. tree.While from x (statement_in u s)) (value_kept v h.0) ∙ ap (tree.While from (value_at t v)) (statement_kept s h.1)
    statement_kept (statements.Do' from p s v) h = ap (λ x. tree.Do from x (value_at u v)) (statement_kept s h.0) ∙ ap (tree.Do from (statement_in t s)) (value_kept v h.1)
    statement_kept (statements.For' from shape first v last p s) h =
        ap (λ x. tree.For from x (maybe_at u v) (maybe_at u last) (statement_in u s)) (row_kept first h.0)
        ∙ (ap (λ x. tree.For from (row_in t first) x (maybe_at u last) (statement_in u s)) (maybe_kept v h.1)
        ∙ (ap (λ x. tree.For from (row_in t first) (maybe_at t v) x (statement_in u s)) (maybe_kept last h.2) ∙ ap (tree.For from (row_in t first) (maybe_at t v) (maybe_at t last)) (statement_kept s h.3)))
    statement_kept statements.Break h = refl
    statement_kept statements.Continue h = refl
    statement_kept (statements.Return from v) h = ap (tree.Return from) (maybe_kept v h)

    row_kept : {m : Count} (ss : Row_of-Statement m) → AreStatements t ss → row_in u ss ≡ row_in t ss
    row_kept end_of-Statement h = refl
    row_kept (more_of-Statement s ss) h = ap (λ x. MoreStatements x (row_in u ss)) (statement_kept s h.0) ∙ ap (MoreStatements (statement_in t s)) (row_kept ss h.1)
