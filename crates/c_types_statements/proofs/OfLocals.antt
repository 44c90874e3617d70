-- Locals that are declared one after another.
use Rattle.std.proofs.Common.{◌≡◌, ℕ, ◌+◌, ◌<◌, ◌≤◌, List, ◌++◌, length, drop, get_or, Option, Ok, Err, refl, sym, subst}
use Rattle.c_syntax.specs.declared.id.DeclId.{DeclId}
use Rattle.c_syntax.specs.Nodes.{Nodes}
use Rattle.c_syntax.specs.Syntax.{Decl, Decls}
use Rattle.c_syntax.specs.Stands.{StandsDecl, StandDecls}
use Rattle.c_types_table.specs.declared.ids.TypeId.{TypeId}
use Rattle.c_types_rules.specs.Checked.{◌>>=◌}
use Rattle.c_types_rules.specs.TypedTree.{Statements, NoStatements, joined}
use Rattle.c_types_rules.specs.Statements.{Declared, local, locals_of}
use Rattle.c_types_nodes.specs.Tables.{Keeps}
use Rattle.c_types_program.specs.declared.statement.Statement.{Statement}
use Rattle.c_types_operators.specs.declared.error.TypeError.{TypeError}
use Rattle.c_types_environment.specs.States.{notes_of, State}
use Rattle.c_types_expressions.specs.Found.{Finds}
use Rattle.c_types_statements.specs.Typed.{AreAdded, AddsDeclared, IsLocal, declared_in, listed}
use Rattle.c_types_statements.proofs.Added.{added_on, none_added}
use Rattle.c_types_statements.proofs.Joined.{following, none_read, read_on, read_all, read_off}
use Rattle.c_types_statements.proofs.Lists.{NextDecl, next_decl, no_decl}
use Rattle.c_types_statements.proofs.Passed.{Passed}

-- the locals up to this number are declared
pub record LocalsRead (N : Nodes) (ids : List DeclId) (k : ℕ) (ds : Decls) (d : Declared) (old now : State) (locals : List TypeId) (before after : List Statement) : Type 0 where
  pub rest : Decls
  pub stand : StandDecls N (drop k ids) rest
  pub xs : Statements
  pub added : AreAdded now.table xs before after
  pub reached : Passed (notes_of old) (notes_of now) (locals_of ds d) (following xs (locals_of rest (declared_in now locals)))

module _ (N : Nodes) (ids : List DeclId) (ds : Decls) (old : State) (before : List Statement) where
  pub no_local_read : (locals : List TypeId) → StandDecls N ids ds → LocalsRead N ids 0 ds (declared_in old locals) old old locals before before
  no_local_read locals h = record { rest = ds; stand = h; xs = NoStatements; added = none_added old.table before; reached = none_read (notes_of old) (locals_of ds (declared_in old locals)) }

  module _ (d : Declared) (k : ℕ) (now : State) (locals : List TypeId) (after : List Statement) (read : LocalsRead N ids k ds d old now locals before after) where
    pub reached_next : (id : DeclId) (n : NextDecl N ids k id read.rest) → Passed (notes_of old) (notes_of now) (locals_of ds d) (following read.xs (local n.decl (declared_in now locals) >>= (λ a. following a.1 (locals_of n.more a.0))))
    reached_next id n = let P : Decls → Type 0 = λ z. Passed (notes_of old) (notes_of now) (locals_of ds d) (following read.xs (locals_of z (declared_in now locals))) in subst P n.is read.reached

    pub local_read : (id : DeclId) (next : State) (found : List TypeId) (first : Option Statement) (new : List Statement) → k < length ids → Keeps now.table next.table
        → ((x : Decl) → StandsDecl N (get_or ids k id) x → Finds now next (IsLocal next found) (local x (declared_in now locals)) (Ok first))
        → new ≡ after ++ listed first → LocalsRead N ids (k + 1) ds d old next found before new
    local_read id next found first new l keeps agrees e =
        let n = next_decl N ids k id read.rest l read.stand in
        let r = read_on (notes_of old) (notes_of now) (notes_of next) (locals_of ds d) read.xs (IsLocal next found) (local n.decl (declared_in now locals)) (locals_of n.more) first (reached_next id n) (agrees n.decl n.stands) in
        let P : Declared → Type 0 = λ z. Passed (notes_of old) (notes_of next) (locals_of ds d) (following (joined read.xs r.0.1) (locals_of n.more z)) in
        record { rest = n.more; stand = n.stand; xs = joined read.xs r.0.1; added = added_on now.table next.table read.xs r.0.1 before after (listed first) new keeps read.added r.1.1 e; reached = subst P (sym r.1.0) r.2 }

    pub local_broken : (id : DeclId) (next last : State) (found all : List TypeId) (new : List Statement) (e : TypeError) → k < length ids
        → ((x : Decl) → StandsDecl N (get_or ids k id) x → Finds now next (IsLocal next found) (local x (declared_in now locals)) (Err e))
        → Finds old last (AddsDeclared last all before new) (locals_of ds d) (Err e)
    local_broken id next last found all new e l agrees =
        let n = next_decl N ids k id read.rest l read.stand in
        read_off (notes_of old) (notes_of now) (notes_of next) (notes_of last) (locals_of ds d) read.xs (IsLocal next found) (AddsDeclared last all before new) (local n.decl (declared_in now locals)) (λ a. following a.1 (locals_of n.more a.0)) e (reached_next id n) (agrees n.decl n.stands)

    pub locals_read : length ids ≤ k → Finds old now (AddsDeclared now locals before after) (locals_of ds d) (Ok tt)
    locals_read l =
        let P : Decls → Type 0 = λ z. Passed (notes_of old) (notes_of now) (locals_of ds d) (following read.xs (locals_of z (declared_in now locals))) in
        read_all (notes_of old) (notes_of now) (locals_of ds d) read.xs (AddsDeclared now locals before after) (declared_in now locals) tt (subst P (no_decl N ids k read.rest l read.stand) read.reached) (refl, read.added)
