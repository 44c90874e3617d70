-- Scopes around statements.
use Rattle.std.proofs.Common.{◌≡◌, ℕ, List, [], ◌∷◌, ◌++◌, Result, Ok, Err, refl, sym, subst}
use Rattle.std.specs.Prelude.{Vec}
use Rattle.std.specs.declared.alloc.Global.{Global}
use Rattle.c_syntax.specs.declared.id.DeclId.{DeclId}
use Rattle.c_syntax.specs.declared.statement.Entry.{Entry as Item}
use Rattle.c_syntax.specs.declared.statement.Entry.TheVariants as items
use Rattle.c_syntax.specs.Nodes.{Nodes}
use Rattle.c_syntax.specs.Stands.{StandDecls, StandsEntry}
use Rattle.c_syntax.specs.Syntax.{Decls, MaybeExpr, First, Stmt, Entries, Entry, LocalEntry, StmtEntry, Block, For}
use Rattle.c_types_table.specs.declared.ids.TypeId.{TypeId}
use Rattle.c_types_rules.specs.Checked.{Fine}
use Rattle.c_types_rules.specs.TypedTree as typed
use Rattle.c_types_rules.specs.TypedTree.{Statements, MoreStatements, NoStatements}
use Rattle.c_types_rules.specs.Statements as rules
use Rattle.c_types_rules.specs.Statements.{Declared, entries, entry, locals_of, outside, statement}
use Rattle.c_types_nodes.specs.Tables.{Table}
use Rattle.c_types_program.specs.declared.statement.Statement.{Statement}
use Rattle.c_types_operators.specs.declared.error.TypeError.{TypeError}
use Rattle.c_types_environment.specs.States.{notes_of, State}
use Rattle.c_types_expressions.specs.Found.{Finds, Stays}
use Rattle.c_types_expressions.proofs.Sequences.{gone_on, stopped_in}
use Rattle.c_types_statements.specs.declared.place.Surroundings.{Surroundings}
use Rattle.c_types_statements.specs.Pieces.{for_here}
use Rattle.c_types_statements.specs.Typed.{AddsDeclared, AreTyped, IsTyped, StatementStands, StatementsStand, declared_in, place_in}
use Rattle.c_types_statements.proofs.Added.{one_stands}
use Rattle.c_types_statements.proofs.Kept.{declared_moved}
use Rattle.c_types_statements.proofs.Scopes.{opened, closed}

module _ (a b : State) (p : Surroundings) (locals found : List TypeId) (es : Entries) where
  pub block_found : (all : Vec Statement Global) (made : Statement) → Finds (opened a) b (AreTyped b found) (entries es (place_in (opened a) p) (declared_in (opened a) locals)) (Ok all)
      → ((t : Table) (xs : Statements) → StatementsStand t xs all.items → StatementStands t (typed.Block xs) made)
      → Finds a (closed b) (IsTyped (closed b) found) (statement (Block 0 es) (place_in a p) (declared_in a locals)) (Ok made)
  block_found all made h makes =
      gone_on (notes_of a) (notes_of b) (notes_of b) (AreTyped b found) (IsTyped (closed b) found) (entries es (place_in (opened a) p) (declared_in (opened a) locals)) (λ y. Fine (y.0, typed.Block y.1)) all (Ok made) h
      (λ y is. ((is.0, makes b.table y.1 is.1), refl))

  pub block_broken : (e : TypeError) → Finds (opened a) b (AreTyped b found) (entries es (place_in (opened a) p) (declared_in (opened a) locals)) (Err e)
      → Finds a (closed b) (IsTyped (closed b) found) (statement (Block 0 es) (place_in a p) (declared_in a locals)) (Err e)
  block_broken e h = stopped_in (notes_of a) (notes_of b) (notes_of b) (AreTyped b found) (IsTyped (closed b) found) (entries es (place_in (opened a) p) (declared_in (opened a) locals)) (λ y. Fine (y.0, typed.Block y.1)) e h

-- a `for` with the scope of its names
pub for_found : (a b : State) (p : Surroundings) (locals found : List TypeId) (from : ℕ) (f : First) (x y : MaybeExpr) (s : Stmt) (r : Result Statement TypeError)
    → Finds (opened a) b (IsTyped b found) (for_here from f x y s (place_in (opened a) p) (declared_in (opened a) locals)) r
    → Finds a (closed b) (IsTyped (closed b) found) (statement (For from f x y s) (place_in a p) (declared_in a locals)) r
for_found a b p locals found from f x y s r h = h

-- ---- a statement in a block

module _ (a b : State) (p : Surroundings) (locals found : List TypeId) (s : Stmt) where
  pub entry_found : (made : Statement) (old new : List Statement) → Finds a b (IsTyped b found) (statement s (place_in a p) (declared_in a locals)) (Ok made) → Stays a b → new ≡ old ++ made ∷ []
      → Finds a b (AddsDeclared b found old new) (entry (StmtEntry s) (place_in a p) (declared_in a locals)) (Ok tt)
  entry_found made old new h one e =
      gone_on (notes_of a) (notes_of b) (notes_of b) (IsTyped b found) (AddsDeclared b found old new) (statement s (place_in a p) (declared_in a locals)) (λ y. Fine (outside a.env y.0, MoreStatements y.1 NoStatements)) made (Ok tt) h
      (λ y is. ((declared_moved a b found y.0 one.env is.0, (made ∷ [], e, one_stands b.table y.1 made is.1)), refl))

  pub statement_breaks : (old new : List Statement) (e : TypeError) → Finds a b (IsTyped b found) (statement s (place_in a p) (declared_in a locals)) (Err e)
      → Finds a b (AddsDeclared b found old new) (entry (StmtEntry s) (place_in a p) (declared_in a locals)) (Err e)
  statement_breaks old new e h =
      stopped_in (notes_of a) (notes_of b) (notes_of b) (IsTyped b found) (AddsDeclared b found old new) (statement s (place_in a p) (declared_in a locals)) (λ y. Fine (outside a.env y.0, MoreStatements y.1 NoStatements)) e h

-- ---- what stands in a block

-- locals in a block
pub local_entry : {B : Type 0} (N : Nodes) (v : Item) (is : List DeclId) → v ≡ items.Local is → (e : Entry) (p : rules.Surroundings) (d : Declared) (a b : State) (goes : Declared × Statements → B → Type 0) (r : Result B TypeError)
    → StandsEntry N v e → ((ds : Decls) → StandDecls N is ds → Finds a b goes (locals_of ds d) r) → Finds a b goes (entry e p d) r
local_entry N v is same (LocalEntry ds) p d a b goes r (js, q, k) h = let one : js ≡ is = cc in let P : List DeclId → Type 0 = λ z. StandDecls N z ds in h ds (subst P one k)
local_entry N v is same (StmtEntry s) p d a b goes r (j, q, k) h = absurd cc

-- an entry that is the same
pub same_entry : {B : Type 0} (a b : State) (goes : Declared × Statements → B → Type 0) (p : rules.Surroundings) (d : Declared) (r : Result B TypeError) (e z : Entry) → e ≡ z → Finds a b goes (entry z p d) r → Finds a b goes (entry e p d) r
same_entry a b goes p d r e z same h = let P : Entry → Type 0 = λ w. Finds a b goes (entry w p d) r in subst P (sym same) h
