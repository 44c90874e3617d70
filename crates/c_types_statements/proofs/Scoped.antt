-- What is found within a scope that is opened before and closed after.
use Rattle.std.proofs.Common.{◌≡◌, ◌≤◌, ℕ, List, length, Result, Ok, Err, sym, subst, arith}
use Rattle.std.specs.Prelude.{Vec}
use Rattle.std.specs.declared.alloc.Global.{Global}
use Rattle.std.specs.List.{All}
use Rattle.c_syntax.specs.Syntax.{MaybeExpr, First, Parts, Stmt, Entries, Block, For}
use Rattle.c_types_model.specs.Types.{CType}
use Rattle.c_types_table.specs.declared.ids.TypeId.{TypeId}
use Rattle.c_types_table.specs.Tables.{IsBelow}
use Rattle.c_types_rules.specs.Sources.{block_body, nearest}
use Rattle.c_types_rules.specs.Statements.{entries, statement}
use Rattle.c_types_rules.specs.TypedTree as typed
use Rattle.c_types_rules.specs.TypedTree.{Statements}
use Rattle.c_types_nodes.specs.Tables.{Table}
use Rattle.c_types_program.specs.declared.function.Body.{Body}
use Rattle.c_types_program.specs.declared.statement.Statement.{Statement}
use Rattle.c_types_operators.specs.declared.error.TypeError.{TypeError}
use Rattle.c_types_environment.specs.States.{State}
use Rattle.c_types_expressions.specs.Found.{Finds, Stays, StaysAround}
use Rattle.c_types_statements.specs.declared.place.Surroundings.{Surroundings}
use Rattle.c_types_statements.specs.declared.signature.Signature.{Signature}
use Rattle.c_types_statements.specs.Pieces.{body_here, for_here}
use Rattle.c_types_statements.specs.Typed.{AreTyped, BodyStands, IsSignature, IsTyped, StatementStands, StatementsStand, declared_in, place_in}
use Rattle.c_types_statements.proofs.Blocks.{block_found, block_broken, for_found}
use Rattle.c_types_statements.proofs.Scopes.{opened, closed, closed_again}

-- ---- what is in a scope that is opened

module _ (a o : State) (e : o ≡ opened a) where
  pub scope_place : (p : Surroundings) → IsBelow (length a.table.types) p.result → IsBelow (length o.table.types) p.result
  scope_place p h = let P : State → Type 0 = λ z. IsBelow (length z.table.types) p.result in subst P (sym e) h

  pub scope_locals : (ids : List TypeId) → All (IsBelow (length a.table.types)) ids → All (IsBelow (length o.table.types)) ids
  scope_locals ids h = let P : State → Type 0 = λ z. All (IsBelow (length z.table.types)) ids in subst P (sym e) h

  pub scope_signature : (t : CType) (s : Signature) → IsSignature a.table.types t s → IsSignature o.table.types t s
  scope_signature t s h = let P : State → Type 0 = λ z. IsSignature z.table.types t s in subst P (sym e) h

-- ---- what is found there

module _ (a o b c : State) (e : o ≡ opened a) (f : c ≡ closed b) where
  pub scope_stays : StaysAround o b → Stays a c
  scope_stays h =
      let P : State → Type 0 = λ z. StaysAround z b in
      let Q : State → Type 0 = λ z. Stays a z in
      subst Q (sym f) (closed_again a b (subst P e h))

  pub scope_below : (ids : List TypeId) → All (IsBelow (length b.table.types)) ids → All (IsBelow (length c.table.types)) ids
  scope_below ids h = let P : State → Type 0 = λ z. All (IsBelow (length z.table.types)) ids in subst P (sym f) h

  module _ (p : Surroundings) (locals found : List TypeId) (es : Entries) where
    pub scoped_block : (all : Vec Statement Global) (made : Statement) → Finds o b (AreTyped b found) (entries es (place_in o p) (declared_in o locals)) (Ok all)
        → ((t : Table) (xs : Statements) → StatementsStand t xs all.items → StatementStands t (typed.Block xs) made)
        → Finds a c (IsTyped c found) (statement (Block 0 es) (place_in a p) (declared_in a locals)) (Ok made)
    scoped_block all made h makes =
        let P : State → Type 0 = λ z. Finds z b (AreTyped b found) (entries es (place_in z p) (declared_in z locals)) (Ok all) in
        let Q : State → Type 0 = λ z. Finds a z (IsTyped z found) (statement (Block 0 es) (place_in a p) (declared_in a locals)) (Ok made) in
        subst Q (sym f) (block_found a b p locals found es all made (subst P e h) makes)

    pub scoped_block_broken : (wrong : TypeError) → Finds o b (AreTyped b found) (entries es (place_in o p) (declared_in o locals)) (Err wrong)
        → Finds a c (IsTyped c found) (statement (Block 0 es) (place_in a p) (declared_in a locals)) (Err wrong)
    scoped_block_broken wrong h =
        let P : State → Type 0 = λ z. Finds z b (AreTyped b found) (entries es (place_in z p) (declared_in z locals)) (Err wrong) in
        let Q : State → Type 0 = λ z. Finds a z (IsTyped z found) (statement (Block 0 es) (place_in a p) (declared_in a locals)) (Err wrong) in
        subst Q (sym f) (block_broken a b p locals found es wrong (subst P e h))

  pub scoped_for : (p : Surroundings) (locals found : List TypeId) (from : ℕ) (g : First) (x y : MaybeExpr) (s : Stmt) (r : Result Statement TypeError)
      → Finds o b (IsTyped b found) (for_here from g x y s (place_in o p) (declared_in o locals)) r → Finds a c (IsTyped c found) (statement (For from g x y s) (place_in a p) (declared_in a locals)) r
  scoped_for p locals found from g x y s r h =
      let P : State → Type 0 = λ z. Finds z b (IsTyped b found) (for_here from g x y s (place_in z p) (declared_in z locals)) r in
      let Q : State → Type 0 = λ z. Finds a z (IsTyped z found) (statement (For from g x y s) (place_in a p) (declared_in a locals)) r in
      subst Q (sym f) (for_found a b p locals found from g x y s r (subst P e h))

  -- what a function does
  pub scoped_body : (t : CType) (ps : Parts) (s : Stmt) (r : Result Body TypeError) → Finds o b (BodyStands b.table) (body_here o.env t (nearest ps) s) r → Finds a c (BodyStands c.table) (block_body a.env t ps s) r
  scoped_body t ps s r h =
      let P : State → Type 0 = λ z. Finds z b (BodyStands b.table) (body_here z.env t (nearest ps) s) r in
      let Q : State → Type 0 = λ z. Finds a z (BodyStands z.table) (block_body a.env t ps s) r in
      subst Q (sym f) (subst P e h)

-- a scope that was opened can be closed
pub still_open : (o b : State) → 2 ≤ length o.env.scopes → StaysAround o b → 2 ≤ length b.env.scopes
still_open o b h k = let d : length b.env.scopes ≡ length o.env.scopes = k.depth in omega arith
