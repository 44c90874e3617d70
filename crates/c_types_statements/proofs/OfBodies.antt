-- What functions do, by their parameters and their block.
use Rattle.std.proofs.Common.{◌≡◌, ℕ, false, List, [], ◌∷◌, length, map, Some, Result, Ok, Err, refl, sym, ap, ◌∙◌, subst}
use Rattle.std.specs.Prelude.{Vec}
use Rattle.std.specs.declared.alloc.Global.{Global}
use Rattle.std.specs.List.{All}
use Rattle.std.proofs.lemmas.List.Elements.{All-nil}
use Rattle.c_syntax.specs.declared.id.StmtId.{StmtId}
use Rattle.c_syntax.specs.declared.statement.Entry.{Entry}
use Rattle.c_syntax.specs.declared.statement.Stmt.{Stmt as StmtNode}
use Rattle.c_syntax.specs.declared.statement.StmtKind.TheVariants as stmts
use Rattle.c_syntax.specs.Nodes.{Nodes, stmt_at}
use Rattle.c_syntax.specs.Syntax.{Decls, Entries, Stmt, Block, Expression, If, IfElse, While, Do, For, Break, Continue, Return}
use Rattle.c_syntax.specs.Stands.{StandEntries, StandsStmt}
use Rattle.c_syntax.proofs.Only.{block_only}
use Rattle.c_types_model.specs.Types.{CType, CTypes}
use Rattle.c_types_table.specs.declared.ids.TypeId.{TypeId}
use Rattle.c_types_table.specs.Tables.{IsBelow, all_at, at, types_of}
use Rattle.c_types_rules.specs.Checked.{Checked, Fine, heard, ◌>>=◌}
use Rattle.c_types_rules.specs.Environment.{Environment}
use Rattle.c_types_rules.specs.TypedTree as typed
use Rattle.c_types_rules.specs.Sources.{block_of, listed, parameters, params_of, result_of}
use Rattle.c_types_rules.specs.Statements as rules
use Rattle.c_types_rules.specs.Statements.{Declared, entries, start_of_stmt, statement}
use Rattle.c_types_nodes.specs.declared.ids.NodeId.{NodeId}
use Rattle.c_types_nodes.specs.Tables.{IsNode, Table}
use Rattle.c_types_nodes.specs.Lists.{AreNodes, nodes_at}
use Rattle.c_types_program.specs.declared.function.Body.{Body}
use Rattle.c_types_program.specs.declared.statement.Statement.{Statement}
use Rattle.c_types_program.specs.Declarations.{types_in}
use Rattle.c_types_program.specs.Statements.{IsStatement, statement_in}
use Rattle.c_types_program.proofs.Kept.{type_kept}
use Rattle.c_types_operators.specs.declared.error.TypeError.{TypeError}
use Rattle.c_types_environment.specs.States.{notes_of, State}
use Rattle.c_types_expressions.specs.Found.{Finds, IsPart, StaysAround}
use Rattle.c_types_expressions.proofs.Sequences.{gone_on, stopped_in}
use Rattle.c_types_expressions.proofs.Unevaluated.{part_broken, part_heard}
use Rattle.c_types_statements.specs.declared.place.Surroundings.{Surroundings}
use Rattle.c_types_statements.specs.declared.signature.Signature.{Signature}
use Rattle.c_types_statements.specs.Pieces.{body_here}
use Rattle.c_types_statements.specs.Typed.{AreTyped, BodyStands, IsSignature, IsTyped, StatementStands, StatementsStand, declared_in, place_in}
use Rattle.c_types_statements.proofs.Kept.{types_kept}
use Rattle.c_types_statements.proofs.OfParameters.{IsEnv}

-- a statement that is no block has no scope of its own
pub no_block : (N : Nodes) (i : StmtId) (node : StmtNode) (s : Stmt) (p : rules.Surroundings) (d : Declared) → stmt_at N i ≡ Some node → ((vs : List Entry) → node.kind ≡ stmts.Block vs → ⊥) → StandsStmt N i s → block_of s p d ≡ statement s p d
no_block N i node (Block f es) p d at not (vs, (m, g, _, k), q) = let same : m ≡ node = cc in absurd (not vs (ap (λ z. z.kind) (sym same) ∙ k))
no_block N i node (Expression f x) p d at not h = refl
no_block N i node (If f x s) p d at not h = refl
no_block N i node (IfElse f x s z) p d at not h = refl
no_block N i node (While f x s) p d at not h = refl
no_block N i node (Do f s x) p d at not h = refl
no_block N i node (For f a x y s) p d at not h = refl
no_block N i node (Break f) p d at not h = refl
no_block N i node (Continue f) p d at not h = refl
no_block N i node (Return f x) p d at not h = refl

-- parameters of the same types
pub same_parameters : {B : Type 0} (a b : State) (ds : Decls) (goes : Environment → B → Type 0) (r : Result B TypeError) (ids same : List TypeId) → ids ≡ same → Finds a b goes (parameters ds a.env 0 (all_at (types_of a.table.types) ids)) r
    → Finds a b goes (parameters ds a.env 0 (all_at (types_of a.table.types) same)) r
same_parameters a b ds goes r ids same e h = let P : List TypeId → Type 0 = λ z. Finds a b goes (parameters ds a.env 0 (all_at (types_of a.table.types) z)) r in subst P e h

-- a block that has no scope of its own
module _ (N : Nodes) (i : StmtId) (node : StmtNode) (at : stmt_at N i ≡ Some node) (a b : State) (p : rules.Surroundings) (d : Declared) (found : List TypeId) where
  module _ (vs : List Entry) (kind : node.kind ≡ stmts.Block vs) where
    pub outer_block : (all : Vec Statement Global) (made : Statement) → ((es : Entries) → StandEntries N vs es → Finds a b (AreTyped b found) (entries es p d) (Ok all))
        → ((t : Table) (xs : typed.Statements) → StatementsStand t xs all.items → StatementStands t (typed.Block xs) made) → (s : Stmt) → StandsStmt N i s → Finds a b (IsTyped b found) (block_of s p d) (Ok made)
    outer_block all made h makes s k =
        let q = block_only N i node.from vs s (node, at, refl, kind) k in
        let P : Stmt → Type 0 = λ z. Finds a b (IsTyped b found) (block_of z p d) (Ok made) in
        subst P (sym q.1)
        (gone_on (notes_of a) (notes_of b) (notes_of b) (AreTyped b found) (IsTyped b found) (entries q.0 p d) (λ y. Fine (y.0, typed.Block y.1)) all (Ok made) (h q.0 q.2) (λ y is. ((is.0, makes b.table y.1 is.1), refl)))

    pub outer_block_broken : (e : TypeError) → ((es : Entries) → StandEntries N vs es → Finds a b (AreTyped b found) (entries es p d) (Err e)) → (s : Stmt) → StandsStmt N i s → Finds a b (IsTyped b found) (block_of s p d) (Err e)
    outer_block_broken e h s k =
        let q = block_only N i node.from vs s (node, at, refl, kind) k in
        let P : Stmt → Type 0 = λ z. Finds a b (IsTyped b found) (block_of z p d) (Err e) in
        subst P (sym q.1) (stopped_in (notes_of a) (notes_of b) (notes_of b) (AreTyped b found) (IsTyped b found) (entries q.0 p d) (λ y. Fine (y.0, typed.Block y.1)) e (h q.0 q.2))

  pub outer_statement : (r : Result Statement TypeError) → ((vs : List Entry) → node.kind ≡ stmts.Block vs → ⊥) → (s : Stmt) → StandsStmt N i s → Finds a b (IsTyped b found) (statement s p d) r → Finds a b (IsTyped b found) (block_of s p d) r
  outer_statement r not s k h = let P : Checked (List CType × typed.Statement) → Type 0 = λ z. Finds a b (IsTyped b found) z r in subst P (sym (no_block N i node s p d at not k)) h

listed_types : (ts : List CType) (ids : List TypeId) → listed (all_at ts ids) ≡ map (at ts) ids
listed_types ts [] = refl
listed_types ts (id ∷ ids) = ap (λ z. at ts id ∷ z) (listed_types ts ids)

body_stands : (d : State) (found : List TypeId) (made : Statement) (ids : List NodeId) (body : Body) (from : ℕ) (y : (List CType × typed.Statement) × List typed.Typed) → body.from ≡ from → body.locals ≡ found → body.statements ≡ made → body.in_params ≡ [] → body.unevaluated ≡ ids
    → All (IsBelow (length d.table.types)) found → AreNodes d.table ids → IsPart d (IsTyped d found) y (made, ids)
    → BodyStands d.table (record { from = from; locals = y.0.0; statements = y.0.1; in_params = []; unevaluated = y.1 }) body
body_stands d found made ids body from y g e f i u below all h = record {
  inside = (subst (All (IsBelow (length d.table.types))) (sym e) below, subst (IsStatement d.table) (sym f) h.0.1.inside, subst (AreNodes d.table) (sym i) (All-nil (IsNode d.table)), subst (AreNodes d.table) (sym u) all);
  is =
      ap (λ z. record { from = z; locals = types_in d.table.types body.locals; statements = statement_in d.table body.statements; in_params = nodes_at d.table body.in_params; unevaluated = nodes_at d.table body.unevaluated }) g
      ∙ (ap (λ z. record { from = from; locals = types_in d.table.types z; statements = statement_in d.table body.statements; in_params = nodes_at d.table body.in_params; unevaluated = nodes_at d.table body.unevaluated }) e
      ∙ (ap (λ z. record { from = from; locals = types_in d.table.types found; statements = statement_in d.table z; in_params = nodes_at d.table body.in_params; unevaluated = nodes_at d.table body.unevaluated }) f
      ∙ (ap (λ z. record { from = from; locals = z; statements = statement_in d.table made; in_params = nodes_at d.table body.in_params; unevaluated = nodes_at d.table body.unevaluated }) h.0.0
      ∙ (ap (λ z. record { from = from; locals = y.0.0; statements = z; in_params = nodes_at d.table body.in_params; unevaluated = nodes_at d.table body.unevaluated }) h.0.1.is
      ∙ (ap (λ z. record { from = from; locals = y.0.0; statements = y.0.1; in_params = nodes_at d.table z; unevaluated = nodes_at d.table body.unevaluated }) i
      ∙ ap (λ z. record { from = from; locals = y.0.0; statements = y.0.1; in_params = []; unevaluated = z }) (ap (nodes_at d.table) u ∙ h.1))))));
}

-- the outermost block, with what stands in it unevaluated
abbrev pub IsBlock : State → List TypeId → (List CType × typed.Statement) × List typed.Typed → Statement × List NodeId → Type 0
IsBlock d found = IsPart d (IsTyped d found)

-- ---- a block in which it is heard what stands unevaluated

module _ (a o b : State) (set : o ≡ record a { unevaluated = [] }) where
  pub aside_stays : StaysAround o b → StaysAround a b
  aside_stays h =
      let P : State → Type 0 = λ z. StaysAround z b in
      let k = subst P set h in
      record { numbers = k.numbers; tags = k.tags; structs = k.structs; depth = k.depth; outer = k.outer }

  aside_found : {B : Type 0} (goes : List CType × typed.Statement → B → Type 0) (p : Surroundings) (ids : List TypeId) (s : Stmt) (r : Result B TypeError) → Finds o b goes (block_of s (place_in o p) (declared_in o ids)) r → Finds o b goes (block_of s (place_in a p) (declared_in a ids)) r
  aside_found goes p ids s r h = let P : State → Type 0 = λ z. Finds o b goes (block_of s (place_in z p) (declared_in z ids)) r in subst P set h

  pub aside_broken : (p : Surroundings) (ids found : List TypeId) (s : Stmt) (e : TypeError) → Finds o b (IsTyped b found) (block_of s (place_in o p) (declared_in o ids)) (Err e) → Finds a b (IsBlock b found) (heard (block_of s (place_in a p) (declared_in a ids))) (Err e)
  aside_broken p ids found s e h =
      part_broken (notes_of o) (notes_of b) (notes_of a) (notes_of b) (IsTyped b found) (IsBlock b found) (block_of s (place_in a p) (declared_in a ids)) e (aside_found (IsTyped b found) p ids s (Err e) h)

  module _ (c : State) (back : c ≡ record b { unevaluated = a.unevaluated }) where
    pub block_stays : StaysAround o b → StaysAround a c
    block_stays h =
        let k = aside_stays h in
        let Q : State → Type 0 = λ z. StaysAround a z in
        subst Q (sym back) (record { numbers = k.numbers; tags = k.tags; structs = k.structs; depth = k.depth; outer = k.outer })

    pub block_heard : (p : Surroundings) (ids found : List TypeId) (s : Stmt) (made : Statement) → AreNodes a.table a.unevaluated → StaysAround o b → Finds o b (IsTyped b found) (block_of s (place_in o p) (declared_in o ids)) (Ok made)
        → Finds a c (IsBlock c found) (heard (block_of s (place_in a p) (declared_in a ids))) (Ok (made, b.unevaluated))
    block_heard p ids found s made all k h =
        let x = block_of s (place_in a p) (declared_in a ids) in
        let R : State → Type 0 = λ z. Finds a c (IsPart z (IsTyped z found)) (heard x) (Ok (made, b.unevaluated)) in
        subst R (sym back) (part_heard a o b c set back all (aside_stays k).numbers (IsTyped b found) x made (aside_found (IsTyped b found) p ids s (Ok made) h))

module _ (a b d : State) (sig : Signature) (c : CType) (ds : Decls) (s : Stmt) (is : IsSignature a.table.types c sig) where
  -- where the outermost block stands, and what is declared there
  abbrev block_place : rules.Surroundings
  block_place = record { result = result_of c; in_loop = false }

  abbrev made_body : (List CType × typed.Statement) × List typed.Typed → Checked typed.Body
  made_body y = Fine (record { from = start_of_stmt s; locals = y.0.0; statements = y.0.1; in_params = []; unevaluated = y.1 })

  abbrev block_part : Environment → Checked typed.Body
  block_part within = heard (block_of s block_place (record { env = within; locals = listed (params_of c) })) >>= made_body

  in_turn_declared : {B : Type 0} (r : Result B TypeError) (goes : Environment → B → Type 0) → Finds a b goes (parameters ds a.env 0 (all_at (types_of a.table.types) sig.params.items)) r → Finds a b goes (parameters ds a.env 0 (params_of c)) r
  in_turn_declared r goes h = let P : CTypes → Type 0 = λ z. Finds a b goes (parameters ds a.env 0 z) r in subst P is.params h

  pub parameters_broken : (e : TypeError) → Finds a b (IsEnv b) (parameters ds a.env 0 (all_at (types_of a.table.types) sig.params.items)) (Err e) → Finds a b (BodyStands b.table) (body_here a.env c ds s) (Err e)
  parameters_broken e h = stopped_in (notes_of a) (notes_of b) (notes_of b) (IsEnv b) (BodyStands b.table) (parameters ds a.env 0 (params_of c)) block_part e (in_turn_declared (Err e) (IsEnv b) h)

  module _ (declared : Finds a b (IsEnv b) (parameters ds a.env 0 (all_at (types_of a.table.types) sig.params.items)) (Ok tt)) (one : StaysAround a b) (q : Surroundings) (same : q ≡ record { result = sig.result; in_loop = false }) where
    same_place : place_in b q ≡ block_place
    same_place = ap (place_in b) same ∙ ap (λ t. record { result = t; in_loop = false }) (type_kept a.table b.table one.numbers sig.result is.result.inside ∙ is.result.is)

    same_locals : types_in b.table.types sig.params.items ≡ listed (params_of c)
    same_locals = types_kept a.table b.table sig.params.items one.numbers is.inside ∙ (sym (listed_types (types_of a.table.types) sig.params.items) ∙ ap listed is.params)

    moved : {B : Type 0} (goes : (List CType × typed.Statement) × List typed.Typed → B → Type 0) (r : Result B TypeError) (within : Environment) → b.env ≡ within → Finds b d goes (heard (block_of s (place_in b q) (declared_in b sig.params.items))) r
        → Finds b d goes (heard (block_of s block_place (record { env = within; locals = listed (params_of c) }))) r
    moved goes r within e h =
        let P : rules.Surroundings → Type 0 = λ z. Finds b d goes (heard (block_of s z (declared_in b sig.params.items))) r in
        let Q : Declared → Type 0 = λ z. Finds b d goes (heard (block_of s block_place z)) r in
        subst Q (ap (λ z. record { env = z; locals = types_in b.table.types sig.params.items }) e ∙ ap (λ z. record { env = within; locals = z }) same_locals) (subst P same_place h)

    pub block_broken : (found : List TypeId) (e : TypeError) → Finds b d (IsBlock d found) (heard (block_of s (place_in b q) (declared_in b sig.params.items))) (Err e) → Finds a d (BodyStands d.table) (body_here a.env c ds s) (Err e)
    block_broken found e h =
        gone_on (notes_of a) (notes_of b) (notes_of d) (IsEnv b) (BodyStands d.table) (parameters ds a.env 0 (params_of c)) block_part tt (Err e) (in_turn_declared (Ok tt) (IsEnv b) declared) (λ within at.
        stopped_in (notes_of b) (notes_of d) (notes_of d) (IsBlock d found) (BodyStands d.table) (heard (block_of s block_place (record { env = within; locals = listed (params_of c) }))) made_body e
        (moved (IsBlock d found) (Err e) within at h))

    pub body_found : (found : List TypeId) (made : Statement) (ids : List NodeId) (body : Body) → Finds b d (IsBlock d found) (heard (block_of s (place_in b q) (declared_in b sig.params.items))) (Ok (made, ids))
        → All (IsBelow (length d.table.types)) found → AreNodes d.table ids → body.from ≡ start_of_stmt s → body.locals ≡ found → body.statements ≡ made → body.in_params ≡ [] → body.unevaluated ≡ ids → Finds a d (BodyStands d.table) (body_here a.env c ds s) (Ok body)
    body_found found made ids body h below all g e f i u =
        gone_on (notes_of a) (notes_of b) (notes_of d) (IsEnv b) (BodyStands d.table) (parameters ds a.env 0 (params_of c)) block_part tt (Ok body) (in_turn_declared (Ok tt) (IsEnv b) declared) (λ within at.
        gone_on (notes_of b) (notes_of d) (notes_of d) (IsBlock d found) (BodyStands d.table) (heard (block_of s block_place (record { env = within; locals = listed (params_of c) }))) made_body (made, ids) (Ok body)
        (moved (IsBlock d found) (Ok (made, ids)) within at h)
        (λ y typed_so. (body_stands d found made ids body (start_of_stmt s) y g e f i u below all typed_so, refl)))
