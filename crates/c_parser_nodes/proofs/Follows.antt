-- An action makes tallies of tallies.
use Rattle.std.proofs.Common.{◌≡◌, ℕ, ◌+◌, ◌<◌, ◌≤◌, Bool, true, false, if◌then◌else◌, List, [], ◌∷◌, reverse, take, get_or, length, None, refl, ap, sym, ◌∙◌, subst, arith}
use Rattle.std.proofs.lemmas.List.{take_more, reverse-append, take_all}
use Rattle.c_syntax.specs.declared.declaration.Base.TheVariants as bases
use Rattle.c_syntax.specs.Syntax.{Decl, Decls, Declare, NoAnnots, Annotate, NoParts, Members, LocalEntry, StmtEntry, exprs_then, decls_then, annots_then, items_then, values_then, entries_then}
use Rattle.c_parser_moves.specs.declared.action.Action.{Action}
use Rattle.c_parser_moves.specs.declared.action.Action.TheVariants as acts
use Rattle.c_parser_actions.specs.Pieces.{Piece, PExpr, PExprs, PMaybe, PDeclr, PSpecs, PDecl, PDecls, PAnnots, PAnnot, PItem, PAtom, PValue, PValues, PEntries, PStmt, PFirst, PTag, act, acted}
use Rattle.c_parser_nodes.specs.Counts.{capped, expr_nodes, exprs_nodes, maybe_nodes, decl_nodes, decls_nodes, annots_nodes, items_nodes, item_nodes, atom_nodes, parts_nodes, value_nodes, values_nodes, stmt_nodes, entries_nodes, first_nodes, list_offset, list_offset_of, is_same_list, top_nodes, tops_nodes, IsCount}
use Rattle.c_parser_nodes.specs.declared.tally.Tally.{Tally}
use Rattle.c_parser_nodes.specs.Effects.{effect, affected}
use Rattle.c_parser_nodes.proofs.Lists.{exprs_then_nodes, decls_then_nodes, annots_then_nodes, items_then_nodes, values_then_nodes, entries_then_nodes, list_then, bare_nodes, last_list, last_then, by_list, tops_then}
use Rattle.c_parser_nodes.proofs.Measures.{IsTally, Measures}
use Rattle.c_parser_nodes.proofs.Sums.{plus, sum_one, sum_two, sum_three, sum_four, node, alone, turned}
use Rattle.c_parser_nodes.specs.Tallies.{first_list, named, with_struct, top}

abbrev struct : ℕ → List ℕ → Decls → Decl
struct f n ms = Declare f NoAnnots (bases.Struct n) NoParts None (Members ms)

one : (a : ℕ) {x : ℕ} → x ≡ capped a → capped (capped (0 + x) + 1) ≡ capped (1 + a)
one a p = node a (sum_one a p)

two : (a b : ℕ) {x y : ℕ} → x ≡ capped a → y ≡ capped b → capped (capped (capped (0 + y) + x) + 1) ≡ capped (1 + (a + b))
two a b p q = node (a + b) (sum_two a b p q)

three : (a b c : ℕ) {x y z : ℕ} → x ≡ capped a → y ≡ capped b → z ≡ capped c → capped (capped (capped (capped (0 + z) + y) + x) + 1) ≡ capped (1 + (a + (b + c)))
three a b c p q r = node (a + (b + c)) (sum_three a b c p q r)

four : (a b c d : ℕ) {x y z w : ℕ} → x ≡ capped a → y ≡ capped b → z ≡ capped c → w ≡ capped d
    → capped (capped (capped (capped (capped (0 + w) + z) + y) + x) + 1) ≡ capped (1 + (a + (b + (c + d))))
four a b c d p q r s = node (a + (b + (c + d))) (sum_four a b c d p q r s)

-- nothing follows the declarator
plus_none : (a : ℕ) {x : ℕ} → x ≡ capped a → x ≡ capped (a + 0)
plus_none a p = omega arith

-- one more name
more_names : (ds : Decls) (d : Decl) (c t : Tally) → IsTally (PDecls ds) c → IsTally (PDecl d) t → IsTally (PDecls (decls_then ds d)) (named c t)
more_names ds d c t h k = (
  plus (decls_nodes ds) (decl_nodes d) (decls_nodes (decls_then ds d)) h.0 k.0 (decls_then_nodes ds d),
  plus (tops_nodes None ds) (top_nodes (last_list None ds) d) (tops_nodes None (decls_then ds d)) h.1 added (tops_then None ds d),
  k.2 ∙ sym (last_then None ds d),
)
  where
    either : (same : Bool) → (if same then t.once else t.nodes) ≡ capped (if same then bare_nodes d else decl_nodes d)
    either true = k.1
    either false = k.0

    test : is_same_list c.list t.list ≡ is_same_list (last_list None ds) (list_offset_of d)
    test = ap (λ l. is_same_list l t.list) h.2 ∙ ap (is_same_list (last_list None ds)) k.2

    added : (if is_same_list c.list t.list then t.once else t.nodes) ≡ capped (top_nodes (last_list None ds) d)
    added = either (is_same_list c.list t.list) ∙ (ap (λ b. capped (if b then bare_nodes d else decl_nodes d)) test ∙ ap capped (sym (by_list (last_list None ds) d)))

-- one more definition of a struct
more_structs : (ds ms : Decls) (f : ℕ) (n : List ℕ) (c t : Tally) → IsTally (PDecls ds) c → IsTally (PDecls ms) t → IsTally (PDecls (decls_then ds (struct f n ms))) (with_struct c t)
more_structs ds ms f n c t h k = (
  plus (decls_nodes ds) (decls_nodes ms) (decls_nodes (decls_then ds (struct f n ms))) h.0 k.0 (decls_then_nodes ds (struct f n ms)),
  plus (tops_nodes None ds) (decls_nodes ms) (tops_nodes None (decls_then ds (struct f n ms))) h.1 k.0 (tops_then None ds (struct f n ms)),
  sym (last_then None ds (struct f n ms)),
)

-- what the action finds, it takes from below the tallies that they have; what it doesn't find breaks the pieces
pub follow : (a : Action) (P : List Piece) (cs : List Tally) → Measures P cs → Measures (act a P) (affected (effect a) cs)
follow (acts.Name f n) P cs h = (refl, h)
follow (acts.Number f v s d) P cs h = (refl, h)
follow (acts.Char f v) P cs h = (refl, h)
follow (acts.Text f n) P cs h = (refl, h)
follow (acts.Binary f s) (PExpr y ∷ PExpr x ∷ P) cs h = (two (expr_nodes x) (expr_nodes y) h.1.0 h.0, h.1.1)
follow (acts.Assign f s) (PExpr y ∷ PExpr x ∷ P) cs h = (two (expr_nodes x) (expr_nodes y) h.1.0 h.0, h.1.1)
follow (acts.Cond f) (PExpr z ∷ PExpr y ∷ PExpr x ∷ P) cs h = (three (expr_nodes x) (expr_nodes y) (expr_nodes z) h.1.1.0 h.1.0 h.0, h.1.1.1)
follow (acts.Prefix f s) (PExpr x ∷ P) cs h = (one (expr_nodes x) h.0, h.1)
follow (acts.Postfix f s) (PExpr x ∷ P) cs h = (one (expr_nodes x) h.0, h.1)
follow (acts.SizeofExpr f) (PExpr x ∷ P) cs h = (one (expr_nodes x) h.0, h.1)
follow (acts.SizeofType f) (PDecl d ∷ P) cs h = (one (decl_nodes d) h.0.0, h.1)
follow (acts.Cast f) (PExpr x ∷ PDecl d ∷ P) cs h = (two (decl_nodes d) (expr_nodes x) h.1.0.0 h.0, h.1.1)
follow (acts.Index f) (PExpr y ∷ PExpr x ∷ P) cs h = (two (expr_nodes x) (expr_nodes y) h.1.0 h.0, h.1.1)
follow acts.NoExprs P cs h = (refl, h)
follow acts.AddExpr (PExpr x ∷ PExprs xs ∷ P) cs h = (plus (exprs_nodes xs) (expr_nodes x) (exprs_nodes (exprs_then xs x)) h.1.0 h.0 (exprs_then_nodes xs x), h.1.1)
follow (acts.Call f) (PExprs xs ∷ PExpr x ∷ P) cs h = (two (expr_nodes x) (exprs_nodes xs) h.1.0 h.0, h.1.1)
follow (acts.Member f n) (PExpr x ∷ P) cs h = (one (expr_nodes x) h.0, h.1)
follow (acts.Arrow f n) (PExpr x ∷ P) cs h = (one (expr_nodes x) h.0, h.1)
follow acts.NoExpr P cs h = (refl, h)
follow acts.OneExpr (PExpr x ∷ P) cs h = h
follow (acts.Named f n) P cs h = (refl, h)
follow (acts.Nameless f) P cs h = (refl, h)
follow (acts.Pointer f) (PDeclr ps n g ∷ P) cs h = (one (parts_nodes ps) h.0, h.1)
follow (acts.Array f) (PExpr x ∷ PDeclr ps n g ∷ P) cs h = (turned (expr_nodes x) (parts_nodes ps) h.0 h.1.0, h.1.1)
follow (acts.Params f) (PDecls ds ∷ PDeclr ps n g ∷ P) cs h = (turned (decls_nodes ds) (parts_nodes ps) h.0.0 h.1.0, h.1.1)
follow acts.NoDecls P cs h = ((refl, refl, refl), h)
follow (acts.Specs b) (PAnnots an ∷ P) cs h = h
follow acts.Declare (PDeclr ps n g ∷ PSpecs an b ∷ P) cs h =
    let bare = sum_one (parts_nodes ps) h.0 in
    ((plus (annots_nodes an) (parts_nodes ps) (annots_nodes an + (parts_nodes ps + 0)) h.1.0.0 bare (omega arith), plus_none (parts_nodes ps) bare, h.1.0.1), h.1)
follow acts.DeclareValue (PValue v ∷ PDeclr ps n g ∷ PSpecs an b ∷ P) cs h =
    let bare = sum_two (parts_nodes ps) (value_nodes v) h.1.0 h.0 in
    ((plus (annots_nodes an) (parts_nodes ps + value_nodes v) (annots_nodes an + (parts_nodes ps + value_nodes v)) h.1.1.0.0 bare refl, bare, h.1.1.0.1), h.1.1)
follow acts.DeclareBody (PStmt s ∷ PDeclr ps n g ∷ PSpecs an b ∷ P) cs h =
    let bare = sum_two (parts_nodes ps) (stmt_nodes s) h.1.0 h.0 in
    ((plus (annots_nodes an) (parts_nodes ps + stmt_nodes s) (annots_nodes an + (parts_nodes ps + stmt_nodes s)) h.1.1.0.0 bare refl, bare, h.1.1.0.1), h.1.1)
follow acts.AddName (PDecl d ∷ PSpecs an b ∷ PDecls ds ∷ P) cs h = (h.1.0, (more_names ds d _ _ h.1.1.0 h.0, h.1.1.1))
follow acts.EndSpecs (PSpecs an b ∷ P) cs h = h.1
follow acts.DropSpecs (PDecl d ∷ PSpecs an b ∷ P) cs h = (h.0, h.1.1)
follow (acts.Tag f n) P cs h = (tt, h)
follow acts.Struct (PDecls ms ∷ PTag f n ∷ PDecls ds ∷ P) cs h = (more_structs ds ms f n _ _ h.1.1.0 h.0, h.1.1.1)
follow acts.NoAnnots P cs h = ((refl, refl), h)
follow (acts.AnnotName f n) P cs h = ((refl, refl), h)
follow acts.AddAnnot (PAnnot f n is ∷ PAnnots an ∷ P) cs h = (
  (
    plus (annots_nodes an) (items_nodes is) (annots_nodes (annots_then an (Annotate f n is))) h.1.0.0 h.0.0 (annots_then_nodes an (Annotate f n is)),
    ap (λ l. first_list l (top cs).list) h.1.0.1 ∙ (ap (first_list (list_offset an)) h.0.1 ∙ sym (list_then an f n is)),
  ),
  h.1.1,
)
follow (acts.NameAtom n) P cs h = (refl, h)
follow (acts.NumberAtom v) P cs h = (refl, h)
follow acts.ReturnAtom P cs h = (refl, h)
follow acts.SizeofAtom (PDecl d ∷ P) cs h = (h.0.0, h.1)
follow (acts.OneFactor f) (PAtom a ∷ P) cs h = h
follow (acts.TwoFactors f) (PAtom b ∷ PAtom a ∷ P) cs h = (alone (atom_nodes a + atom_nodes b) (sum_two (atom_nodes a) (atom_nodes b) h.1.0 h.0), h.1.1)
follow acts.AddItem (PItem x ∷ PAnnot f n is ∷ P) cs h =
    ((plus (items_nodes is) (item_nodes x) (items_nodes (items_then is x)) h.1.0.0 h.0 (items_then_nodes is x), ap (λ l. first_list l (top cs).list) h.1.0.1), h.1.1)
follow acts.Plain (PExpr x ∷ P) cs h = h
follow acts.NoValues P cs h = (refl, h)
follow acts.AddValue (PValue v ∷ PValues vs ∷ P) cs h = (plus (values_nodes vs) (value_nodes v) (values_nodes (values_then vs v)) h.1.0 h.0 (values_then_nodes vs v), h.1.1)
follow (acts.Braces f) (PValues vs ∷ P) cs h = (one (values_nodes vs) h.0, h.1)
follow acts.NoEntries P cs h = (refl, h)
follow acts.AddLocal (PDecls ds ∷ PEntries es ∷ P) cs h = (plus (entries_nodes es) (decls_nodes ds) (entries_nodes (entries_then es (LocalEntry ds))) h.1.0 h.0.0 (entries_then_nodes es (LocalEntry ds)), h.1.1)
follow acts.AddStmt (PStmt s ∷ PEntries es ∷ P) cs h = (plus (entries_nodes es) (stmt_nodes s) (entries_nodes (entries_then es (StmtEntry s))) h.1.0 h.0 (entries_then_nodes es (StmtEntry s)), h.1.1)
follow (acts.Block f) (PEntries es ∷ P) cs h = (one (entries_nodes es) h.0, h.1)
follow (acts.Expression f) (PMaybe x ∷ P) cs h = (one (maybe_nodes x) h.0, h.1)
follow (acts.If f) (PStmt s ∷ PExpr x ∷ P) cs h = (two (expr_nodes x) (stmt_nodes s) h.1.0 h.0, h.1.1)
follow (acts.IfElse f) (PStmt z ∷ PStmt s ∷ PExpr x ∷ P) cs h = (three (expr_nodes x) (stmt_nodes s) (stmt_nodes z) h.1.1.0 h.1.0 h.0, h.1.1.1)
follow (acts.While f) (PStmt s ∷ PExpr x ∷ P) cs h = (two (expr_nodes x) (stmt_nodes s) h.1.0 h.0, h.1.1)
follow (acts.Do f) (PExpr x ∷ PStmt s ∷ P) cs h = (two (stmt_nodes s) (expr_nodes x) h.1.0 h.0, h.1.1)
follow acts.NoFirst P cs h = (refl, h)
follow acts.LocalFirst (PDecls ds ∷ P) cs h = (h.0.0, h.1)
follow acts.ExprFirst (PExpr x ∷ P) cs h = h
follow (acts.For f) (PStmt s ∷ PMaybe y ∷ PMaybe x ∷ PFirst a ∷ P) cs h =
    (four (first_nodes a) (maybe_nodes x) (maybe_nodes y) (stmt_nodes s) h.1.1.1.0 h.1.1.0 h.1.0 h.0, h.1.1.1.1)
follow (acts.Break f) P cs h = (refl, h)
follow (acts.Continue f) P cs h = (refl, h)
follow (acts.Return f) (PMaybe x ∷ P) cs h = (one (maybe_nodes x) h.0, h.1)
follow a P cs h = tt

-- one more of the actions
pub follow_next : (v : List Action) (i : ℕ) (a : Action) (cs new : List Tally) → i < length v → a ≡ get_or v i a →
    Measures (acted (reverse (take i v)) []) cs → new ≡ affected (effect a) cs → Measures (acted (reverse (take (i + 1) v)) []) new
follow_next v i a cs new lt e h is =
    rw (is, take_more v i a lt, ← e, reverse-append (take i v) (a ∷ [])) (follow a (acted (reverse (take i v)) []) cs h)

-- the tally at the top is that of the source
pub counted : (v : List Action) (i : ℕ) (cs : List Tally) → length v ≤ i → Measures (acted (reverse (take i v)) []) cs → IsCount v (top cs).once
counted v i cs le h = λ ds e. let all : Measures (acted (reverse v) []) cs = rw (take_all i v le) at h in let P : List Piece → Type 0 = λ p. Measures p cs in (subst P e all).0.1
