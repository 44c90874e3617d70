-- An action makes longest chains of longest chains.
use Rattle.std.proofs.Common.{◌≡◌, ℕ, ◌+◌, ◌<◌, List, [], ◌∷◌, reverse, take, get_or, length, None, inl, inr}
use Rattle.std.proofs.lemmas.List.{take_more, reverse-append}
use Rattle.c_syntax.specs.declared.declaration.Base.TheVariants as bases
use Rattle.c_syntax.specs.Syntax.{Decl, Decls, Declare, NoAnnots, Annotate, NoParts, Members, LocalEntry, StmtEntry}
use Rattle.c_parser_moves.specs.declared.action.Action.{Action}
use Rattle.c_parser_moves.specs.declared.action.Action.TheVariants as acts
use Rattle.c_parser_actions.specs.Pieces.{Piece, PExpr, PExprs, PMaybe, PDeclr, PSpecs, PDecl, PDecls, PAnnots, PAnnot, PItem, PAtom, PValue, PValues, PEntries, PStmt, PFirst, PTag, act, acted}
use Rattle.c_parser_depth.specs.declared.chain.Chain.{Chain}
use Rattle.c_parser_depth.specs.Effects.{effect, affected}
use Rattle.c_parser_depth.proofs.Longest.{longest_same, longest_none, longest_leaf, longest_longer, longest_under, longest_one, longest_two, longest_turned, longest_three, longest_four}
use Rattle.c_parser_depth.proofs.Lists.{exprs_then_from, exprs_then_to, decls_then_from, decls_then_to, annots_then_from, annots_then_to, items_then_from, items_then_to, values_then_from, values_then_to, entries_then_from, entries_then_to}
use Rattle.c_parser_depth.proofs.Measures.{Measures}

abbrev struct : ℕ → List ℕ → Decls → Decl
struct f n ms = Declare f NoAnnots (bases.Struct n) NoParts None (Members ms)

-- what the action finds, it takes from below the chains that they have; what it doesn't find breaks the pieces
pub follow : (a : Action) (P : List Piece) (cs : List Chain) → Measures P cs → Measures (act a P) (affected (effect a) cs)
follow (acts.Name f n) P cs h = (longest_leaf f, h)
follow (acts.Number f v s d) P cs h = (longest_leaf f, h)
follow (acts.Char f v) P cs h = (longest_leaf f, h)
follow (acts.Text f n) P cs h = (longest_leaf f, h)
follow (acts.Binary f s) (PExpr y ∷ PExpr x ∷ P) cs h = (longest_under f (longest_two h.1.0 h.0), h.1.1)
follow (acts.Assign f s) (PExpr y ∷ PExpr x ∷ P) cs h = (longest_under f (longest_two h.1.0 h.0), h.1.1)
follow (acts.Cond f) (PExpr z ∷ PExpr y ∷ PExpr x ∷ P) cs h = (longest_under f (longest_three h.1.1.0 h.1.0 h.0), h.1.1.1)
follow (acts.Prefix f s) (PExpr x ∷ P) cs h = (longest_under f (longest_one h.0), h.1)
follow (acts.Postfix f s) (PExpr x ∷ P) cs h = (longest_under f (longest_one h.0), h.1)
follow (acts.SizeofExpr f) (PExpr x ∷ P) cs h = (longest_under f (longest_one h.0), h.1)
follow (acts.SizeofType f) (PDecl d ∷ P) cs h = (longest_under f (longest_one h.0), h.1)
follow (acts.Cast f) (PExpr x ∷ PDecl d ∷ P) cs h = (longest_under f (longest_two h.1.0 h.0), h.1.1)
follow (acts.Index f) (PExpr y ∷ PExpr x ∷ P) cs h = (longest_under f (longest_two h.1.0 h.0), h.1.1)
follow acts.NoExprs P cs h = (longest_none, h)
follow acts.AddExpr (PExpr x ∷ PExprs xs ∷ P) cs h = (longest_same (exprs_then_from xs x) (exprs_then_to xs x) (longest_two h.1.0 h.0), h.1.1)
follow (acts.Call f) (PExprs xs ∷ PExpr x ∷ P) cs h = (longest_under f (longest_two h.1.0 h.0), h.1.1)
follow (acts.Member f n) (PExpr x ∷ P) cs h = (longest_under f (longest_one h.0), h.1)
follow (acts.Arrow f n) (PExpr x ∷ P) cs h = (longest_under f (longest_one h.0), h.1)
follow acts.NoExpr P cs h = (longest_none, h)
follow acts.OneExpr (PExpr x ∷ P) cs h = (longest_one h.0, h.1)
follow (acts.Named f n) P cs h = (longest_leaf f, h)
follow (acts.Nameless f) P cs h = (longest_leaf f, h)
follow (acts.Pointer f) (PDeclr ps n g ∷ P) cs h = (longest_under f (longest_one h.0), h.1)
follow (acts.Array f) (PExpr x ∷ PDeclr ps n g ∷ P) cs h = (longest_under f (longest_turned h.1.0 h.0), h.1.1)
follow (acts.Params f) (PDecls ds ∷ PDeclr ps n g ∷ P) cs h = (longest_under f (longest_turned h.1.0 h.0), h.1.1)
follow acts.NoDecls P cs h = (longest_none, h)
follow (acts.Specs b) (PAnnots an ∷ P) cs h = (longest_one h.0, h.1)
follow acts.Declare (PDeclr ps n g ∷ PSpecs an b ∷ P) cs h = (longest_same (λ k o m. inl m) (λ k o m. elim m [ inl a ↦ a | inr a ↦ absurd a ]) (longest_two h.1.0 h.0), h.1)
follow acts.DeclareValue (PValue v ∷ PDeclr ps n g ∷ PSpecs an b ∷ P) cs h = (longest_three h.1.1.0 h.1.0 h.0, h.1.1)
follow acts.DeclareBody (PStmt s ∷ PDeclr ps n g ∷ PSpecs an b ∷ P) cs h = (longest_three h.1.1.0 h.1.0 h.0, h.1.1)
follow acts.AddName (PDecl d ∷ PSpecs an b ∷ PDecls ds ∷ P) cs h = (h.1.0, (longest_same (decls_then_from ds d) (decls_then_to ds d) (longest_longer h.1.1.0 h.0), h.1.1.1))
follow acts.EndSpecs (PSpecs an b ∷ P) cs h = h.1
follow acts.DropSpecs (PDecl d ∷ PSpecs an b ∷ P) cs h = (h.0, h.1.1)
follow (acts.Tag f n) P cs h = (longest_none, h)
follow acts.Struct (PDecls ms ∷ PTag f n ∷ PDecls ds ∷ P) cs h = (longest_same (λ k o m. decls_then_from ds (struct f n ms) k o (elim m [ inl (inl a) ↦ inl a | inl (inr a) ↦ absurd a | inr a ↦ inr a ])) (λ k o m. elim (decls_then_to ds (struct f n ms) k o m) [ inl a ↦ inl (inl a) | inr a ↦ inr a ]) (longest_three h.1.1.0 h.1.0 h.0), h.1.1.1)
follow acts.NoAnnots P cs h = (longest_none, h)
follow (acts.AnnotName f n) P cs h = (longest_none, h)
follow acts.AddAnnot (PAnnot f n is ∷ PAnnots an ∷ P) cs h = (longest_same (annots_then_from an (Annotate f n is)) (annots_then_to an (Annotate f n is)) (longest_two h.1.0 h.0), h.1.1)
follow (acts.NameAtom n) P cs h = (longest_none, h)
follow (acts.NumberAtom v) P cs h = (longest_none, h)
follow acts.ReturnAtom P cs h = (longest_none, h)
follow acts.SizeofAtom (PDecl d ∷ P) cs h = (longest_one h.0, h.1)
follow (acts.OneFactor f) (PAtom a ∷ P) cs h = (longest_one h.0, h.1)
follow (acts.TwoFactors f) (PAtom b ∷ PAtom a ∷ P) cs h = (longest_two h.1.0 h.0, h.1.1)
follow acts.AddItem (PItem x ∷ PAnnot f n is ∷ P) cs h = (longest_same (items_then_from is x) (items_then_to is x) (longest_two h.1.0 h.0), h.1.1)
follow acts.Plain (PExpr x ∷ P) cs h = (longest_one h.0, h.1)
follow acts.NoValues P cs h = (longest_none, h)
follow acts.AddValue (PValue v ∷ PValues vs ∷ P) cs h = (longest_same (values_then_from vs v) (values_then_to vs v) (longest_two h.1.0 h.0), h.1.1)
follow (acts.Braces f) (PValues vs ∷ P) cs h = (longest_under f (longest_one h.0), h.1)
follow acts.NoEntries P cs h = (longest_none, h)
follow acts.AddLocal (PDecls ds ∷ PEntries es ∷ P) cs h = (longest_same (entries_then_from es (LocalEntry ds)) (entries_then_to es (LocalEntry ds)) (longest_two h.1.0 h.0), h.1.1)
follow acts.AddStmt (PStmt s ∷ PEntries es ∷ P) cs h = (longest_same (entries_then_from es (StmtEntry s)) (entries_then_to es (StmtEntry s)) (longest_two h.1.0 h.0), h.1.1)
follow (acts.Block f) (PEntries es ∷ P) cs h = (longest_under f (longest_one h.0), h.1)
follow (acts.Expression f) (PMaybe x ∷ P) cs h = (longest_under f (longest_one h.0), h.1)
follow (acts.If f) (PStmt s ∷ PExpr x ∷ P) cs h = (longest_under f (longest_two h.1.0 h.0), h.1.1)
follow (acts.IfElse f) (PStmt z ∷ PStmt s ∷ PExpr x ∷ P) cs h = (longest_under f (longest_three h.1.1.0 h.1.0 h.0), h.1.1.1)
follow (acts.While f) (PStmt s ∷ PExpr x ∷ P) cs h = (longest_under f (longest_two h.1.0 h.0), h.1.1)
follow (acts.Do f) (PExpr x ∷ PStmt s ∷ P) cs h = (longest_under f (longest_two h.1.0 h.0), h.1.1)
follow acts.NoFirst P cs h = (longest_none, h)
follow acts.LocalFirst (PDecls ds ∷ P) cs h = (longest_one h.0, h.1)
follow acts.ExprFirst (PExpr x ∷ P) cs h = (longest_one h.0, h.1)
follow (acts.For f) (PStmt s ∷ PMaybe y ∷ PMaybe x ∷ PFirst a ∷ P) cs h = (longest_under f (longest_four h.1.1.1.0 h.1.1.0 h.1.0 h.0), h.1.1.1.1)
follow (acts.Break f) P cs h = (longest_leaf f, h)
follow (acts.Continue f) P cs h = (longest_leaf f, h)
follow (acts.Return f) (PMaybe x ∷ P) cs h = (longest_under f (longest_one h.0), h.1)
follow a P cs h = tt

-- one more of the actions
pub follow_next : (v : List Action) (i : ℕ) (a : Action) (cs new : List Chain) → i < length v → a ≡ get_or v i a →
    Measures (acted (reverse (take i v)) []) cs → new ≡ affected (effect a) cs → Measures (acted (reverse (take (i + 1) v)) []) new
follow_next v i a cs new lt e h is =
    rw (is, take_more v i a lt, ← e, reverse-append (take i v) (a ∷ [])) (follow a (acted (reverse (take i v)) []) cs h)
