-- What a node that stands for a part of a source names are parts too.
use Rattle.std.proofs.Common.{rules, ◌≡◌, ◌<◌, ◌∙◌, ℕ, List, Some, length, ap, sym, subst}
use Rattle.std.specs.Prelude.{Vec}
use Rattle.std.specs.declared.alloc.Global.{Global}
use Rattle.std.proofs.lemmas.Option.{slice_get_within}
use Rattle.c_syntax.specs.declared.id.DeclId.{DeclId}
use Rattle.c_syntax.specs.declared.id.StmtId.{StmtId}
use Rattle.c_syntax.specs.declared.id.ExprId.{ExprId}
use Rattle.c_syntax.specs.declared.expression.Expr.{Expr as ExprNode}
use Rattle.c_syntax.specs.declared.declaration.Decl.{Decl as DeclNode}
use Rattle.c_syntax.specs.declared.declaration.Annot.{Annot}
use Rattle.c_syntax.specs.declared.declaration.Item.{Item}
use Rattle.c_syntax.specs.declared.declaration.Atom.{Atom as Factor}
use Rattle.c_syntax.specs.declared.declaration.Part.{Part}
use Rattle.c_syntax.specs.declared.declaration.Value.{Value as Given, out-Value}
use Rattle.c_syntax.specs.declared.declaration.Value.TheOpen.{Value-F}
use Rattle.c_syntax.specs.declared.declaration.Value.TheVariants as values
use Rattle.c_syntax.specs.declared.declaration.Value.TheViews.{the_lemmas}
use Rattle.c_syntax.specs.declared.declaration.Rest.{Rest as After}
use Rattle.c_syntax.specs.declared.statement.Stmt.{Stmt as StmtNode}
use Rattle.c_syntax.specs.declared.statement.Entry.{Entry}
use Rattle.c_syntax.specs.declared.statement.First.{First as Begin}
use Rattle.std.proofs.Common.{Option}
use Rattle.c_syntax.specs.Nodes.{Nodes, decl_at, stmt_at, expr_at}
use Rattle.c_syntax.specs.Syntax.{Expr, Exprs, MaybeExpr as Maybe, Decl, Decls, Annots, Annot as Annotated, Items, Item as Factors, Atom, Parts, Value, Values, Rest, Stmt, Entries, Entry as Stood, First, Name, Number, Char, Text, Binary, Assign, Cond, Prefix, Postfix, SizeofExpr, SizeofType, Cast, Index, Call, Member, Arrow, NoExprs, MoreExprs, NoExpr, OneExpr, Declare, NoDecls, MoreDecls, NoAnnots, MoreAnnots, Annotate, NoItems, MoreItems, OneFactor, TwoFactors, NameAtom, NumberAtom, ReturnAtom, SizeofAtom, NoParts, Pointer, Array, Params, Plain, Braces, NoValues, MoreValues, NoRest, Initial, Body, Members, Block, Expression, If, IfElse, While, Do, For, Break, Continue, Return, NoEntries, MoreEntries, LocalEntry, StmtEntry, NoFirst, LocalFirst, ExprFirst}
use Rattle.c_syntax.specs.Stands.{Stands, StandExprs, StandsMaybe, StandsDecl, StandDecls, StandAnnots, StandItems, StandsItem, StandsAtom, StandParts, StandsValue, StandValues, StandsRest, StandsStmt, StandEntries, StandsEntry, StandsFirst}
use Rattle.test_trees.specs.Parts.{IsExpr, IsStmt, IsDecl, AreExprs, AreDecls, MaybeExpr, ExprFits, KindFits, AreParts, AtomFits, MaybeAtom, ItemFits, AreItems, AreAnnots, ValueFits, AreValues, RestFits, EntryFits, AreEntries, FirstFits, StmtFits}

pub exprs_fit : (N : Nodes) (is : List ExprId) (xs : Exprs) → StandExprs N is xs → AreExprs N is
exprs_fit N is NoExprs e = subst (AreExprs N) (sym e) tt
exprs_fit N is (MoreExprs x xs) (i, js, e, p, q) = subst (AreExprs N) (sym e) ((x, p), exprs_fit N js xs q)

pub decls_fit : (N : Nodes) (is : List DeclId) (xs : Decls) → StandDecls N is xs → AreDecls N is
decls_fit N is NoDecls e = subst (AreDecls N) (sym e) tt
decls_fit N is (MoreDecls x xs) (i, js, e, p, q) = subst (AreDecls N) (sym e) ((x, p), decls_fit N js xs q)

maybe_fits : (N : Nodes) (a : Option ExprId) (x : Maybe) → StandsMaybe N a x → MaybeExpr N a
maybe_fits N a NoExpr e = subst (MaybeExpr N) (sym e) tt
maybe_fits N a (OneExpr x) (i, e, p) = subst (MaybeExpr N) (sym e) (x, p)

parts_fit : (N : Nodes) (vs : List Part) (xs : Parts) → StandParts N vs xs → AreParts N vs
parts_fit N vs NoParts e = subst (AreParts N) (sym e) tt
parts_fit N vs (Pointer f xs) (v, ws, e, _, k, q) = subst (AreParts N) (sym e) (subst (KindFits N) (sym k) tt, parts_fit N ws xs q)
parts_fit N vs (Array f x xs) (v, a, ws, e, _, k, p, q) = subst (AreParts N) (sym e) (subst (KindFits N) (sym k) (x, p), parts_fit N ws xs q)
parts_fit N vs (Params f ds xs) (v, is, ws, e, _, k, p, q) = subst (AreParts N) (sym e) (subst (KindFits N) (sym k) (decls_fit N is ds p), parts_fit N ws xs q)

atom_fits : (N : Nodes) (a : Factor) (x : Atom) → StandsAtom N a x → AtomFits N a
atom_fits N a (NameAtom n) e = subst (AtomFits N) (sym e) tt
atom_fits N a (NumberAtom v) e = subst (AtomFits N) (sym e) tt
atom_fits N a ReturnAtom e = subst (AtomFits N) (sym e) tt
atom_fits N a (SizeofAtom d) (i, e, p) = subst (AtomFits N) (sym e) (d, p)

item_fits : (N : Nodes) (v : Item) (x : Factors) → StandsItem N v x → ItemFits N v
item_fits N v (OneFactor f x) (_, p, e) = (atom_fits N v.a x p, subst (MaybeAtom N) (sym e) tt)
item_fits N v (TwoFactors f x y) (b, _, p, e, q) = (atom_fits N v.a x p, subst (MaybeAtom N) (sym e) (atom_fits N b y q))

items_fit : (N : Nodes) (vs : List Item) (xs : Items) → StandItems N vs xs → AreItems N vs
items_fit N vs NoItems e = subst (AreItems N) (sym e) tt
items_fit N vs (MoreItems x xs) (v, ws, e, p, q) = subst (AreItems N) (sym e) (item_fits N v x p, items_fit N ws xs q)

annots_fit : (N : Nodes) (vs : List Annot) (xs : Annots) → StandAnnots N vs xs → AreAnnots N vs
annots_fit N vs NoAnnots e = subst (AreAnnots N) (sym e) tt
annots_fit N vs (MoreAnnots (Annotate f n is) xs) (v, ws, e, (_, _, p), q) = subst (AreAnnots N) (sym e) (items_fit N v.items is p, annots_fit N ws xs q)

values_fit : (N : Nodes) (vs : List Given) (xs : Values) → StandValues N vs xs → AreValues N vs
values_fit N vs NoValues e = subst (AreValues N) (sym e) tt
values_fit N vs (MoreValues x xs) (v, ws, e, p, q) = subst (AreValues N) (sym e) ((x, p), values_fit N ws xs q)

plain_by : (N : Nodes) (v : Given) (a : ExprId) → ValueFits N v → out-Value v ≡ Value-F.Plain a → IsExpr N a
plain_by N v a (Plain x, (b, e, p)) g = let same : b ≡ a = cc in subst (IsExpr N) same (x, p)
plain_by N v a (Braces f xs, (w, e, p)) g = absurd cc

braces_by : (N : Nodes) (v : Given) (f : ℕ) (w : Vec Given Global) → ValueFits N v → out-Value v ≡ Value-F.Braces f w → AreValues N w.items
braces_by N v f w (Plain x, (b, e, p)) g = absurd cc
braces_by N v f w (Braces h xs, (u, e, p)) g = let same : u ≡ w = cc in values_fit N w.items xs (subst (λ (z : Vec Given Global). StandValues N z.items xs) same p)

plain_open : (v : Given) (a : ExprId) → v ≡ values.Plain a → out-Value v ≡ Value-F.Plain a
plain_open v a e = ap out-Value e ∙ (search (rules, the_lemmas))

braces_open : (v : Given) (f : ℕ) (w : Vec Given Global) → v ≡ values.Braces f w → out-Value v ≡ Value-F.Braces f w
braces_open v f w e = ap out-Value e ∙ (search (rules, the_lemmas))

-- the number of a value that isn't in braces
pub plain_fits : (N : Nodes) (v : Given) (a : ExprId) → ValueFits N v → v ≡ values.Plain a → IsExpr N a
plain_fits N v a h e = plain_by N v a h (plain_open v a e)

-- the values of one in braces
pub braces_fit : (N : Nodes) (v : Given) (f : ℕ) (w : Vec Given Global) → ValueFits N v → v ≡ values.Braces f w → AreValues N w.items
braces_fit N v f w h e = braces_by N v f w h (braces_open v f w e)

rest_fits : (N : Nodes) (q : After) (x : Rest) → StandsRest N q x → RestFits N q
rest_fits N q NoRest e = subst (RestFits N) (sym e) tt
rest_fits N q (Initial x) (v, e, p) = subst (RestFits N) (sym e) (x, p)
rest_fits N q (Body s) (i, e, p) = subst (RestFits N) (sym e) (s, p)
rest_fits N q (Members ds) (is, e, p) = subst (RestFits N) (sym e) (decls_fit N is ds p)

entry_fits : (N : Nodes) (v : Entry) (x : Stood) → StandsEntry N v x → EntryFits N v
entry_fits N v (LocalEntry ds) (is, e, p) = subst (EntryFits N) (sym e) (decls_fit N is ds p)
entry_fits N v (StmtEntry s) (i, e, p) = subst (EntryFits N) (sym e) (s, p)

entries_fit : (N : Nodes) (vs : List Entry) (xs : Entries) → StandEntries N vs xs → AreEntries N vs
entries_fit N vs NoEntries e = subst (AreEntries N) (sym e) tt
entries_fit N vs (MoreEntries x xs) (v, ws, e, p, q) = subst (AreEntries N) (sym e) (entry_fits N v x p, entries_fit N ws xs q)

first_fits : (N : Nodes) (a : Begin) (x : First) → StandsFirst N a x → FirstFits N a
first_fits N a NoFirst e = subst (FirstFits N) (sym e) tt
first_fits N a (LocalFirst ds) (is, e, p) = subst (FirstFits N) (sym e) (decls_fit N is ds p)
first_fits N a (ExprFirst x) (i, e, p) = subst (FirstFits N) (sym e) (x, p)

-- the node of the number, and that it fits
expr_of : (N : Nodes) (i : ExprId) (x : Expr) → Stands N i x → (e : ExprNode) × (expr_at N i ≡ Some e) × ExprFits N e.kind
expr_of N i (Name f n) (e, g, _, k) = (e, g, subst (ExprFits N) (sym k) tt)
expr_of N i (Number f v s d) (e, g, _, k) = (e, g, subst (ExprFits N) (sym k) tt)
expr_of N i (Char f v) (e, g, _, k) = (e, g, subst (ExprFits N) (sym k) tt)
expr_of N i (Text f n) (e, g, _, k) = (e, g, subst (ExprFits N) (sym k) tt)
expr_of N i (Binary f s x y) (a, b, (e, g, _, k), p, q) = (e, g, subst (ExprFits N) (sym k) ((x, p), (y, q)))
expr_of N i (Assign f s x y) (a, b, (e, g, _, k), p, q) = (e, g, subst (ExprFits N) (sym k) ((x, p), (y, q)))
expr_of N i (Cond f x y z) (a, b, c, (e, g, _, k), p, q, r) = (e, g, subst (ExprFits N) (sym k) ((x, p), (y, q), (z, r)))
expr_of N i (Prefix f s x) (a, (e, g, _, k), p) = (e, g, subst (ExprFits N) (sym k) (x, p))
expr_of N i (Postfix f s x) (a, (e, g, _, k), p) = (e, g, subst (ExprFits N) (sym k) (x, p))
expr_of N i (SizeofExpr f x) (a, (e, g, _, k), p) = (e, g, subst (ExprFits N) (sym k) (x, p))
expr_of N i (SizeofType f d) (a, (e, g, _, k), p) = (e, g, subst (ExprFits N) (sym k) (d, p))
expr_of N i (Cast f d x) (a, b, (e, g, _, k), p, q) = (e, g, subst (ExprFits N) (sym k) ((d, p), (x, q)))
expr_of N i (Index f x y) (a, b, (e, g, _, k), p, q) = (e, g, subst (ExprFits N) (sym k) ((x, p), (y, q)))
expr_of N i (Call f x xs) (a, is, (e, g, _, k), p, q) = (e, g, subst (ExprFits N) (sym k) ((x, p), exprs_fit N is xs q))
expr_of N i (Member f x n) (a, (e, g, _, k), p) = (e, g, subst (ExprFits N) (sym k) (x, p))
expr_of N i (Arrow f x n) (a, (e, g, _, k), p) = (e, g, subst (ExprFits N) (sym k) (x, p))

-- the node of the number, and that it fits
stmt_of : (N : Nodes) (i : StmtId) (x : Stmt) → StandsStmt N i x → (s : StmtNode) × (stmt_at N i ≡ Some s) × StmtFits N s.kind
stmt_of N i (Block f es) (vs, (s, g, _, k), p) = (s, g, subst (StmtFits N) (sym k) (entries_fit N vs es p))
stmt_of N i (Expression f x) (a, (s, g, _, k), p) = (s, g, subst (StmtFits N) (sym k) (maybe_fits N a x p))
stmt_of N i (If f x y) (a, b, (s, g, _, k), p, q) = (s, g, subst (StmtFits N) (sym k) ((x, p), (y, q), tt))
stmt_of N i (IfElse f x y z) (a, b, c, (s, g, _, k), p, q, r) = (s, g, subst (StmtFits N) (sym k) ((x, p), (y, q), (z, r)))
stmt_of N i (While f x y) (a, b, (s, g, _, k), p, q) = (s, g, subst (StmtFits N) (sym k) ((x, p), (y, q)))
stmt_of N i (Do f y x) (a, b, (s, g, _, k), p, q) = (s, g, subst (StmtFits N) (sym k) ((y, p), (x, q)))
stmt_of N i (For f x y z w) (a, b, c, d, (s, g, _, k), p, q, r, t) = (s, g, subst (StmtFits N) (sym k) (first_fits N a x p, maybe_fits N b y q, maybe_fits N c z r, (w, t)))
stmt_of N i (Break f) (s, g, _, k) = (s, g, subst (StmtFits N) (sym k) tt)
stmt_of N i (Continue f) (s, g, _, k) = (s, g, subst (StmtFits N) (sym k) tt)
stmt_of N i (Return f x) (a, (s, g, _, k), p) = (s, g, subst (StmtFits N) (sym k) (maybe_fits N a x p))

-- the node of the number, and that it fits
decl_of : (N : Nodes) (i : DeclId) (x : Decl) → StandsDecl N i x → (d : DeclNode) × (decl_at N i ≡ Some d) × AreAnnots N d.annots × AreParts N d.parts × RestFits N d.rest
decl_of N i (Declare f an b ps n r) (d, g, _, a, _, p, _, q) = (d, g, annots_fit N d.annots an a, parts_fit N d.parts ps p, rest_fits N d.rest r q)

pub expr_inside : (N : Nodes) (i : ExprId) → IsExpr N i → i.0 < length N.exprs
expr_inside N i (x, h) = let r = expr_of N i x h in slice_get_within N.exprs i.0 r.0 r.1

pub stmt_inside : (N : Nodes) (i : StmtId) → IsStmt N i → i.0 < length N.stmts
stmt_inside N i (x, h) = let r = stmt_of N i x h in slice_get_within N.stmts i.0 r.0 r.1

pub decl_inside : (N : Nodes) (i : DeclId) → IsDecl N i → i.0 < length N.decls
decl_inside N i (x, h) = let r = decl_of N i x h in slice_get_within N.decls i.0 r.0 r.1

pub expr_fits : (N : Nodes) (i : ExprId) (e : ExprNode) → IsExpr N i → expr_at N i ≡ Some e → ExprFits N e.kind
expr_fits N i e (x, h) g = let r = expr_of N i x h in let same : r.0 ≡ e = cc in subst (λ (v : ExprNode). ExprFits N v.kind) same r.2

pub stmt_fits : (N : Nodes) (i : StmtId) (s : StmtNode) → IsStmt N i → stmt_at N i ≡ Some s → StmtFits N s.kind
stmt_fits N i s (x, h) g = let r = stmt_of N i x h in let same : r.0 ≡ s = cc in subst (λ (v : StmtNode). StmtFits N v.kind) same r.2

pub decl_parts_fit : (N : Nodes) (i : DeclId) (d : DeclNode) → IsDecl N i → decl_at N i ≡ Some d → AreParts N d.parts
decl_parts_fit N i d (x, h) g = let r = decl_of N i x h in let same : r.0 ≡ d = cc in subst (λ (v : DeclNode). AreParts N v.parts) same r.3

pub decl_rest_fits : (N : Nodes) (i : DeclId) (d : DeclNode) → IsDecl N i → decl_at N i ≡ Some d → RestFits N d.rest
decl_rest_fits N i d (x, h) g = let r = decl_of N i x h in let same : r.0 ≡ d = cc in subst (λ (v : DeclNode). RestFits N v.rest) same r.4

pub decl_annots_fit : (N : Nodes) (i : DeclId) (d : DeclNode) → IsDecl N i → decl_at N i ≡ Some d → AreAnnots N d.annots
decl_annots_fit N i d (x, h) g = let r = decl_of N i x h in let same : r.0 ≡ d = cc in subst (λ (v : DeclNode). AreAnnots N v.annots) same r.2
