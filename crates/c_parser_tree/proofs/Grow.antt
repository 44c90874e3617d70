-- What stands in some nodes stands where there are more.
use Rattle.std.proofs.Common.{◌≡◌, ℕ, List, Option, Some}
use Rattle.c_syntax.specs.declared.id.DeclId.{DeclId}
use Rattle.c_syntax.specs.declared.id.StmtId.{StmtId}
use Rattle.c_syntax.specs.declared.id.ExprId.{ExprId}
use Rattle.c_syntax.specs.declared.expression.Expr.{Expr as ExprNode}
use Rattle.c_syntax.specs.declared.expression.ExprKind.{ExprKind}
use Rattle.c_syntax.specs.declared.declaration.Decl.{Decl as DeclNode}
use Rattle.c_syntax.specs.declared.declaration.Annot.{Annot}
use Rattle.c_syntax.specs.declared.declaration.Item.{Item}
use Rattle.c_syntax.specs.declared.declaration.Atom.{Atom as Factor}
use Rattle.c_syntax.specs.declared.declaration.Part.{Part}
use Rattle.c_syntax.specs.declared.declaration.Value.{Value as Given}
use Rattle.c_syntax.specs.declared.declaration.Rest.{Rest as After}
use Rattle.c_syntax.specs.declared.statement.Stmt.{Stmt as StmtNode}
use Rattle.c_syntax.specs.declared.statement.StmtKind.{StmtKind}
use Rattle.c_syntax.specs.declared.statement.Entry.{Entry}
use Rattle.c_syntax.specs.declared.statement.First.{First as Begin}
use Rattle.c_syntax.specs.Nodes.{Nodes, decl_at, stmt_at, expr_at}
use Rattle.c_syntax.specs.Syntax.{Expr, Exprs, MaybeExpr, Decl, Decls, Annots, Annot as Annotated, Items, Item as Factors, Atom, Parts, Value, Values, Rest, Stmt, Entries, Entry as Stood, First, Name, Number, Char, Text, Binary, Assign, Cond, Prefix, Postfix, SizeofExpr, SizeofType, Cast, Index, Call, Member, Arrow, NoExprs, MoreExprs, NoExpr, OneExpr, Declare, NoDecls, MoreDecls, NoAnnots, MoreAnnots, Annotate, NoItems, MoreItems, OneFactor, TwoFactors, NameAtom, NumberAtom, ReturnAtom, SizeofAtom, NoParts, Pointer, Array, Params, Plain, Braces, NoValues, MoreValues, NoRest, Initial, Body, Members, Block, Expression, If, IfElse, While, Do, For, Break, Continue, Return, NoEntries, MoreEntries, LocalEntry, StmtEntry, NoFirst, LocalFirst, ExprFirst}
use Rattle.c_syntax.specs.Stands.{IsExprAt, IsStmtAt, Stands, StandExprs, StandsMaybe, StandsDecl, StandDecls, StandAnnots, StandsAnnot, StandsItem, StandsEntry, StandItems, StandsAtom, StandParts, StandsValue, StandValues, StandsRest, StandsStmt, StandEntries, StandsFirst}

-- the second nodes are the first ones and maybe more, whatever the declarations of the source itself are
pub record Grows (N M : Nodes) : Type 0 where
  pub decl : (i : DeclId) (d : DeclNode) → decl_at N i ≡ Some d → decl_at M i ≡ Some d
  pub stmt : (i : StmtId) (s : StmtNode) → stmt_at N i ≡ Some s → stmt_at M i ≡ Some s
  pub expr : (i : ExprId) (e : ExprNode) → expr_at N i ≡ Some e → expr_at M i ≡ Some e

pub stays_expr : {N M : Nodes} → Grows N M → (i : ExprId) (f : ℕ) (k : ExprKind) → IsExprAt N i f k → IsExprAt M i f k
stays_expr g i f k (e, h, p, q) = (e, g.expr i e h, p, q)

pub stays_stmt : {N M : Nodes} → Grows N M → (i : StmtId) (f : ℕ) (k : StmtKind) → IsStmtAt N i f k → IsStmtAt M i f k
stays_stmt g i f k (e, h, p, q) = (e, g.stmt i e h, p, q)

mutual
  pub grow : {N M : Nodes} → Grows N M → (i : ExprId) (x : Expr) → Stands N i x → Stands M i x
  grow g i (Name f n) h = stays_expr g i f _ h
  grow g i (Number f v s d) h = stays_expr g i f _ h
  grow g i (Char f v) h = stays_expr g i f _ h
  grow g i (Text f n) h = stays_expr g i f _ h
  grow g i (Binary f s x y) (a, b, h, p, q) = (a, b, stays_expr g i f _ h, grow g a x p, grow g b y q)
  grow g i (Assign f s x y) (a, b, h, p, q) = (a, b, stays_expr g i f _ h, grow g a x p, grow g b y q)
  grow g i (Cond f x y z) (a, b, c, h, p, q, r) = (a, b, c, stays_expr g i f _ h, grow g a x p, grow g b y q, grow g c z r)
  grow g i (Prefix f s x) (a, h, p) = (a, stays_expr g i f _ h, grow g a x p)
  grow g i (Postfix f s x) (a, h, p) = (a, stays_expr g i f _ h, grow g a x p)
  grow g i (SizeofExpr f x) (a, h, p) = (a, stays_expr g i f _ h, grow g a x p)
  grow g i (SizeofType f d) (a, h, p) = (a, stays_expr g i f _ h, grow_decl g a d p)
  grow g i (Cast f d x) (a, b, h, p, q) = (a, b, stays_expr g i f _ h, grow_decl g a d p, grow g b x q)
  grow g i (Index f x y) (a, b, h, p, q) = (a, b, stays_expr g i f _ h, grow g a x p, grow g b y q)
  grow g i (Call f x xs) (a, is, h, p, q) = (a, is, stays_expr g i f _ h, grow g a x p, grow_exprs g is xs q)
  grow g i (Member f x n) (a, h, p) = (a, stays_expr g i f _ h, grow g a x p)
  grow g i (Arrow f x n) (a, h, p) = (a, stays_expr g i f _ h, grow g a x p)

  pub grow_exprs : {N M : Nodes} → Grows N M → (is : List ExprId) (xs : Exprs) → StandExprs N is xs → StandExprs M is xs
  grow_exprs g is NoExprs h = h
  grow_exprs g is (MoreExprs x xs) (i, js, h, p, q) = (i, js, h, grow g i x p, grow_exprs g js xs q)

  pub grow_maybe : {N M : Nodes} → Grows N M → (i : Option ExprId) (x : MaybeExpr) → StandsMaybe N i x → StandsMaybe M i x
  grow_maybe g i NoExpr h = h
  grow_maybe g i (OneExpr x) (a, h, p) = (a, h, grow g a x p)

  pub grow_decl : {N M : Nodes} → Grows N M → (i : DeclId) (x : Decl) → StandsDecl N i x → StandsDecl M i x
  grow_decl g i (Declare f an b ps n r) (d, h, p, q, t, u, v, w) = (d, g.decl i d h, p, grow_annots g d.annots an q, t, grow_parts g d.parts ps u, v, grow_rest g d.rest r w)

  pub grow_decls : {N M : Nodes} → Grows N M → (is : List DeclId) (xs : Decls) → StandDecls N is xs → StandDecls M is xs
  grow_decls g is NoDecls h = h
  grow_decls g is (MoreDecls x xs) (i, js, h, p, q) = (i, js, h, grow_decl g i x p, grow_decls g js xs q)

  pub grow_annots : {N M : Nodes} → Grows N M → (vs : List Annot) (xs : Annots) → StandAnnots N vs xs → StandAnnots M vs xs
  grow_annots g vs NoAnnots h = h
  grow_annots g vs (MoreAnnots x xs) (v, ws, h, p, q) = (v, ws, h, grow_annot g v x p, grow_annots g ws xs q)

  pub grow_annot : {N M : Nodes} → Grows N M → (v : Annot) (x : Annotated) → StandsAnnot N v x → StandsAnnot M v x
  grow_annot g v (Annotate f n is) (p, q, r) = (p, q, grow_items g v.items is r)

  pub grow_items : {N M : Nodes} → Grows N M → (vs : List Item) (xs : Items) → StandItems N vs xs → StandItems M vs xs
  grow_items g vs NoItems h = h
  grow_items g vs (MoreItems x xs) (v, ws, h, p, q) = (v, ws, h, grow_item g v x p, grow_items g ws xs q)

  pub grow_item : {N M : Nodes} → Grows N M → (v : Item) (x : Factors) → StandsItem N v x → StandsItem M v x
  grow_item g v (OneFactor f x) (p, q, r) = (p, grow_atom g v.a x q, r)
  grow_item g v (TwoFactors f x y) (b, p, q, r, t) = (b, p, grow_atom g v.a x q, r, grow_atom g b y t)

  pub grow_atom : {N M : Nodes} → Grows N M → (a : Factor) (x : Atom) → StandsAtom N a x → StandsAtom M a x
  grow_atom g a (NameAtom n) h = h
  grow_atom g a (NumberAtom v) h = h
  grow_atom g a ReturnAtom h = h
  grow_atom g a (SizeofAtom d) (i, h, p) = (i, h, grow_decl g i d p)

  pub grow_parts : {N M : Nodes} → Grows N M → (vs : List Part) (xs : Parts) → StandParts N vs xs → StandParts M vs xs
  grow_parts g vs NoParts h = h
  grow_parts g vs (Pointer f ps) (v, ws, h, p, q, r) = (v, ws, h, p, q, grow_parts g ws ps r)
  grow_parts g vs (Array f x ps) (v, a, ws, h, p, q, r, t) = (v, a, ws, h, p, q, grow g a x r, grow_parts g ws ps t)
  grow_parts g vs (Params f ds ps) (v, is, ws, h, p, q, r, t) = (v, is, ws, h, p, q, grow_decls g is ds r, grow_parts g ws ps t)

  pub grow_value : {N M : Nodes} → Grows N M → (v : Given) (x : Value) → StandsValue N v x → StandsValue M v x
  grow_value g v (Plain x) (a, h, p) = (a, h, grow g a x p)
  grow_value g v (Braces f xs) (w, h, p) = (w, h, grow_values g w.items xs p)

  pub grow_values : {N M : Nodes} → Grows N M → (vs : List Given) (xs : Values) → StandValues N vs xs → StandValues M vs xs
  grow_values g vs NoValues h = h
  grow_values g vs (MoreValues x xs) (v, ws, h, p, q) = (v, ws, h, grow_value g v x p, grow_values g ws xs q)

  pub grow_rest : {N M : Nodes} → Grows N M → (q : After) (x : Rest) → StandsRest N q x → StandsRest M q x
  grow_rest g q NoRest h = h
  grow_rest g q (Initial x) (v, h, p) = (v, h, grow_value g v x p)
  grow_rest g q (Body s) (i, h, p) = (i, h, grow_stmt g i s p)
  grow_rest g q (Members ds) (is, h, p) = (is, h, grow_decls g is ds p)

  pub grow_stmt : {N M : Nodes} → Grows N M → (i : StmtId) (x : Stmt) → StandsStmt N i x → StandsStmt M i x
  grow_stmt g i (Block f es) (vs, h, p) = (vs, stays_stmt g i f _ h, grow_entries g vs es p)
  grow_stmt g i (Expression f x) (a, h, p) = (a, stays_stmt g i f _ h, grow_maybe g a x p)
  grow_stmt g i (If f x s) (a, b, h, p, q) = (a, b, stays_stmt g i f _ h, grow g a x p, grow_stmt g b s q)
  grow_stmt g i (IfElse f x s z) (a, b, c, h, p, q, r) = (a, b, c, stays_stmt g i f _ h, grow g a x p, grow_stmt g b s q, grow_stmt g c z r)
  grow_stmt g i (While f x s) (a, b, h, p, q) = (a, b, stays_stmt g i f _ h, grow g a x p, grow_stmt g b s q)
  grow_stmt g i (Do f s x) (a, b, h, p, q) = (a, b, stays_stmt g i f _ h, grow_stmt g a s p, grow g b x q)
  grow_stmt g i (For f x y z s) (a, b, c, d, h, p, q, r, t) = (a, b, c, d, stays_stmt g i f _ h, grow_first g a x p, grow_maybe g b y q, grow_maybe g c z r, grow_stmt g d s t)
  grow_stmt g i (Break f) h = stays_stmt g i f _ h
  grow_stmt g i (Continue f) h = stays_stmt g i f _ h
  grow_stmt g i (Return f x) (a, h, p) = (a, stays_stmt g i f _ h, grow_maybe g a x p)

  pub grow_entries : {N M : Nodes} → Grows N M → (vs : List Entry) (xs : Entries) → StandEntries N vs xs → StandEntries M vs xs
  grow_entries g vs NoEntries h = h
  grow_entries g vs (MoreEntries x xs) (v, ws, h, p, q) = (v, ws, h, grow_entry g v x p, grow_entries g ws xs q)

  pub grow_entry : {N M : Nodes} → Grows N M → (v : Entry) (x : Stood) → StandsEntry N v x → StandsEntry M v x
  grow_entry g v (LocalEntry ds) (is, h, p) = (is, h, grow_decls g is ds p)
  grow_entry g v (StmtEntry s) (i, h, p) = (i, h, grow_stmt g i s p)

  pub grow_first : {N M : Nodes} → Grows N M → (a : Begin) (x : First) → StandsFirst N a x → StandsFirst M a x
  grow_first g a NoFirst h = h
  grow_first g a (LocalFirst ds) (is, h, p) = (is, h, grow_decls g is ds p)
  grow_first g a (ExprFirst x) (i, h, p) = (i, h, grow g i x p)
