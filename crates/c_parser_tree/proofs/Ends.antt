-- Lists with one more at their end, and nodes that are new.
use Rattle.std.proofs.Common.{◌≡◌, ℕ, zero, suc, List, [], ◌∷◌, ◌++◌, length, slice_get, Some, refl}
use Rattle.c_syntax.specs.declared.id.DeclId.{DeclId}
use Rattle.c_syntax.specs.declared.id.ExprId.{ExprId}
use Rattle.c_syntax.specs.declared.expression.Expr.{Expr as ExprNode}
use Rattle.c_syntax.specs.declared.expression.ExprKind.{ExprKind}
use Rattle.c_syntax.specs.declared.declaration.Decl.{Decl as DeclNode}
use Rattle.c_syntax.specs.declared.declaration.Annot.{Annot}
use Rattle.c_syntax.specs.declared.declaration.Item.{Item}
use Rattle.c_syntax.specs.declared.declaration.Value.{Value as Given}
use Rattle.c_syntax.specs.declared.statement.Stmt.{Stmt as StmtNode}
use Rattle.c_syntax.specs.declared.statement.StmtKind.{StmtKind}
use Rattle.c_syntax.specs.declared.statement.Entry.{Entry}
use Rattle.c_syntax.specs.Nodes.{Nodes, decl_at}
use Rattle.c_syntax.specs.Syntax.{Expr, Exprs, Decl, Decls, Annots, Annot as Annotated, Items, Item as Factors, Value, Values, Entries, Entry as Stood, NoExprs, MoreExprs, NoDecls, MoreDecls, NoAnnots, MoreAnnots, NoItems, MoreItems, NoValues, MoreValues, NoEntries, MoreEntries, exprs_then, decls_then, annots_then, items_then, values_then, entries_then}
use Rattle.c_syntax.specs.Stands.{IsExprAt, IsStmtAt, Stands, StandExprs, StandsDecl, StandDecls, StandAnnots, StandsAnnot, StandsItem, StandItems, StandsValue, StandValues, StandEntries, StandsEntry}
use Rattle.c_parser_tree.specs.Nodes.{with_decl, with_stmt, with_expr}
use Rattle.c_parser_tree.proofs.Grow.{Grows}

-- the last of a list
at_end : {A : Type 0} (xs : List A) (x : A) → slice_get (xs ++ x ∷ []) (length xs) ≡ Some x
at_end [] x = refl
at_end (y ∷ xs) x = at_end xs x

-- what is in a list is there with one more
stands_before : {A : Type 0} (xs : List A) (i : ℕ) (x y : A) → slice_get xs i ≡ Some x → slice_get (xs ++ y ∷ []) i ≡ Some x
stands_before [] i x y h = absurd cc
stands_before (z ∷ xs) zero x y h = h
stands_before (z ∷ xs) (suc i) x y h = stands_before xs i x y h

pub new_expr : (N : Nodes) (f : ℕ) (k : ExprKind) → IsExprAt (with_expr N (record { from = f; kind = k })) (record { 0 = length N.exprs }) f k
new_expr N f k = (record { from = f; kind = k }, at_end N.exprs _, refl, refl)

pub new_stmt : (N : Nodes) (f : ℕ) (k : StmtKind) → IsStmtAt (with_stmt N (record { from = f; kind = k })) (record { 0 = length N.stmts }) f k
new_stmt N f k = (record { from = f; kind = k }, at_end N.stmts _, refl, refl)

pub new_decl : (N : Nodes) (d : DeclNode) → decl_at (with_decl N d) (record { 0 = length N.decls }) ≡ Some d
new_decl N d = at_end N.decls d

pub grows_expr : (N : Nodes) (e : ExprNode) → Grows N (with_expr N e)
grows_expr N e = record { decl = λ i d h. h; stmt = λ i s h. h; expr = λ i x h. stands_before N.exprs i.0 x e h }

pub grows_stmt : (N : Nodes) (s : StmtNode) → Grows N (with_stmt N s)
grows_stmt N s = record { decl = λ i d h. h; stmt = λ i x h. stands_before N.stmts i.0 x s h; expr = λ i e h. h }

pub grows_decl : (N : Nodes) (d : DeclNode) → Grows N (with_decl N d)
grows_decl N d = record { decl = λ i x h. stands_before N.decls i.0 x d h; stmt = λ i s h. h; expr = λ i e h. h }

pub exprs_end : (N : Nodes) (is : List ExprId) (i : ExprId) (xs : Exprs) (x : Expr) → StandExprs N is xs → Stands N i x → StandExprs N (is ++ i ∷ []) (exprs_then xs x)
exprs_end N is i NoExprs x h p = (i, [], (rw h refl), p, refl)
exprs_end N is i (MoreExprs y ys) x (j, js, h, q, r) p = (j, js ++ i ∷ [], (rw h refl), q, exprs_end N js i ys x r p)

pub decls_end : (N : Nodes) (is : List DeclId) (i : DeclId) (xs : Decls) (x : Decl) → StandDecls N is xs → StandsDecl N i x → StandDecls N (is ++ i ∷ []) (decls_then xs x)
decls_end N is i NoDecls x h p = (i, [], (rw h refl), p, refl)
decls_end N is i (MoreDecls y ys) x (j, js, h, q, r) p = (j, js ++ i ∷ [], (rw h refl), q, decls_end N js i ys x r p)

pub annots_end : (N : Nodes) (is : List Annot) (i : Annot) (xs : Annots) (x : Annotated) → StandAnnots N is xs → StandsAnnot N i x → StandAnnots N (is ++ i ∷ []) (annots_then xs x)
annots_end N is i NoAnnots x h p = (i, [], (rw h refl), p, refl)
annots_end N is i (MoreAnnots y ys) x (j, js, h, q, r) p = (j, js ++ i ∷ [], (rw h refl), q, annots_end N js i ys x r p)

pub items_end : (N : Nodes) (is : List Item) (i : Item) (xs : Items) (x : Factors) → StandItems N is xs → StandsItem N i x → StandItems N (is ++ i ∷ []) (items_then xs x)
items_end N is i NoItems x h p = (i, [], (rw h refl), p, refl)
items_end N is i (MoreItems y ys) x (j, js, h, q, r) p = (j, js ++ i ∷ [], (rw h refl), q, items_end N js i ys x r p)

pub values_end : (N : Nodes) (is : List Given) (i : Given) (xs : Values) (x : Value) → StandValues N is xs → StandsValue N i x → StandValues N (is ++ i ∷ []) (values_then xs x)
values_end N is i NoValues x h p = (i, [], (rw h refl), p, refl)
values_end N is i (MoreValues y ys) x (j, js, h, q, r) p = (j, js ++ i ∷ [], (rw h refl), q, values_end N js i ys x r p)

pub entries_end : (N : Nodes) (is : List Entry) (i : Entry) (xs : Entries) (x : Stood) → StandEntries N is xs → StandsEntry N i x → StandEntries N (is ++ i ∷ []) (entries_then xs x)
entries_end N is i NoEntries x h p = (i, [], (rw h refl), p, refl)
entries_end N is i (MoreEntries y ys) x (j, js, h, q, r) p = (j, js ++ i ∷ [], (rw h refl), q, entries_end N js i ys x r p)
