-- Each way down from a part of a source ends.
use Rattle.std.proofs.Common.{◌≡◌, List, [], ◌∷◌, ◌++◌, Option, Some, sym, ap, ◌∙◌, subst}
use Rattle.c_syntax.specs.declared.id.DeclId.{DeclId}
use Rattle.c_syntax.specs.declared.id.StmtId.{StmtId}
use Rattle.c_syntax.specs.declared.id.ExprId.{ExprId}
use Rattle.c_syntax.specs.declared.expression.Expr.{Expr as ExprNode}
use Rattle.c_syntax.specs.declared.expression.ExprKind.{ExprKind}
use Rattle.c_syntax.specs.declared.declaration.Decl.{Decl as DeclNode}
use Rattle.c_syntax.specs.declared.declaration.Annot.{Annot}
use Rattle.c_syntax.specs.declared.declaration.Item.{Item}
use Rattle.c_syntax.specs.declared.declaration.Atom.{Atom as Factor}
use Rattle.c_syntax.specs.declared.declaration.Part.{Part}
use Rattle.c_syntax.specs.declared.declaration.PartKind.{PartKind}
use Rattle.c_syntax.specs.declared.declaration.Value.{Value as Given}
use Rattle.c_syntax.specs.declared.declaration.Rest.{Rest as After}
use Rattle.c_syntax.specs.declared.statement.Stmt.{Stmt as StmtNode}
use Rattle.c_syntax.specs.declared.statement.StmtKind.{StmtKind}
use Rattle.c_syntax.specs.declared.statement.Entry.{Entry}
use Rattle.c_syntax.specs.declared.statement.First.{First as Begin}
use Rattle.c_syntax.specs.Nodes.{Nodes, decl_at, stmt_at, expr_at}
use Rattle.c_syntax.specs.Syntax.{Expr, Exprs, MaybeExpr, Decl, Decls, Annots, Items, Item as Factors, Atom, Parts, Value, Values, Rest, Stmt, Entries, Entry as Stood, First, Name, Number, Char, Text, Binary, Assign, Cond, Prefix, Postfix, SizeofExpr, SizeofType, Cast, Index, Call, Member, Arrow, NoExprs, MoreExprs, NoExpr, OneExpr, Declare, NoDecls, MoreDecls, NoAnnots, MoreAnnots, Annotate, NoItems, MoreItems, OneFactor, TwoFactors, NameAtom, NumberAtom, ReturnAtom, SizeofAtom, NoParts, Pointer, Array, Params, Plain, Braces, NoValues, MoreValues, NoRest, Initial, Body, Members, Block, Expression, If, IfElse, While, Do, For, Break, Continue, Return, NoEntries, MoreEntries, LocalEntry, StmtEntry, NoFirst, LocalFirst, ExprFirst}
use Rattle.c_syntax.specs.Stands.{Stands, StandExprs, StandsMaybe, StandsDecl, StandDecls, StandAnnots, StandsItem, StandsEntry, StandItems, StandsAtom, StandParts, StandsValue, StandValues, StandsRest, StandsStmt, StandEntries, StandsFirst}
use Rattle.c_syntax_laws.specs.Heights.{Ends, ends, AllEnd, none_end, more_end}
use Rattle.c_syntax_laws.specs.declared.node.Node.{Node}
use Rattle.c_syntax_laws.specs.declared.node.Node.TheVariants as nodes
use Rattle.c_syntax_laws.specs.Named.{named_by, by_exprs, by_decls, by_maybe, by_expr, by_atom, by_second, by_item, by_items, by_annots, by_kind, by_parts, by_value, by_values, by_rest, by_decl, by_entry, by_entries, by_first, by_stmt, by_expr_node, by_stmt_node, by_decl_node}
use Rattle.c_syntax_laws.proofs.Values.{by_value-plain, by_value-braces}

abbrev AreEnding : Nodes → List Node → Type 0
AreEnding N vs = AllEnd (named_by N) vs

abbrev IsEnding : Nodes → Node → Type 0
IsEnding N v = Ends (named_by N) v

both : (N : Nodes) (vs ws : List Node) → AreEnding N vs → AreEnding N ws → AreEnding N (vs ++ ws)
both N vs ws none_end k = k
both N vs ws (more_end e es) k = more_end e (both N _ ws es k)

-- it suffices that each way down ends from what its node names
expr_node : (N : Nodes) (i : ExprId) (e : ExprNode) (k : ExprKind) → expr_at N i ≡ Some e → e.kind ≡ k → AreEnding N (by_expr k) → IsEnding N (nodes.Expr i)
expr_node N i e k g s h =
    let there : named_by N (nodes.Expr i) ≡ by_expr k = ap by_expr_node g ∙ ap by_expr s in
    ends (subst (AreEnding N) (sym there) h)

stmt_node : (N : Nodes) (i : StmtId) (e : StmtNode) (k : StmtKind) → stmt_at N i ≡ Some e → e.kind ≡ k → AreEnding N (by_stmt k) → IsEnding N (nodes.Stmt i)
stmt_node N i e k g s h =
    let there : named_by N (nodes.Stmt i) ≡ by_stmt k = ap by_stmt_node g ∙ ap by_stmt s in
    ends (subst (AreEnding N) (sym there) h)

decl_node : (N : Nodes) (i : DeclId) (d : DeclNode) → decl_at N i ≡ Some d → AreEnding N (by_decl d) → IsEnding N (nodes.Decl i)
decl_node N i d g h =
    let there : named_by N (nodes.Decl i) ≡ by_decl d = ap by_decl_node g in
    ends (subst (AreEnding N) (sym there) h)

mutual
  pub expr_ends : (N : Nodes) (i : ExprId) (x : Expr) → Stands N i x → IsEnding N (nodes.Expr i)
  expr_ends N i (Name f n) (e, g, _, k) = expr_node N i e _ g k none_end
  expr_ends N i (Number f v s d) (e, g, _, k) = expr_node N i e _ g k none_end
  expr_ends N i (Char f v) (e, g, _, k) = expr_node N i e _ g k none_end
  expr_ends N i (Text f n) (e, g, _, k) = expr_node N i e _ g k none_end
  expr_ends N i (Binary f s x y) (a, b, (e, g, _, k), p, q) = expr_node N i e _ g k (more_end (expr_ends N a x p) (more_end (expr_ends N b y q) none_end))
  expr_ends N i (Assign f s x y) (a, b, (e, g, _, k), p, q) = expr_node N i e _ g k (more_end (expr_ends N a x p) (more_end (expr_ends N b y q) none_end))
  expr_ends N i (Cond f x y z) (a, b, c, (e, g, _, k), p, q, r) = expr_node N i e _ g k (more_end (expr_ends N a x p) (more_end (expr_ends N b y q) (more_end (expr_ends N c z r) none_end)))
  expr_ends N i (Prefix f s x) (a, (e, g, _, k), p) = expr_node N i e _ g k (more_end (expr_ends N a x p) none_end)
  expr_ends N i (Postfix f s x) (a, (e, g, _, k), p) = expr_node N i e _ g k (more_end (expr_ends N a x p) none_end)
  expr_ends N i (SizeofExpr f x) (a, (e, g, _, k), p) = expr_node N i e _ g k (more_end (expr_ends N a x p) none_end)
  expr_ends N i (SizeofType f d) (a, (e, g, _, k), p) = expr_node N i e _ g k (more_end (decl_ends N a d p) none_end)
  expr_ends N i (Cast f d x) (a, b, (e, g, _, k), p, q) = expr_node N i e _ g k (more_end (decl_ends N a d p) (more_end (expr_ends N b x q) none_end))
  expr_ends N i (Index f x y) (a, b, (e, g, _, k), p, q) = expr_node N i e _ g k (more_end (expr_ends N a x p) (more_end (expr_ends N b y q) none_end))
  expr_ends N i (Call f x xs) (a, is, (e, g, _, k), p, q) = expr_node N i e _ g k (more_end (expr_ends N a x p) (exprs_end N is xs q))
  expr_ends N i (Member f x n) (a, (e, g, _, k), p) = expr_node N i e _ g k (more_end (expr_ends N a x p) none_end)
  expr_ends N i (Arrow f x n) (a, (e, g, _, k), p) = expr_node N i e _ g k (more_end (expr_ends N a x p) none_end)

  pub exprs_end : (N : Nodes) (is : List ExprId) (xs : Exprs) → StandExprs N is xs → AreEnding N (by_exprs is)
  exprs_end N is NoExprs e = subst (λ (v : List ExprId). AreEnding N (by_exprs v)) (sym e) none_end
  exprs_end N is (MoreExprs x xs) (i, js, e, p, q) = subst (λ (v : List ExprId). AreEnding N (by_exprs v)) (sym e) (more_end (expr_ends N i x p) (exprs_end N js xs q))

  pub maybe_ends : (N : Nodes) (i : Option ExprId) (x : MaybeExpr) → StandsMaybe N i x → AreEnding N (by_maybe i)
  maybe_ends N i NoExpr e = subst (λ (v : Option ExprId). AreEnding N (by_maybe v)) (sym e) none_end
  maybe_ends N i (OneExpr x) (a, e, p) = subst (λ (v : Option ExprId). AreEnding N (by_maybe v)) (sym e) (more_end (expr_ends N a x p) none_end)

  pub decl_ends : (N : Nodes) (i : DeclId) (x : Decl) → StandsDecl N i x → IsEnding N (nodes.Decl i)
  decl_ends N i (Declare f an b ps n r) (d, g, _, p, _, q, _, s) =
      decl_node N i d g (both N (by_annots d.annots) (by_parts d.parts ++ by_rest d.rest) (annots_end N d.annots an p) (both N (by_parts d.parts) (by_rest d.rest) (parts_end N d.parts ps q) (rest_ends N d.rest r s)))

  pub decls_end : (N : Nodes) (is : List DeclId) (xs : Decls) → StandDecls N is xs → AreEnding N (by_decls is)
  decls_end N is NoDecls e = subst (λ (v : List DeclId). AreEnding N (by_decls v)) (sym e) none_end
  decls_end N is (MoreDecls x xs) (i, js, e, p, q) = subst (λ (v : List DeclId). AreEnding N (by_decls v)) (sym e) (more_end (decl_ends N i x p) (decls_end N js xs q))

  pub annots_end : (N : Nodes) (vs : List Annot) (xs : Annots) → StandAnnots N vs xs → AreEnding N (by_annots vs)
  annots_end N vs NoAnnots e = subst (λ (v : List Annot). AreEnding N (by_annots v)) (sym e) none_end
  annots_end N vs (MoreAnnots (Annotate f n is) xs) (v, ws, e, (_, _, p), q) =
      subst (λ (v : List Annot). AreEnding N (by_annots v)) (sym e) (both N (by_items v.items) (by_annots ws) (items_end N v.items is p) (annots_end N ws xs q))

  pub items_end : (N : Nodes) (vs : List Item) (xs : Items) → StandItems N vs xs → AreEnding N (by_items vs)
  items_end N vs NoItems e = subst (λ (v : List Item). AreEnding N (by_items v)) (sym e) none_end
  items_end N vs (MoreItems x xs) (v, ws, e, p, q) =
      subst (λ (v : List Item). AreEnding N (by_items v)) (sym e) (both N (by_item v) (by_items ws) (item_ends N v x p) (items_end N ws xs q))

  pub item_ends : (N : Nodes) (v : Item) (x : Factors) → StandsItem N v x → AreEnding N (by_item v)
  item_ends N v (OneFactor f x) (_, p, e) =
      both N (by_atom v.a) (by_second v.b) (atom_ends N v.a x p) (subst (λ (b : Option Factor). AreEnding N (by_second b)) (sym e) none_end)
  item_ends N v (TwoFactors f x y) (b, _, p, e, q) =
      both N (by_atom v.a) (by_second v.b) (atom_ends N v.a x p) (subst (λ (b : Option Factor). AreEnding N (by_second b)) (sym e) (atom_ends N b y q))

  pub atom_ends : (N : Nodes) (a : Factor) (x : Atom) → StandsAtom N a x → AreEnding N (by_atom a)
  atom_ends N a (NameAtom n) e = subst (λ (v : Factor). AreEnding N (by_atom v)) (sym e) none_end
  atom_ends N a (NumberAtom v) e = subst (λ (v : Factor). AreEnding N (by_atom v)) (sym e) none_end
  atom_ends N a ReturnAtom e = subst (λ (v : Factor). AreEnding N (by_atom v)) (sym e) none_end
  atom_ends N a (SizeofAtom d) (i, e, p) = subst (λ (v : Factor). AreEnding N (by_atom v)) (sym e) (more_end (decl_ends N i d p) none_end)

  pub parts_end : (N : Nodes) (vs : List Part) (xs : Parts) → StandParts N vs xs → AreEnding N (by_parts vs)
  parts_end N vs NoParts e = subst (λ (v : List Part). AreEnding N (by_parts v)) (sym e) none_end
  parts_end N vs (Pointer f ps) (v, ws, e, _, k, q) =
      subst (λ (v : List Part). AreEnding N (by_parts v)) (sym e) (both N (by_kind v.kind) (by_parts ws) (subst (λ (v : PartKind). AreEnding N (by_kind v)) (sym k) none_end) (parts_end N ws ps q))
  parts_end N vs (Array f x ps) (v, a, ws, e, _, k, p, q) =
      subst (λ (v : List Part). AreEnding N (by_parts v)) (sym e) (both N (by_kind v.kind) (by_parts ws) (subst (λ (v : PartKind). AreEnding N (by_kind v)) (sym k) (more_end (expr_ends N a x p) none_end)) (parts_end N ws ps q))
  parts_end N vs (Params f ds ps) (v, is, ws, e, _, k, p, q) =
      subst (λ (v : List Part). AreEnding N (by_parts v)) (sym e) (both N (by_kind v.kind) (by_parts ws) (subst (λ (v : PartKind). AreEnding N (by_kind v)) (sym k) (decls_end N is ds p)) (parts_end N ws ps q))

  pub value_ends : (N : Nodes) (v : Given) (x : Value) → StandsValue N v x → AreEnding N (by_value v)
  value_ends N v (Plain x) (a, e, p) = subst (AreEnding N) (sym (by_value-plain v a e)) (more_end (expr_ends N a x p) none_end)
  value_ends N v (Braces f xs) (w, e, p) = subst (AreEnding N) (sym (by_value-braces v f w e)) (values_end N w.items xs p)

  pub values_end : (N : Nodes) (vs : List Given) (xs : Values) → StandValues N vs xs → AreEnding N (by_values vs)
  values_end N vs NoValues e = subst (λ (v : List Given). AreEnding N (by_values v)) (sym e) none_end
  values_end N vs (MoreValues x xs) (v, ws, e, p, q) =
      subst (λ (v : List Given). AreEnding N (by_values v)) (sym e) (both N (by_value v) (by_values ws) (value_ends N v x p) (values_end N ws xs q))

  pub rest_ends : (N : Nodes) (v : After) (x : Rest) → StandsRest N v x → AreEnding N (by_rest v)
  rest_ends N v NoRest e = subst (λ (v : After). AreEnding N (by_rest v)) (sym e) none_end
  rest_ends N v (Initial x) (w, e, p) = subst (λ (v : After). AreEnding N (by_rest v)) (sym e) (value_ends N w x p)
  rest_ends N v (Body s) (i, e, p) = subst (λ (v : After). AreEnding N (by_rest v)) (sym e) (more_end (stmt_ends N i s p) none_end)
  rest_ends N v (Members ds) (is, e, p) = subst (λ (v : After). AreEnding N (by_rest v)) (sym e) (decls_end N is ds p)

  pub stmt_ends : (N : Nodes) (i : StmtId) (x : Stmt) → StandsStmt N i x → IsEnding N (nodes.Stmt i)
  stmt_ends N i (Block f es) (vs, (e, g, _, k), p) = stmt_node N i e _ g k (entries_end N vs es p)
  stmt_ends N i (Expression f x) (a, (e, g, _, k), p) = stmt_node N i e _ g k (maybe_ends N a x p)
  stmt_ends N i (If f x s) (a, b, (e, g, _, k), p, q) = stmt_node N i e _ g k (more_end (expr_ends N a x p) (more_end (stmt_ends N b s q) none_end))
  stmt_ends N i (IfElse f x s z) (a, b, c, (e, g, _, k), p, q, r) = stmt_node N i e _ g k (more_end (expr_ends N a x p) (more_end (stmt_ends N b s q) (more_end (stmt_ends N c z r) none_end)))
  stmt_ends N i (While f x s) (a, b, (e, g, _, k), p, q) = stmt_node N i e _ g k (more_end (expr_ends N a x p) (more_end (stmt_ends N b s q) none_end))
  stmt_ends N i (Do f s x) (a, b, (e, g, _, k), p, q) = stmt_node N i e _ g k (more_end (stmt_ends N a s p) (more_end (expr_ends N b x q) none_end))
  stmt_ends N i (For f x y z s) (a, b, c, d, (e, g, _, k), p, q, r, t) =
      stmt_node N i e _ g k (both N (by_first a) (by_maybe b ++ (by_maybe c ++ nodes.Stmt d ∷ [])) (first_ends N a x p) (both N (by_maybe b) (by_maybe c ++ nodes.Stmt d ∷ []) (maybe_ends N b y q) (both N (by_maybe c) (nodes.Stmt d ∷ []) (maybe_ends N c z r) (more_end (stmt_ends N d s t) none_end))))
  stmt_ends N i (Break f) (e, g, _, k) = stmt_node N i e _ g k none_end
  stmt_ends N i (Continue f) (e, g, _, k) = stmt_node N i e _ g k none_end
  stmt_ends N i (Return f x) (a, (e, g, _, k), p) = stmt_node N i e _ g k (maybe_ends N a x p)

  pub entries_end : (N : Nodes) (vs : List Entry) (xs : Entries) → StandEntries N vs xs → AreEnding N (by_entries vs)
  entries_end N vs NoEntries e = subst (λ (v : List Entry). AreEnding N (by_entries v)) (sym e) none_end
  entries_end N vs (MoreEntries x xs) (v, ws, e, p, q) =
      subst (λ (v : List Entry). AreEnding N (by_entries v)) (sym e) (both N (by_entry v) (by_entries ws) (entry_ends N v x p) (entries_end N ws xs q))

  pub entry_ends : (N : Nodes) (v : Entry) (x : Stood) → StandsEntry N v x → AreEnding N (by_entry v)
  entry_ends N v (LocalEntry ds) (is, e, p) = subst (λ (v : Entry). AreEnding N (by_entry v)) (sym e) (decls_end N is ds p)
  entry_ends N v (StmtEntry s) (i, e, p) = subst (λ (v : Entry). AreEnding N (by_entry v)) (sym e) (more_end (stmt_ends N i s p) none_end)

  pub first_ends : (N : Nodes) (a : Begin) (x : First) → StandsFirst N a x → AreEnding N (by_first a)
  first_ends N a NoFirst e = subst (λ (v : Begin). AreEnding N (by_first v)) (sym e) none_end
  first_ends N a (LocalFirst ds) (is, e, p) = subst (λ (v : Begin). AreEnding N (by_first v)) (sym e) (decls_end N is ds p)
  first_ends N a (ExprFirst x) (i, e, p) = subst (λ (v : Begin). AreEnding N (by_first v)) (sym e) (more_end (expr_ends N i x p) none_end)
