-- A number stands for one tree at most.
use Rattle.std.proofs.Common.{◌≡◌, List, Option, refl, sym}
use Rattle.c_syntax.specs.declared.id.DeclId.{DeclId}
use Rattle.c_syntax.specs.declared.id.StmtId.{StmtId}
use Rattle.c_syntax.specs.declared.id.ExprId.{ExprId}
use Rattle.c_syntax.specs.declared.declaration.Annot.{Annot}
use Rattle.c_syntax.specs.declared.declaration.Item.{Item}
use Rattle.c_syntax.specs.declared.declaration.Atom.{Atom as Factor}
use Rattle.c_syntax.specs.declared.declaration.Part.{Part}
use Rattle.c_syntax.specs.declared.declaration.Value.{Value as Given}
use Rattle.c_syntax.specs.declared.declaration.Rest.{Rest as After}
use Rattle.c_syntax.specs.declared.statement.Entry.{Entry}
use Rattle.c_syntax.specs.declared.statement.First.{First as Begin}
use Rattle.c_syntax.specs.Nodes.{Nodes}
use Rattle.c_syntax.specs.Syntax.{Expr, Exprs, MaybeExpr, Decl, Decls, Annots, Annot as Annotated, Items, Item as Factors, Atom, Parts, Value, Values, Rest, Stmt, Entries, Entry as Stood, First, Name, Number, Char, Text, Binary, Assign, Cond, Prefix, Postfix, SizeofExpr, SizeofType, Cast, Index, Call, Member, Arrow, NoExprs, MoreExprs, NoExpr, OneExpr, Declare, NoDecls, MoreDecls, NoAnnots, MoreAnnots, Annotate, NoItems, MoreItems, OneFactor, TwoFactors, NameAtom, NumberAtom, ReturnAtom, SizeofAtom, NoParts, Pointer, Array, Params, Plain, Braces, NoValues, MoreValues, NoRest, Initial, Body, Members, Block, Expression, If, IfElse, While, Do, For, Break, Continue, Return, NoEntries, MoreEntries, LocalEntry, StmtEntry, NoFirst, LocalFirst, ExprFirst}
use Rattle.c_syntax.specs.Stands.{Stands, StandExprs, StandsMaybe, StandsDecl, StandDecls, StandAnnots, StandsAnnot, StandsItem, StandsEntry, StandItems, StandsAtom, StandParts, StandsValue, StandValues, StandsRest, StandsStmt, StandEntries, StandsFirst}
use Rattle.c_syntax.proofs.Only.{name_only, number_only, char_only, text_only, binary_only, assign_only, cond_only, prefix_only, postfix_only, sizeof_expr_only, sizeof_type_only, cast_only, index_only, call_only, member_only, arrow_only, block_only, expression_only, if_only, if_else_only, while_only, do_only, for_only, break_only, continue_only, return_only}

mutual
  pub one_expr : (N : Nodes) (i : ExprId) (x y : Expr) → Stands N i x → Stands N i y → x ≡ y
  one_expr N i (Name f n) e h k = sym (name_only N i f n e h k)
  one_expr N i (Number f v s d) e h k = sym (number_only N i f v s d e h k)
  one_expr N i (Char f v) e h k = sym (char_only N i f v e h k)
  one_expr N i (Text f n) e h k = sym (text_only N i f n e h k)
  one_expr N i (Binary f s x y) e (a, b, h, p0, p1) k =
      let r = binary_only N i f s a b e h k in
      let e0 : x ≡ r.0 = one_expr N a x r.0 p0 r.3 in
      let e1 : y ≡ r.1 = one_expr N b y r.1 p1 r.4 in
      let same : e ≡ Binary f s r.0 r.1 = r.2 in cc
  one_expr N i (Assign f s x y) e (a, b, h, p0, p1) k =
      let r = assign_only N i f s a b e h k in
      let e0 : x ≡ r.0 = one_expr N a x r.0 p0 r.3 in
      let e1 : y ≡ r.1 = one_expr N b y r.1 p1 r.4 in
      let same : e ≡ Assign f s r.0 r.1 = r.2 in cc
  one_expr N i (Cond f x y z) e (a, b, c, h, p0, p1, p2) k =
      let r = cond_only N i f a b c e h k in
      let e0 : x ≡ r.0 = one_expr N a x r.0 p0 r.4 in
      let e1 : y ≡ r.1 = one_expr N b y r.1 p1 r.5 in
      let e2 : z ≡ r.2 = one_expr N c z r.2 p2 r.6 in
      let same : e ≡ Cond f r.0 r.1 r.2 = r.3 in cc
  one_expr N i (Prefix f s x) e (a, h, p0) k =
      let r = prefix_only N i f s a e h k in
      let e0 : x ≡ r.0 = one_expr N a x r.0 p0 r.2 in
      let same : e ≡ Prefix f s r.0 = r.1 in cc
  one_expr N i (Postfix f s x) e (a, h, p0) k =
      let r = postfix_only N i f s a e h k in
      let e0 : x ≡ r.0 = one_expr N a x r.0 p0 r.2 in
      let same : e ≡ Postfix f s r.0 = r.1 in cc
  one_expr N i (SizeofExpr f x) e (a, h, p0) k =
      let r = sizeof_expr_only N i f a e h k in
      let e0 : x ≡ r.0 = one_expr N a x r.0 p0 r.2 in
      let same : e ≡ SizeofExpr f r.0 = r.1 in cc
  one_expr N i (SizeofType f x) e (a, h, p0) k =
      let r = sizeof_type_only N i f a e h k in
      let e0 : x ≡ r.0 = one_decl N a x r.0 p0 r.2 in
      let same : e ≡ SizeofType f r.0 = r.1 in cc
  one_expr N i (Cast f x y) e (a, b, h, p0, p1) k =
      let r = cast_only N i f a b e h k in
      let e0 : x ≡ r.0 = one_decl N a x r.0 p0 r.3 in
      let e1 : y ≡ r.1 = one_expr N b y r.1 p1 r.4 in
      let same : e ≡ Cast f r.0 r.1 = r.2 in cc
  one_expr N i (Index f x y) e (a, b, h, p0, p1) k =
      let r = index_only N i f a b e h k in
      let e0 : x ≡ r.0 = one_expr N a x r.0 p0 r.3 in
      let e1 : y ≡ r.1 = one_expr N b y r.1 p1 r.4 in
      let same : e ≡ Index f r.0 r.1 = r.2 in cc
  one_expr N i (Call f x y) e (a, b, h, p0, p1) k =
      let r = call_only N i f a b e h k in
      let e0 : x ≡ r.0 = one_expr N a x r.0 p0 r.3 in
      let e1 : y ≡ r.1 = one_exprs N b y r.1 p1 r.4 in
      let same : e ≡ Call f r.0 r.1 = r.2 in cc
  one_expr N i (Member f x n) e (a, h, p0) k =
      let r = member_only N i f a n e h k in
      let e0 : x ≡ r.0 = one_expr N a x r.0 p0 r.2 in
      let same : e ≡ Member f r.0 n = r.1 in cc
  one_expr N i (Arrow f x n) e (a, h, p0) k =
      let r = arrow_only N i f a n e h k in
      let e0 : x ≡ r.0 = one_expr N a x r.0 p0 r.2 in
      let same : e ≡ Arrow f r.0 n = r.1 in cc

  pub one_exprs : (N : Nodes) (i : List ExprId) (x y : Exprs) → StandExprs N i x → StandExprs N i y → x ≡ y
  one_exprs N i NoExprs NoExprs h k = refl
  one_exprs N i NoExprs (MoreExprs x' xs') h k = absurd cc
  one_exprs N i (MoreExprs x xs) NoExprs h k = absurd cc
  one_exprs N i (MoreExprs x xs) (MoreExprs x' xs') (j, js, e, p, u) (j', js', e', p', u') =
      let s0 : j' ≡ j = cc in
      let s1 : js' ≡ js = cc in
      let t0 : x ≡ x' = one_expr N j x x' p (rw s0 at p') in
      let t1 : xs ≡ xs' = one_exprs N js xs xs' u (rw s1 at u') in
      cc

  pub one_maybe : (N : Nodes) (i : Option ExprId) (x y : MaybeExpr) → StandsMaybe N i x → StandsMaybe N i y → x ≡ y
  one_maybe N i NoExpr NoExpr h k = refl
  one_maybe N i NoExpr (OneExpr x') h k = absurd cc
  one_maybe N i (OneExpr x) NoExpr h k = absurd cc
  one_maybe N i (OneExpr x) (OneExpr x') (j, e, p) (j', e', p') =
      let s0 : j' ≡ j = cc in
      let t0 : x ≡ x' = one_expr N j x x' p (rw s0 at p') in
      cc

  pub one_decl : (N : Nodes) (i : DeclId) (x y : Decl) → StandsDecl N i x → StandsDecl N i y → x ≡ y
  one_decl N i (Declare f an b ps n r) (Declare f' an' b' ps' n' r') (d, h, p, q, s, t, u, w) (d', h', p', q', s', t', u', w') =
      let e : d' ≡ d = cc in
      let e0 : an ≡ an' = one_annots N d.annots an an' q (rw e at q') in
      let e1 : ps ≡ ps' = one_parts N d.parts ps ps' t (rw e at t') in
      let e2 : r ≡ r' = one_rest N d.rest r r' w (rw e at w') in
      cc

  pub one_decls : (N : Nodes) (i : List DeclId) (x y : Decls) → StandDecls N i x → StandDecls N i y → x ≡ y
  one_decls N i NoDecls NoDecls h k = refl
  one_decls N i NoDecls (MoreDecls x' xs') h k = absurd cc
  one_decls N i (MoreDecls x xs) NoDecls h k = absurd cc
  one_decls N i (MoreDecls x xs) (MoreDecls x' xs') (j, js, e, p, u) (j', js', e', p', u') =
      let s0 : j' ≡ j = cc in
      let s1 : js' ≡ js = cc in
      let t0 : x ≡ x' = one_decl N j x x' p (rw s0 at p') in
      let t1 : xs ≡ xs' = one_decls N js xs xs' u (rw s1 at u') in
      cc

  pub one_annots : (N : Nodes) (i : List Annot) (x y : Annots) → StandAnnots N i x → StandAnnots N i y → x ≡ y
  one_annots N i NoAnnots NoAnnots h k = refl
  one_annots N i NoAnnots (MoreAnnots x' xs') h k = absurd cc
  one_annots N i (MoreAnnots x xs) NoAnnots h k = absurd cc
  one_annots N i (MoreAnnots x xs) (MoreAnnots x' xs') (j, js, e, p, u) (j', js', e', p', u') =
      let s0 : j' ≡ j = cc in
      let s1 : js' ≡ js = cc in
      let t0 : x ≡ x' = one_annot N j x x' p (rw s0 at p') in
      let t1 : xs ≡ xs' = one_annots N js xs xs' u (rw s1 at u') in
      cc

  pub one_annot : (N : Nodes) (v : Annot) (x y : Annotated) → StandsAnnot N v x → StandsAnnot N v y → x ≡ y
  one_annot N v (Annotate f n is) (Annotate f' n' is') (p, q, r) (p', q', r') = let e : is ≡ is' = one_items N v.items is is' r r' in cc

  pub one_items : (N : Nodes) (i : List Item) (x y : Items) → StandItems N i x → StandItems N i y → x ≡ y
  one_items N i NoItems NoItems h k = refl
  one_items N i NoItems (MoreItems x' xs') h k = absurd cc
  one_items N i (MoreItems x xs) NoItems h k = absurd cc
  one_items N i (MoreItems x xs) (MoreItems x' xs') (j, js, e, p, u) (j', js', e', p', u') =
      let s0 : j' ≡ j = cc in
      let s1 : js' ≡ js = cc in
      let t0 : x ≡ x' = one_item N j x x' p (rw s0 at p') in
      let t1 : xs ≡ xs' = one_items N js xs xs' u (rw s1 at u') in
      cc

  pub one_item : (N : Nodes) (v : Item) (x y : Factors) → StandsItem N v x → StandsItem N v y → x ≡ y
  one_item N v (OneFactor f x) (OneFactor f' x') (p, q, r) (p', q', r') = let e : x ≡ x' = one_atom N v.a x x' q q' in cc
  one_item N v (OneFactor f x) (TwoFactors f' x' y') h k = absurd cc
  one_item N v (TwoFactors f x y) (OneFactor f' x') h k = absurd cc
  one_item N v (TwoFactors f x y) (TwoFactors f' x' y') (b, p, q, r, s) (b', p', q', r', s') =
      let e : x ≡ x' = one_atom N v.a x x' q q' in
      let w : b' ≡ b = cc in
      let d : y ≡ y' = one_atom N b y y' s (rw w at s') in
      cc

  pub one_atom : (N : Nodes) (i : Factor) (x y : Atom) → StandsAtom N i x → StandsAtom N i y → x ≡ y
  one_atom N i (NameAtom n) (NameAtom n') h h' =
      cc
  one_atom N i (NameAtom n) (NumberAtom n') h k = absurd cc
  one_atom N i (NameAtom n) ReturnAtom h k = absurd cc
  one_atom N i (NameAtom n) (SizeofAtom x') h k = absurd cc
  one_atom N i (NumberAtom n) (NameAtom n') h k = absurd cc
  one_atom N i (NumberAtom n) (NumberAtom n') h h' =
      cc
  one_atom N i (NumberAtom n) ReturnAtom h k = absurd cc
  one_atom N i (NumberAtom n) (SizeofAtom x') h k = absurd cc
  one_atom N i ReturnAtom (NameAtom n') h k = absurd cc
  one_atom N i ReturnAtom (NumberAtom n') h k = absurd cc
  one_atom N i ReturnAtom ReturnAtom h k = refl
  one_atom N i ReturnAtom (SizeofAtom x') h k = absurd cc
  one_atom N i (SizeofAtom x) (NameAtom n') h k = absurd cc
  one_atom N i (SizeofAtom x) (NumberAtom n') h k = absurd cc
  one_atom N i (SizeofAtom x) ReturnAtom h k = absurd cc
  one_atom N i (SizeofAtom x) (SizeofAtom x') (j, e, p) (j', e', p') =
      let s0 : j' ≡ j = cc in
      let t0 : x ≡ x' = one_decl N j x x' p (rw s0 at p') in
      cc

  pub one_parts : (N : Nodes) (i : List Part) (x y : Parts) → StandParts N i x → StandParts N i y → x ≡ y
  one_parts N i NoParts NoParts h k = refl
  one_parts N i NoParts (Pointer f' ps') h k = absurd cc
  one_parts N i NoParts (Array f' x' ps') h k = absurd cc
  one_parts N i NoParts (Params f' x' ps') h k = absurd cc
  one_parts N i (Pointer f ps) NoParts h k = absurd cc
  one_parts N i (Pointer f ps) (Pointer f' ps') (v, ws, e, p, q, r) (v', ws', e', p', q', r') =
      let s0 : v' ≡ v = cc in
      let s1 : ws' ≡ ws = cc in
      let t0 : ps ≡ ps' = one_parts N ws ps ps' r (rw s1 at r') in
      cc
  one_parts N i (Pointer f ps) (Array f' x' ps') h k = absurd cc
  one_parts N i (Pointer f ps) (Params f' x' ps') h k = absurd cc
  one_parts N i (Array f x ps) NoParts h k = absurd cc
  one_parts N i (Array f x ps) (Pointer f' ps') h k = absurd cc
  one_parts N i (Array f x ps) (Array f' x' ps') (v, a, ws, e, p, q, r, s) (v', a', ws', e', p', q', r', s') =
      let s0 : v' ≡ v = cc in
      let s1 : a' ≡ a = cc in
      let s2 : ws' ≡ ws = cc in
      let t0 : x ≡ x' = one_expr N a x x' r (rw s1 at r') in
      let t1 : ps ≡ ps' = one_parts N ws ps ps' s (rw s2 at s') in
      cc
  one_parts N i (Array f x ps) (Params f' x' ps') h k = absurd cc
  one_parts N i (Params f x ps) NoParts h k = absurd cc
  one_parts N i (Params f x ps) (Pointer f' ps') h k = absurd cc
  one_parts N i (Params f x ps) (Array f' x' ps') h k = absurd cc
  one_parts N i (Params f x ps) (Params f' x' ps') (v, is, ws, e, p, q, r, s) (v', is', ws', e', p', q', r', s') =
      let s0 : v' ≡ v = cc in
      let s1 : is' ≡ is = cc in
      let s2 : ws' ≡ ws = cc in
      let t0 : x ≡ x' = one_decls N is x x' r (rw s1 at r') in
      let t1 : ps ≡ ps' = one_parts N ws ps ps' s (rw s2 at s') in
      cc

  pub one_value : (N : Nodes) (i : Given) (x y : Value) → StandsValue N i x → StandsValue N i y → x ≡ y
  one_value N i (Plain x) (Plain x') (j, e, p) (j', e', p') =
      let s0 : j' ≡ j = cc in
      let t0 : x ≡ x' = one_expr N j x x' p (rw s0 at p') in
      cc
  one_value N i (Plain x) (Braces f' x') h k = absurd cc
  one_value N i (Braces f x) (Plain x') h k = absurd cc
  one_value N i (Braces f x) (Braces f' x') (w, e, p) (w', e', p') =
      let s0 : w' ≡ w = cc in
      let t0 : x ≡ x' = one_values N w.items x x' p (rw s0 at p') in
      cc

  pub one_values : (N : Nodes) (i : List Given) (x y : Values) → StandValues N i x → StandValues N i y → x ≡ y
  one_values N i NoValues NoValues h k = refl
  one_values N i NoValues (MoreValues x' xs') h k = absurd cc
  one_values N i (MoreValues x xs) NoValues h k = absurd cc
  one_values N i (MoreValues x xs) (MoreValues x' xs') (j, ws, e, p, u) (j', ws', e', p', u') =
      let s0 : j' ≡ j = cc in
      let s1 : ws' ≡ ws = cc in
      let t0 : x ≡ x' = one_value N j x x' p (rw s0 at p') in
      let t1 : xs ≡ xs' = one_values N ws xs xs' u (rw s1 at u') in
      cc

  pub one_rest : (N : Nodes) (i : After) (x y : Rest) → StandsRest N i x → StandsRest N i y → x ≡ y
  one_rest N i NoRest NoRest h k = refl
  one_rest N i NoRest (Initial x') h k = absurd cc
  one_rest N i NoRest (Body x') h k = absurd cc
  one_rest N i NoRest (Members x') h k = absurd cc
  one_rest N i (Initial x) NoRest h k = absurd cc
  one_rest N i (Initial x) (Initial x') (j, e, p) (j', e', p') =
      let s0 : j' ≡ j = cc in
      let t0 : x ≡ x' = one_value N j x x' p (rw s0 at p') in
      cc
  one_rest N i (Initial x) (Body x') h k = absurd cc
  one_rest N i (Initial x) (Members x') h k = absurd cc
  one_rest N i (Body x) NoRest h k = absurd cc
  one_rest N i (Body x) (Initial x') h k = absurd cc
  one_rest N i (Body x) (Body x') (j, e, p) (j', e', p') =
      let s0 : j' ≡ j = cc in
      let t0 : x ≡ x' = one_stmt N j x x' p (rw s0 at p') in
      cc
  one_rest N i (Body x) (Members x') h k = absurd cc
  one_rest N i (Members x) NoRest h k = absurd cc
  one_rest N i (Members x) (Initial x') h k = absurd cc
  one_rest N i (Members x) (Body x') h k = absurd cc
  one_rest N i (Members x) (Members x') (js, e, p) (js', e', p') =
      let s0 : js' ≡ js = cc in
      let t0 : x ≡ x' = one_decls N js x x' p (rw s0 at p') in
      cc

  pub one_stmt : (N : Nodes) (i : StmtId) (x y : Stmt) → StandsStmt N i x → StandsStmt N i y → x ≡ y
  one_stmt N i (Block f x) e (a, h, p0) k =
      let r = block_only N i f a e h k in
      let e0 : x ≡ r.0 = one_entries N a x r.0 p0 r.2 in
      let same : e ≡ Block f r.0 = r.1 in cc
  one_stmt N i (Expression f x) e (a, h, p0) k =
      let r = expression_only N i f a e h k in
      let e0 : x ≡ r.0 = one_maybe N a x r.0 p0 r.2 in
      let same : e ≡ Expression f r.0 = r.1 in cc
  one_stmt N i (If f x y) e (a, b, h, p0, p1) k =
      let r = if_only N i f a b e h k in
      let e0 : x ≡ r.0 = one_expr N a x r.0 p0 r.3 in
      let e1 : y ≡ r.1 = one_stmt N b y r.1 p1 r.4 in
      let same : e ≡ If f r.0 r.1 = r.2 in cc
  one_stmt N i (IfElse f x y z) e (a, b, c, h, p0, p1, p2) k =
      let r = if_else_only N i f a b c e h k in
      let e0 : x ≡ r.0 = one_expr N a x r.0 p0 r.4 in
      let e1 : y ≡ r.1 = one_stmt N b y r.1 p1 r.5 in
      let e2 : z ≡ r.2 = one_stmt N c z r.2 p2 r.6 in
      let same : e ≡ IfElse f r.0 r.1 r.2 = r.3 in cc
  one_stmt N i (While f x y) e (a, b, h, p0, p1) k =
      let r = while_only N i f a b e h k in
      let e0 : x ≡ r.0 = one_expr N a x r.0 p0 r.3 in
      let e1 : y ≡ r.1 = one_stmt N b y r.1 p1 r.4 in
      let same : e ≡ While f r.0 r.1 = r.2 in cc
  one_stmt N i (Do f x y) e (a, b, h, p0, p1) k =
      let r = do_only N i f a b e h k in
      let e0 : x ≡ r.0 = one_stmt N a x r.0 p0 r.3 in
      let e1 : y ≡ r.1 = one_expr N b y r.1 p1 r.4 in
      let same : e ≡ Do f r.0 r.1 = r.2 in cc
  one_stmt N i (For f x y z w) e (a, b, c, d, h, p0, p1, p2, p3) k =
      let r = for_only N i f a b c d e h k in
      let e0 : x ≡ r.0 = one_first N a x r.0 p0 r.5 in
      let e1 : y ≡ r.1 = one_maybe N b y r.1 p1 r.6 in
      let e2 : z ≡ r.2 = one_maybe N c z r.2 p2 r.7 in
      let e3 : w ≡ r.3 = one_stmt N d w r.3 p3 r.8 in
      let same : e ≡ For f r.0 r.1 r.2 r.3 = r.4 in cc
  one_stmt N i (Break f) e h k = sym (break_only N i f e h k)
  one_stmt N i (Continue f) e h k = sym (continue_only N i f e h k)
  one_stmt N i (Return f x) e (a, h, p0) k =
      let r = return_only N i f a e h k in
      let e0 : x ≡ r.0 = one_maybe N a x r.0 p0 r.2 in
      let same : e ≡ Return f r.0 = r.1 in cc

  pub one_entries : (N : Nodes) (i : List Entry) (x y : Entries) → StandEntries N i x → StandEntries N i y → x ≡ y
  one_entries N i NoEntries NoEntries h k = refl
  one_entries N i NoEntries (MoreEntries x' xs') h k = absurd cc
  one_entries N i (MoreEntries x xs) NoEntries h k = absurd cc
  one_entries N i (MoreEntries x xs) (MoreEntries x' xs') (j, js, e, p, u) (j', js', e', p', u') =
      let s0 : j' ≡ j = cc in
      let s1 : js' ≡ js = cc in
      let t0 : x ≡ x' = one_entry N j x x' p (rw s0 at p') in
      let t1 : xs ≡ xs' = one_entries N js xs xs' u (rw s1 at u') in
      cc

  pub one_entry : (N : Nodes) (i : Entry) (x y : Stood) → StandsEntry N i x → StandsEntry N i y → x ≡ y
  one_entry N i (LocalEntry x) (LocalEntry x') (js, e, p) (js', e', p') =
      let s0 : js' ≡ js = cc in
      let t0 : x ≡ x' = one_decls N js x x' p (rw s0 at p') in
      cc
  one_entry N i (LocalEntry x) (StmtEntry x') h k = absurd cc
  one_entry N i (StmtEntry x) (LocalEntry x') h k = absurd cc
  one_entry N i (StmtEntry x) (StmtEntry x') (j, e, p) (j', e', p') =
      let s0 : j' ≡ j = cc in
      let t0 : x ≡ x' = one_stmt N j x x' p (rw s0 at p') in
      cc

  pub one_first : (N : Nodes) (i : Begin) (x y : First) → StandsFirst N i x → StandsFirst N i y → x ≡ y
  one_first N i NoFirst NoFirst h k = refl
  one_first N i NoFirst (LocalFirst x') h k = absurd cc
  one_first N i NoFirst (ExprFirst x') h k = absurd cc
  one_first N i (LocalFirst x) NoFirst h k = absurd cc
  one_first N i (LocalFirst x) (LocalFirst x') (js, e, p) (js', e', p') =
      let s0 : js' ≡ js = cc in
      let t0 : x ≡ x' = one_decls N js x x' p (rw s0 at p') in
      cc
  one_first N i (LocalFirst x) (ExprFirst x') h k = absurd cc
  one_first N i (ExprFirst x) NoFirst h k = absurd cc
  one_first N i (ExprFirst x) (LocalFirst x') h k = absurd cc
  one_first N i (ExprFirst x) (ExprFirst x') (j, e, p) (j', e', p') =
      let s0 : j' ≡ j = cc in
      let t0 : x ≡ x' = one_expr N j x x' p (rw s0 at p') in
      cc
