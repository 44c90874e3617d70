-- The tree that a node's number stands for.
use Rattle.std.specs.Prelude.{◌≡◌, ℕ, List, [], ◌∷◌, Option, Some, None}
use Rattle.std.specs.Prelude.{Vec}
use Rattle.std.specs.declared.alloc.Global.{Global}
use Rattle.c_syntax.specs.declared.id.DeclId.{DeclId}
use Rattle.c_syntax.specs.declared.id.StmtId.{StmtId}
use Rattle.c_syntax.specs.declared.id.ExprId.{ExprId}
use Rattle.c_syntax.specs.declared.expression.Expr.{Expr as ExprNode}
use Rattle.c_syntax.specs.declared.expression.ExprKind.{ExprKind}
use Rattle.c_syntax.specs.declared.expression.ExprKind.TheVariants as exprs
use Rattle.c_syntax.specs.declared.declaration.Decl.{Decl as DeclNode}
use Rattle.c_syntax.specs.declared.declaration.Annot.{Annot}
use Rattle.c_syntax.specs.declared.declaration.Item.{Item}
use Rattle.c_syntax.specs.declared.declaration.Atom.{Atom as Factor}
use Rattle.c_syntax.specs.declared.declaration.Atom.TheVariants as atoms
use Rattle.c_syntax.specs.declared.declaration.Part.{Part}
use Rattle.c_syntax.specs.declared.declaration.PartKind.TheVariants as parts
use Rattle.c_syntax.specs.declared.declaration.Value.{Value as Given, out-Value}
use Rattle.c_syntax.specs.declared.declaration.Value.TheOpen.{Value-F}
use Rattle.c_syntax.specs.declared.declaration.Rest.{Rest as After}
use Rattle.c_syntax.specs.declared.declaration.Rest.TheVariants as rests
use Rattle.c_syntax.specs.declared.statement.Stmt.{Stmt as StmtNode}
use Rattle.c_syntax.specs.declared.statement.StmtKind.{StmtKind}
use Rattle.c_syntax.specs.declared.statement.StmtKind.TheVariants as stmts
use Rattle.c_syntax.specs.declared.statement.Entry.{Entry}
use Rattle.c_syntax.specs.declared.statement.Entry.TheVariants as entries
use Rattle.c_syntax.specs.declared.statement.First.{First as Begin}
use Rattle.c_syntax.specs.declared.statement.First.TheVariants as firsts
use Rattle.c_syntax.specs.Nodes.{Nodes, decl_at, stmt_at, expr_at}
use Rattle.c_syntax.specs.Syntax.{Expr, Exprs, MaybeExpr, Decl, Decls, Annots, Annot as Annotated, Items, Item as Factors, Atom, Parts, Value, Values, Rest, Stmt, Entries, Entry as Stood, First, Name, Number, Char, Text, Binary, Assign, Cond, Prefix, Postfix, SizeofExpr, SizeofType, Cast, Index, Call, Member, Arrow, NoExprs, MoreExprs, NoExpr, OneExpr, Declare, NoDecls, MoreDecls, NoAnnots, MoreAnnots, Annotate, NoItems, MoreItems, OneFactor, TwoFactors, NameAtom, NumberAtom, ReturnAtom, SizeofAtom, NoParts, Pointer, Array, Params, Plain, Braces, NoValues, MoreValues, NoRest, Initial, Body, Members, Block, Expression, If, IfElse, While, Do, For, Break, Continue, Return, NoEntries, MoreEntries, LocalEntry, StmtEntry, NoFirst, LocalFirst, ExprFirst}

-- the expression of this number begins there and is this
abbrev pub IsExprAt : Nodes → ExprId → ℕ → ExprKind → Type 0
IsExprAt N i f k = (e : ExprNode) × (expr_at N i ≡ Some e) × (e.from ≡ f) × (e.kind ≡ k)

-- the statement of this number begins there and is this
abbrev pub IsStmtAt : Nodes → StmtId → ℕ → StmtKind → Type 0
IsStmtAt N i f k = (s : StmtNode) × (stmt_at N i ≡ Some s) × (s.from ≡ f) × (s.kind ≡ k)

-- the number, or what a node holds of them, stands for the tree
abbrev mutual
  pub Stands : Nodes → ExprId → Expr → Type 0
  Stands N i (Name f n) = IsExprAt N i f (exprs.Name n)
  Stands N i (Number f v s d) = IsExprAt N i f (exprs.Number v s d)
  Stands N i (Char f v) = IsExprAt N i f (exprs.Char v)
  Stands N i (Text f n) = IsExprAt N i f (exprs.Text n)
  Stands N i (Binary f s x y) = (a b : ExprId) × IsExprAt N i f (exprs.Binary s a b) × Stands N a x ×
      Stands N b y
  Stands N i (Assign f s x y) = (a b : ExprId) × IsExprAt N i f (exprs.Assign s a b) × Stands N a x ×
      Stands N b y
  Stands N i (Cond f x y z) = (a b c : ExprId) × IsExprAt N i f (exprs.Cond a b c) × Stands N a x ×
      Stands N b y × Stands N c z
  Stands N i (Prefix f s x) = (a : ExprId) × IsExprAt N i f (exprs.Prefix s a) × Stands N a x
  Stands N i (Postfix f s x) = (a : ExprId) × IsExprAt N i f (exprs.Postfix s a) × Stands N a x
  Stands N i (SizeofExpr f x) = (a : ExprId) × IsExprAt N i f (exprs.SizeofExpr a) × Stands N a x
  Stands N i (SizeofType f d) = (a : DeclId) × IsExprAt N i f (exprs.SizeofType a) × StandsDecl N a d
  Stands N i (Cast f d x) = (a : DeclId) × (b : ExprId) × IsExprAt N i f (exprs.Cast a b) ×
      StandsDecl N a d × Stands N b x
  Stands N i (Index f x y) = (a b : ExprId) × IsExprAt N i f (exprs.Index a b) × Stands N a x × Stands N b y
  Stands N i (Call f x xs) = (a : ExprId) × (is : List ExprId) × IsExprAt N i f (exprs.Call a is) ×
      Stands N a x × StandExprs N is xs
  Stands N i (Member f x n) = (a : ExprId) × IsExprAt N i f (exprs.Member a n) × Stands N a x
  Stands N i (Arrow f x n) = (a : ExprId) × IsExprAt N i f (exprs.Arrow a n) × Stands N a x

  pub StandExprs : Nodes → List ExprId → Exprs → Type 0
  StandExprs N is NoExprs = is ≡ []
  StandExprs N is (MoreExprs x xs) = (i : ExprId) × (js : List ExprId) × (is ≡ i ∷ js) × Stands N i x ×
      StandExprs N js xs

  pub StandsMaybe : Nodes → Option ExprId → MaybeExpr → Type 0
  StandsMaybe N i NoExpr = i ≡ None
  StandsMaybe N i (OneExpr x) = (a : ExprId) × (i ≡ Some a) × Stands N a x

  pub StandsDecl : Nodes → DeclId → Decl → Type 0
  StandsDecl N i (Declare f an b ps n r) =
      (d : DeclNode) × (decl_at N i ≡ Some d) × (d.from ≡ f) × StandAnnots N d.annots an × (d.base ≡ b) ×
      StandParts N d.parts ps × (d.name ≡ n) × StandsRest N d.rest r

  pub StandDecls : Nodes → List DeclId → Decls → Type 0
  StandDecls N is NoDecls = is ≡ []
  StandDecls N is (MoreDecls d ds) = (i : DeclId) × (js : List DeclId) × (is ≡ i ∷ js) × StandsDecl N i d ×
      StandDecls N js ds

  pub StandAnnots : Nodes → List Annot → Annots → Type 0
  StandAnnots N vs NoAnnots = vs ≡ []
  StandAnnots N vs (MoreAnnots x xs) = (v : Annot) × (ws : List Annot) × (vs ≡ v ∷ ws) ×
      StandsAnnot N v x × StandAnnots N ws xs

  pub StandsAnnot : Nodes → Annot → Annotated → Type 0
  StandsAnnot N v (Annotate f n is) = (v.from ≡ f) × (v.name ≡ n) × StandItems N v.items is

  pub StandItems : Nodes → List Item → Items → Type 0
  StandItems N vs NoItems = vs ≡ []
  StandItems N vs (MoreItems x xs) = (v : Item) × (ws : List Item) × (vs ≡ v ∷ ws) × StandsItem N v x ×
      StandItems N ws xs

  pub StandsItem : Nodes → Item → Factors → Type 0
  StandsItem N v (OneFactor f x) = (v.from ≡ f) × StandsAtom N v.a x × (v.b ≡ None)
  StandsItem N v (TwoFactors f x y) = (b : Factor) × (v.from ≡ f) × StandsAtom N v.a x × (v.b ≡ Some b) ×
      StandsAtom N b y

  pub StandsAtom : Nodes → Factor → Atom → Type 0
  StandsAtom N a (NameAtom n) = a ≡ atoms.Name n
  StandsAtom N a (NumberAtom v) = a ≡ atoms.Number v
  StandsAtom N a ReturnAtom = a ≡ atoms.Return
  StandsAtom N a (SizeofAtom d) = (i : DeclId) × (a ≡ atoms.Sizeof i) × StandsDecl N i d

  pub StandParts : Nodes → List Part → Parts → Type 0
  StandParts N vs NoParts = vs ≡ []
  StandParts N vs (Pointer f ps) = (v : Part) × (ws : List Part) × (vs ≡ v ∷ ws) × (v.from ≡ f) ×
      (v.kind ≡ parts.Pointer) × StandParts N ws ps
  StandParts N vs (Array f x ps) = (v : Part) × (a : ExprId) × (ws : List Part) × (vs ≡ v ∷ ws) ×
      (v.from ≡ f) × (v.kind ≡ parts.Array a) × Stands N a x × StandParts N ws ps
  StandParts N vs (Params f ds ps) = (v : Part) × (is : List DeclId) × (ws : List Part) × (vs ≡ v ∷ ws) ×
      (v.from ≡ f) × (v.kind ≡ parts.Params is) × StandDecls N is ds × StandParts N ws ps

  pub StandsValue : Nodes → Given → Value → Type 0
  StandsValue N v (Plain x) = (a : ExprId) × (out-Value v ≡ Value-F.Plain a) × Stands N a x
  StandsValue N v (Braces f xs) = (w : Vec Given Global) × (out-Value v ≡ Value-F.Braces f w) ×
      StandValues N w.items xs

  pub StandValues : Nodes → List Given → Values → Type 0
  StandValues N vs NoValues = vs ≡ []
  StandValues N vs (MoreValues x xs) = (v : Given) × (ws : List Given) × (vs ≡ v ∷ ws) ×
      StandsValue N v x × StandValues N ws xs

  pub StandsRest : Nodes → After → Rest → Type 0
  StandsRest N q NoRest = q ≡ rests.None
  StandsRest N q (Initial x) = (v : Given) × (q ≡ rests.Value v) × StandsValue N v x
  StandsRest N q (Body s) = (i : StmtId) × (q ≡ rests.Body i) × StandsStmt N i s
  StandsRest N q (Members ds) = (is : List DeclId) × (q ≡ rests.Members is) × StandDecls N is ds

  pub StandsStmt : Nodes → StmtId → Stmt → Type 0
  StandsStmt N i (Block f es) = (vs : List Entry) × IsStmtAt N i f (stmts.Block vs) × StandEntries N vs es
  StandsStmt N i (Expression f x) = (a : Option ExprId) × IsStmtAt N i f (stmts.Expr a) × StandsMaybe N a x
  StandsStmt N i (If f x s) = (a : ExprId) × (b : StmtId) × IsStmtAt N i f (stmts.If a b None) ×
      Stands N a x × StandsStmt N b s
  StandsStmt N i (IfElse f x s z) = (a : ExprId) × (b c : StmtId) ×
      IsStmtAt N i f (stmts.If a b (Some c)) × Stands N a x × StandsStmt N b s × StandsStmt N c z
  StandsStmt N i (While f x s) = (a : ExprId) × (b : StmtId) × IsStmtAt N i f (stmts.While a b) ×
      Stands N a x × StandsStmt N b s
  StandsStmt N i (Do f s x) = (a : StmtId) × (b : ExprId) × IsStmtAt N i f (stmts.Do a b) ×
      StandsStmt N a s × Stands N b x
  StandsStmt N i (For f x y z s) =
      (a : Begin) × (b c : Option ExprId) × (d : StmtId) × IsStmtAt N i f (stmts.For a b c d) ×
      StandsFirst N a x × StandsMaybe N b y × StandsMaybe N c z × StandsStmt N d s
  StandsStmt N i (Break f) = IsStmtAt N i f stmts.Break
  StandsStmt N i (Continue f) = IsStmtAt N i f stmts.Continue
  StandsStmt N i (Return f x) = (a : Option ExprId) × IsStmtAt N i f (stmts.Return a) × StandsMaybe N a x

  pub StandEntries : Nodes → List Entry → Entries → Type 0
  StandEntries N vs NoEntries = vs ≡ []
  StandEntries N vs (MoreEntries x xs) = (v : Entry) × (ws : List Entry) × (vs ≡ v ∷ ws) ×
      StandsEntry N v x × StandEntries N ws xs

  pub StandsEntry : Nodes → Entry → Stood → Type 0
  StandsEntry N v (LocalEntry ds) = (is : List DeclId) × (v ≡ entries.Local is) × StandDecls N is ds
  StandsEntry N v (StmtEntry s) = (i : StmtId) × (v ≡ entries.Stmt i) × StandsStmt N i s

  pub StandsFirst : Nodes → Begin → First → Type 0
  StandsFirst N a NoFirst = a ≡ firsts.None
  StandsFirst N a (LocalFirst ds) = (is : List DeclId) × (a ≡ firsts.Local is) × StandDecls N is ds
  StandsFirst N a (ExprFirst x) = (i : ExprId) × (a ≡ firsts.Expr i) × Stands N i x

-- the tree's own declarations are those of the source
abbrev pub Holds : Nodes → Decls → Type 0
Holds N ds = StandDecls N N.tops ds
