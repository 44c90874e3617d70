-- Which numbers and nodes are those of parts of a source.
use Rattle.std.specs.Prelude.{◌≡◌, ℕ, List, [], ◌∷◌, Option, Some, None}
use Rattle.c_syntax.specs.declared.id.DeclId.{DeclId}
use Rattle.c_syntax.specs.declared.id.StmtId.{StmtId}
use Rattle.c_syntax.specs.declared.id.ExprId.{ExprId}
use Rattle.c_syntax.specs.declared.expression.ExprKind.{ExprKind}
use Rattle.c_syntax.specs.declared.expression.ExprKind.TheVariants as exprs
use Rattle.c_syntax.specs.declared.declaration.Annot.{Annot}
use Rattle.c_syntax.specs.declared.declaration.Item.{Item}
use Rattle.c_syntax.specs.declared.declaration.Atom.{Atom}
use Rattle.c_syntax.specs.declared.declaration.Atom.TheVariants as atoms
use Rattle.c_syntax.specs.declared.declaration.Part.{Part}
use Rattle.c_syntax.specs.declared.declaration.PartKind.{PartKind}
use Rattle.c_syntax.specs.declared.declaration.PartKind.TheVariants as parts
use Rattle.c_syntax.specs.declared.declaration.Value.{Value as Given}
use Rattle.c_syntax.specs.declared.declaration.Rest.{Rest as After}
use Rattle.c_syntax.specs.declared.declaration.Rest.TheVariants as rests
use Rattle.c_syntax.specs.declared.statement.StmtKind.{StmtKind}
use Rattle.c_syntax.specs.declared.statement.StmtKind.TheVariants as stmts
use Rattle.c_syntax.specs.declared.statement.Entry.{Entry}
use Rattle.c_syntax.specs.declared.statement.Entry.TheVariants as entries
use Rattle.c_syntax.specs.declared.statement.First.{First as Begin}
use Rattle.c_syntax.specs.declared.statement.First.TheVariants as firsts
use Rattle.c_syntax.specs.Nodes.{Nodes}
use Rattle.c_syntax.specs.Syntax.{Expr, Decl, Decls, Value, Stmt}
use Rattle.c_syntax.specs.Stands.{Stands, StandsDecl, StandsValue, StandsStmt, Holds}

-- the number stands for an expression
abbrev pub IsExpr : Nodes → ExprId → Type 0
IsExpr N i = (x : Expr) × Stands N i x

-- the number stands for a statement
abbrev pub IsStmt : Nodes → StmtId → Type 0
IsStmt N i = (x : Stmt) × StandsStmt N i x

-- the number stands for a declaration
abbrev pub IsDecl : Nodes → DeclId → Type 0
IsDecl N i = (x : Decl) × StandsDecl N i x

-- the tree is that of a source
abbrev pub IsSource : Nodes → Type 0
IsSource N = (ds : Decls) × Holds N ds

abbrev pub AreExprs : Nodes → List ExprId → Type 0
AreExprs N [] = Unit {0}
AreExprs N (i ∷ is) = IsExpr N i × AreExprs N is

abbrev pub AreDecls : Nodes → List DeclId → Type 0
AreDecls N [] = Unit {0}
AreDecls N (i ∷ is) = IsDecl N i × AreDecls N is

abbrev pub MaybeExpr : Nodes → Option ExprId → Type 0
MaybeExpr N None = Unit {0}
MaybeExpr N (Some i) = IsExpr N i

abbrev pub MaybeStmt : Nodes → Option StmtId → Type 0
MaybeStmt N None = Unit {0}
MaybeStmt N (Some i) = IsStmt N i

-- the numbers in an expression's node stand for its parts
abbrev pub ExprFits : Nodes → ExprKind → Type 0
ExprFits N (exprs.Name n) = Unit {0}
ExprFits N (exprs.Number v s d) = Unit {0}
ExprFits N (exprs.Char v) = Unit {0}
ExprFits N (exprs.Text n) = Unit {0}
ExprFits N (exprs.Binary s a b) = IsExpr N a × IsExpr N b
ExprFits N (exprs.Assign s a b) = IsExpr N a × IsExpr N b
ExprFits N (exprs.Cond a b c) = IsExpr N a × IsExpr N b × IsExpr N c
ExprFits N (exprs.Prefix s a) = IsExpr N a
ExprFits N (exprs.Postfix s a) = IsExpr N a
ExprFits N (exprs.SizeofExpr a) = IsExpr N a
ExprFits N (exprs.SizeofType a) = IsDecl N a
ExprFits N (exprs.Cast a b) = IsDecl N a × IsExpr N b
ExprFits N (exprs.Index a b) = IsExpr N a × IsExpr N b
ExprFits N (exprs.Call a is) = IsExpr N a × AreExprs N is
ExprFits N (exprs.Member a n) = IsExpr N a
ExprFits N (exprs.Arrow a n) = IsExpr N a

-- the numbers in a declarator's part stand for its parts
abbrev pub KindFits : Nodes → PartKind → Type 0
KindFits N parts.Pointer = Unit {0}
KindFits N (parts.Array a) = IsExpr N a
KindFits N (parts.Params is) = AreDecls N is

abbrev pub AreParts : Nodes → List Part → Type 0
AreParts N [] = Unit {0}
AreParts N (v ∷ vs) = KindFits N v.kind × AreParts N vs

-- the type of a `sizeof` in an annotation is a declaration
abbrev pub AtomFits : Nodes → Atom → Type 0
AtomFits N (atoms.Name n) = Unit {0}
AtomFits N (atoms.Number v) = Unit {0}
AtomFits N atoms.Return = Unit {0}
AtomFits N (atoms.Sizeof i) = IsDecl N i

abbrev pub MaybeAtom : Nodes → Option Atom → Type 0
MaybeAtom N None = Unit {0}
MaybeAtom N (Some a) = AtomFits N a

abbrev pub ItemFits : Nodes → Item → Type 0
ItemFits N v = AtomFits N v.a × MaybeAtom N v.b

abbrev pub AreItems : Nodes → List Item → Type 0
AreItems N [] = Unit {0}
AreItems N (v ∷ vs) = ItemFits N v × AreItems N vs

abbrev pub AreAnnots : Nodes → List Annot → Type 0
AreAnnots N [] = Unit {0}
AreAnnots N (v ∷ vs) = AreItems N v.items × AreAnnots N vs

-- the value stands for one
abbrev pub ValueFits : Nodes → Given → Type 0
ValueFits N v = (x : Value) × StandsValue N v x

abbrev pub AreValues : Nodes → List Given → Type 0
AreValues N [] = Unit {0}
AreValues N (v ∷ vs) = ValueFits N v × AreValues N vs

-- the numbers in what follows a declarator stand for its parts
abbrev pub RestFits : Nodes → After → Type 0
RestFits N rests.None = Unit {0}
RestFits N (rests.Value v) = ValueFits N v
RestFits N (rests.Body s) = IsStmt N s
RestFits N (rests.Members is) = AreDecls N is

-- the numbers in an entry of a block stand for its parts
abbrev pub EntryFits : Nodes → Entry → Type 0
EntryFits N (entries.Local is) = AreDecls N is
EntryFits N (entries.Stmt i) = IsStmt N i

abbrev pub AreEntries : Nodes → List Entry → Type 0
AreEntries N [] = Unit {0}
AreEntries N (v ∷ vs) = EntryFits N v × AreEntries N vs

-- the numbers in the first part of a `for` stand for its parts
abbrev pub FirstFits : Nodes → Begin → Type 0
FirstFits N firsts.None = Unit {0}
FirstFits N (firsts.Local is) = AreDecls N is
FirstFits N (firsts.Expr i) = IsExpr N i

-- the numbers in a statement's node stand for its parts
abbrev pub StmtFits : Nodes → StmtKind → Type 0
StmtFits N (stmts.Block vs) = AreEntries N vs
StmtFits N (stmts.Expr a) = MaybeExpr N a
StmtFits N (stmts.If a b c) = IsExpr N a × IsStmt N b × MaybeStmt N c
StmtFits N (stmts.While a b) = IsExpr N a × IsStmt N b
StmtFits N (stmts.Do a b) = IsStmt N a × IsExpr N b
StmtFits N (stmts.For a b c d) = FirstFits N a × MaybeExpr N b × MaybeExpr N c × IsStmt N d
StmtFits N stmts.Break = Unit {0}
StmtFits N stmts.Continue = Unit {0}
StmtFits N (stmts.Return a) = MaybeExpr N a
