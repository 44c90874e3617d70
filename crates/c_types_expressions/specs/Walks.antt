-- Which numbers stand for parts of a source. All numbers that are written in it are such as types can
-- represent.
use Rattle.std.specs.Prelude.{List}
use Rattle.c_syntax.specs.declared.id.DeclId.{DeclId}
use Rattle.c_syntax.specs.declared.id.ExprId.{ExprId}
use Rattle.c_syntax.specs.declared.declaration.Annot.{Annot}
use Rattle.c_syntax.specs.declared.declaration.Item.{Item}
use Rattle.c_syntax.specs.declared.declaration.Atom.{Atom as Factor}
use Rattle.c_syntax.specs.declared.declaration.Part.{Part}
use Rattle.c_syntax.specs.Nodes.{Nodes}
use Rattle.c_syntax.specs.Syntax.{Expr, Exprs, Decl, Decls, Annots, Items, Item as Factors, Atom, Parts}
use Rattle.c_syntax.specs.Stands.{Stands, StandExprs, StandsDecl, StandDecls, StandAnnots, StandItems, StandsItem, StandsAtom, StandParts}
use Rattle.c_syntax_laws.specs.Numbers.{FitsExpr, FitsExprs, FitsDecl, FitsDecls, FitsAnnots, FitsItems, FitsItem, FitsAtom, FitsParts}

-- the number stands for an expression
abbrev pub IsExpr : Nodes → ExprId → Type 0
IsExpr N i = (x : Expr) × Stands N i x × FitsExpr x

abbrev pub AreExprs : Nodes → List ExprId → Type 0
AreExprs N is = (xs : Exprs) × StandExprs N is xs × FitsExprs xs

-- the number stands for a declaration
abbrev pub IsDecl : Nodes → DeclId → Type 0
IsDecl N i = (d : Decl) × StandsDecl N i d × FitsDecl d

abbrev pub AreDecls : Nodes → List DeclId → Type 0
AreDecls N is = (ds : Decls) × StandDecls N is ds × FitsDecls ds

abbrev pub AreParts : Nodes → List Part → Type 0
AreParts N vs = (ps : Parts) × StandParts N vs ps × FitsParts ps

abbrev pub AreAnnots : Nodes → List Annot → Type 0
AreAnnots N vs = (an : Annots) × StandAnnots N vs an × FitsAnnots an

abbrev pub AreItems : Nodes → List Item → Type 0
AreItems N vs = (is : Items) × StandItems N vs is × FitsItems is

abbrev pub IsItem : Nodes → Item → Type 0
IsItem N v = (x : Factors) × StandsItem N v x × FitsItem x

abbrev pub IsAtom : Nodes → Factor → Type 0
IsAtom N v = (x : Atom) × StandsAtom N v x × FitsAtom x
