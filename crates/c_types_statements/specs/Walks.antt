-- Which numbers stand for parts of a source that hold statements. All numbers that are written in these are
-- such as types can represent.
use Rattle.std.specs.Prelude.{List, Option}
use Rattle.c_syntax.specs.declared.id.ExprId.{ExprId}
use Rattle.c_syntax.specs.declared.id.StmtId.{StmtId}
use Rattle.c_syntax.specs.declared.declaration.Rest.{Rest as After}
use Rattle.c_syntax.specs.declared.statement.Entry.{Entry}
use Rattle.c_syntax.specs.declared.statement.First.{First as Begin}
use Rattle.c_syntax.specs.Nodes.{Nodes}
use Rattle.c_syntax.specs.Syntax.{MaybeExpr, Rest, Stmt, Entries, Entry as Stood, First}
use Rattle.c_syntax.specs.Stands.{StandsMaybe, StandsRest, StandsStmt, StandEntries, StandsEntry, StandsFirst}
use Rattle.c_syntax_laws.specs.Numbers.{FitsMaybe, FitsRest, FitsStmt, FitsEntries, FitsEntry, FitsFirst}

-- the number, if there is one, stands for an expression that may be there
abbrev pub IsMaybeExpr : Nodes → Option ExprId → Type 0
IsMaybeExpr N i = (x : MaybeExpr) × StandsMaybe N i x × FitsMaybe x

-- it stands for what follows a declarator
abbrev pub IsRest : Nodes → After → Type 0
IsRest N q = (r : Rest) × StandsRest N q r × FitsRest r

-- the number stands for a statement
abbrev pub IsStmt : Nodes → StmtId → Type 0
IsStmt N i = (s : Stmt) × StandsStmt N i s × FitsStmt s

-- it stands for what is in a block
abbrev pub IsEntry : Nodes → Entry → Type 0
IsEntry N v = (e : Stood) × StandsEntry N v e × FitsEntry e

abbrev pub AreEntries : Nodes → List Entry → Type 0
AreEntries N vs = (es : Entries) × StandEntries N vs es × FitsEntries es

-- it stands for the first part of a `for`
abbrev pub IsFirst : Nodes → Begin → Type 0
IsFirst N v = (f : First) × StandsFirst N v f × FitsFirst f
