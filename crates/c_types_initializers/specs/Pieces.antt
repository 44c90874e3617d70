-- What parts of the values of globals are.
use Rattle.std.specs.Prelude.{Option, Some, None}
use Rattle.c_syntax.specs.declared.id.ExprId.{ExprId}
use Rattle.c_syntax.specs.Nodes.{Nodes}
use Rattle.c_syntax.specs.Syntax.{Expr}
use Rattle.c_syntax.specs.Stands.{Stands}

-- the number stands for the expression, where there is one
abbrev pub MayStand : Nodes → Option Expr → Option ExprId → Type 0
MayStand N None None = Unit {0}
MayStand N (Some x) (Some i) = Stands N i x
MayStand N _ _ = ⊥
