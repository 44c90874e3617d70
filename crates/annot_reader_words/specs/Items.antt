-- Items as they stand in a tree.
use Rattle.std.specs.Prelude.{Option, Some, None}
use Rattle.c_syntax.specs.declared.declaration.Item.{Item}
use Rattle.c_syntax.specs.Nodes.{Nodes}
use Rattle.c_syntax.specs.Syntax.{Item as Factors}
use Rattle.c_syntax.specs.Stands.{StandsItem}

-- both are there, and one stands for the other, or neither is
abbrev pub MaybeStands : Nodes → Option Item → Option Factors → Type 0
MaybeStands N (Some v) (Some x) = StandsItem N v x
MaybeStands N None None = Unit {0}
MaybeStands N _ _ = ⊥
