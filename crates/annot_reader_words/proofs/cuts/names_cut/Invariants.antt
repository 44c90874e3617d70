use Rattle.std.proofs.Common.{drop}
use Rattle.c_syntax.specs.Nodes.{Nodes}
use Rattle.c_syntax.specs.Syntax.{Items}
use Rattle.c_syntax.specs.Stands.{StandItems}
use Rattle.annot_reader_words.proofs.CutNames.{Left}
use Rattle.annot_reader_words.proofs.cuts.names_cut.Given as goal

-- the items that are left decide
abbrev pub invariant-loop-item : goal.invariant-loop-item
invariant-loop-item l = (N : Nodes) (is : Items) → StandItems N l.items is → Left N l.from l.cut l.found (drop l.item-index l.items) is
