use Rattle.c_syntax.specs.Nodes.{Nodes}
use Rattle.c_syntax.specs.Syntax.{Annots}
use Rattle.c_syntax.specs.Stands.{StandAnnots}
use Rattle.annot_reader_functions.proofs.Placing.{Left}
use Rattle.annot_reader_functions.proofs.again.parameter_places.Given as goal

-- the annotations that are left have the places that are left
abbrev pub invariant-loop-place : goal.invariant-loop-place
invariant-loop-place l = (N : Nodes) (an : Annots) → StandAnnots N l.annots an → Left N l.annots an l.place l.places.items
