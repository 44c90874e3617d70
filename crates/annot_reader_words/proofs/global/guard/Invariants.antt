use Rattle.std.proofs.Common.{drop, None}
use Rattle.c_syntax.specs.Nodes.{Nodes}
use Rattle.c_syntax.specs.Syntax.{Annots}
use Rattle.c_syntax.specs.Stands.{StandAnnots, StandsAnnot}
use Rattle.annot_reader_words.specs.Readings.{IsSame}
use Rattle.annot_reader_words.specs.Steps.{guard_step}
use Rattle.annot_reader_words.proofs.Folding.{Decides, fold}
use Rattle.annot_reader_words.proofs.Lists.{annots_in}
use Rattle.annot_reader_words.proofs.global.guard.Given as goal

-- the annotations that are left decide
abbrev pub invariant-loop-annot : goal.invariant-loop-annot
invariant-loop-annot l = (N : Nodes) (an : Annots) → StandAnnots N l.annots an → Decides (StandsAnnot N) guard_step IsSame (drop l.annot-index l.annots) l.guard (fold guard_step (annots_in an) None)
