use Rattle.std.proofs.Common.{drop}
use Rattle.c_syntax.specs.Nodes.{Nodes}
use Rattle.c_syntax.specs.Syntax.{Annots}
use Rattle.c_syntax.specs.Stands.{StandAnnots, StandsAnnot}
use Rattle.annot_reader_rules.specs.Regions.{Marked, marked, unmarked}
use Rattle.annot_reader_words.proofs.Folding.{Decides, fold}
use Rattle.annot_reader_words.proofs.Lists.{annots_in}
use Rattle.annot_reader_functions.specs.Marking.{AreMarks, IsMarked}
use Rattle.annot_reader_functions.proofs.marks.marks_of.Given as goal

-- the annotations that are left decide
abbrev pub invariant-loop-annot : goal.invariant-loop-annot
invariant-loop-annot l = (N : Nodes) (an : Annots) → StandAnnots N l.annots an →
    (m : Marked) × IsMarked N l.marks m × Decides (StandsAnnot N) marked (AreMarks N) (drop l.annot-index l.annots) m (fold marked (annots_in an) unmarked)
