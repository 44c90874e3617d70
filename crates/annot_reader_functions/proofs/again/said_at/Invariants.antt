use Rattle.std.proofs.Common.{drop}
use Rattle.c_syntax.specs.Syntax.{Annots}
use Rattle.c_syntax.specs.Stands.{StandAnnots}
use Rattle.annot_reader_rules.specs.Functions.{nothing}
use Rattle.annot_reader_rules.specs.Notes.{Notes}
use Rattle.annot_reader_rules.specs.Regions.{Signature}
use Rattle.annot_reader_words.proofs.Folding.{Decides, fold}
use Rattle.annot_reader_words.proofs.Lists.{annots_in}
use Rattle.annot_reader_functions.specs.Known.{parameter_words}
use Rattle.annot_reader_functions.specs.Rules.{Stays}
use Rattle.annot_reader_functions.specs.Sorts.{IsKnown}
use Rattle.annot_reader_functions.specs.Sayings.{AreSaid, IsSaid, kind_in}
use Rattle.annot_reader_functions.specs.Steps.{noted_step}
use Rattle.annot_reader_functions.specs.Seen.{declared_by}
use Rattle.annot_reader_functions.proofs.Placing.{StandsAt}
use Rattle.annot_reader_functions.proofs.again.said_at.Given as goal

-- what is declared stays, and the annotations at the places that are left decide
abbrev pub invariant-loop-place : goal.invariant-loop-place
invariant-loop-place l =
    Stays (declared_by l.fn.env) (declared_by l.env) ×
    ((an : Annots) (s : Signature) → StandAnnots l.tree l.annots an → IsKnown l.subject.signature.now (declared_by l.fn.env).env s →
    (n : Notes) × IsSaid l.subject.cut.now l.said n × Decides (StandsAt l.tree l.annots) (noted_step s (kind_in l.subject.kind)) (AreSaid l.subject.cut.now) (drop l.place-index l.places) n
    (fold (noted_step s (kind_in l.subject.kind)) (annots_in (parameter_words an)) nothing))
