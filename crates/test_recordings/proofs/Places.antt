-- Where the objects of an accepted source lie.
use Rattle.std.proofs.Common.{List, ℕ}
use Rattle.memory_map.specs.declared.placed.Placed.{Placed}
use Rattle.c_types_rules.specs.Sources.{Program}
use Rattle.annot_reader_rules.specs.Notes.{Annotated}
use Rattle.isolation_check.specs.Answers.{IsAcceptedAt}
use Rattle.isolation_check.specs.Literals.{literals_in}
use Rattle.front_end.specs.declared.source.CheckedSource.{CheckedSource}
use Rattle.front_end.specs.Answers.{IsAccepted}
use Rattle.cut_check.specs.Sources.{Says, cut_of}
use Rattle.cut_check.proofs.Accepted.{known}
use Rattle.whole_runs_sources.specs.Laws.{IsPlacedAs}

pub placed_as : (bytes cut : List ℕ) (c : CheckedSource) (q : Placed) → IsAccepted bytes cut c
    → ((p : Program) (a : Annotated) → Says bytes cut p a → IsAcceptedAt (cut_of cut p a) (literals_in c.program.texts) q) → IsPlacedAs bytes cut c q
placed_as bytes cut c q accepted at = let k = known bytes cut c accepted in record {
  accepted = accepted;
  program = k.program;
  annotated = k.annotated;
  says = k.says;
  placed = at k.program k.annotated k.says;
}
