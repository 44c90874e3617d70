use Rattle.std.proofs.Common.{ℕ, List, length, subst}
use Rattle.marks.specs.Ranges.{within}
use Rattle.reference_recorder_races.specs.Least.{IsLeastAt}
use Rattle.reference_recorder_races.specs.Hits.{reading}
use Rattle.reference_recorder_races.proofs.lists.read_bytes.Goals as goal

pub returns : goal.returns
returns c = subst (λ (bs : List ℕ). IsLeastAt (λ x. reading c.args.tested x (within c.args.at (length bs) x)) c.read.result) c.as_slice.ensures c.read.ensures
