use Rattle.whole_runs_cuts.proofs.Places.{placed_keeps}
use Rattle.whole_runs_cuts.proofs.laws.places_keep_the_cut.Goals as goal

pub returns : goal.returns
returns c = placed_keeps
