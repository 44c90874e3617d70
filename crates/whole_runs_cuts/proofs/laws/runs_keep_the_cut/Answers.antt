use Rattle.whole_runs_cuts.proofs.Ended.{ended_keeps}
use Rattle.whole_runs_cuts.proofs.laws.runs_keep_the_cut.Goals as goal

pub returns : goal.returns
returns c s d w under run e is = ended_keeps d w run e is (c.steps_keep_the_cut.ensures s d w under is.past is.follows).marks
