use Rattle.whole_runs_threads.proofs.Suits.{suit_all}
use Rattle.whole_runs_threads.proofs.laws.steps_suit.Goals as goal

pub returns : goal.returns
returns c = suit_all
