use Rattle.whole_runs_laws.proofs.laws.tests_decide.Goals as goal
use Rattle.whole_runs_laws.proofs.Decided.{tests_decided}

pub returns : goal.returns
returns c = tests_decided
