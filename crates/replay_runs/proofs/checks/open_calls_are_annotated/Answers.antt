use Rattle.replay_runs.proofs.checks.open_calls_are_annotated.Goals as goal
use Rattle.replay_runs.proofs.Returns.{annotated}

pub returns : goal.returns
returns c = annotated
