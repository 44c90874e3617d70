use Rattle.whole_runs_examples.proofs.crossings.hands_down.Goals as goal
use Rattle.whole_runs_examples.proofs.CrossingScenes.{hands_down_mode, hands_down_bytes}

pub returns-clause-mode : goal.returns-clause-mode
returns-clause-mode c = hands_down_mode

pub returns-clause-bytes : goal.returns-clause-bytes
returns-clause-bytes c = hands_down_bytes
