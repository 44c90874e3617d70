use Rattle.cut_graph_laws.specs.Granted.{flagged}
use Rattle.cut_graph_laws.proofs.Wants.{above_granted, threads_granted}
use Rattle.cut_graph_laws.proofs.laws.wants_are_granted.Goals as goal

pub returns-clause-threads : goal.returns-clause-threads
returns-clause-threads c s may touches writes grants t address args = threads_granted s (flagged may touches writes) grants t address args

pub returns-clause-above : goal.returns-clause-above
returns-clause-above c s may touches writes grants = above_granted s (flagged may touches writes) grants
