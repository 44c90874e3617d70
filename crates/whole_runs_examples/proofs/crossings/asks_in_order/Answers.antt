use Rattle.whole_runs_examples.proofs.crossings.asks_in_order.Goals as goal
use Rattle.whole_runs_examples.proofs.CrossingScenes.{asks_in_order_run, asks_in_order_refused}

pub returns-clause-run : goal.returns-clause-run
returns-clause-run c = asks_in_order_run

pub returns-clause-refused : goal.returns-clause-refused
returns-clause-refused c = asks_in_order_refused
