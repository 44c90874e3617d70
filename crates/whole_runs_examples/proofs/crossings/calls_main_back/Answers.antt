use Rattle.whole_runs_examples.proofs.crossings.calls_main_back.Goals as goal
use Rattle.whole_runs_examples.proofs.CrossingScenes.{calls_main_back_run, calls_main_back_clocks}

pub returns-clause-run : goal.returns-clause-run
returns-clause-run c = calls_main_back_run

pub returns-clause-clocks : goal.returns-clause-clocks
returns-clause-clocks c = calls_main_back_clocks
