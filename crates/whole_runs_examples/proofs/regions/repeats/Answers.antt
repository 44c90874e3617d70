use Rattle.whole_runs_examples.proofs.regions.repeats.Goals as goal
use Rattle.whole_runs_examples.proofs.RegionScenes.{repeats_run, repeats_bytes, repeats_in_full, repeats_differs}

pub returns-clause-run : goal.returns-clause-run
returns-clause-run c = repeats_run

pub returns-clause-bytes : goal.returns-clause-bytes
returns-clause-bytes c = repeats_bytes

pub returns-clause-in_full : goal.returns-clause-in_full
returns-clause-in_full c = repeats_in_full

pub returns-clause-differs : goal.returns-clause-differs
returns-clause-differs c = repeats_differs
