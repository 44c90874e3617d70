use Rattle.whole_runs_examples.proofs.regions.reads.Goals as goal
use Rattle.whole_runs_examples.proofs.RegionScenes.{reads_short, reads_kept}

pub returns-clause-short : goal.returns-clause-short
returns-clause-short c = reads_short

pub returns-clause-kept : goal.returns-clause-kept
returns-clause-kept c = reads_kept
