use Rattle.whole_runs_examples.proofs.regions.reads_nothing.Goals as goal
use Rattle.whole_runs_examples.proofs.RegionScenes.{reads_nothing_null, reads_nothing_no_room}

pub returns-clause-null : goal.returns-clause-null
returns-clause-null c = reads_nothing_null

pub returns-clause-no_room : goal.returns-clause-no_room
returns-clause-no_room c = reads_nothing_no_room
