use Rattle.whole_runs_examples.proofs.regions.leaves_no_change.Goals as goal
use Rattle.whole_runs_examples.proofs.RegionScenes.{leaves_no_change_changed}

pub returns : goal.returns
returns c = leaves_no_change_changed
