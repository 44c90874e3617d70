use Rattle.whole_runs.specs.Picks.{can_step}
use Rattle.recorder_system.proofs.Lists.{found_passes}
use Rattle.recorder_system.proofs.laws.picked_threads_can_step.Goals as goal

pub returns : goal.returns
returns c = λ w past s. found_passes (can_step w past) _ s.thread s.picked
