use Rattle.std.proofs.Common.{length}
use Rattle.reference_recorder_acts.proofs.frame_bytes.+push_params.Given as goal

abbrev pub decreases-push_params : goal.decreases-push_params
decreases-push_params l = length l.params.now
