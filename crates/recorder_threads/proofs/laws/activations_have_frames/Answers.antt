use Rattle.recorder_threads.proofs.Followed.{framed_activations}
use Rattle.recorder_threads.proofs.laws.activations_have_frames.Goals as goal

pub returns : goal.returns
returns c = framed_activations
