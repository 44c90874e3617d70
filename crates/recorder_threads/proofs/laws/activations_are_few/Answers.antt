use Rattle.recorder_threads.proofs.Followed.{few_activations}
use Rattle.recorder_threads.proofs.laws.activations_are_few.Goals as goal

pub returns : goal.returns
returns c = few_activations
