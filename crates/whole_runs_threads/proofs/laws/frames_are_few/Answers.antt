use Rattle.whole_runs_threads.proofs.Framing.{few_frames}
use Rattle.whole_runs_threads.proofs.laws.frames_are_few.Goals as goal

pub returns : goal.returns
returns c = few_frames
