use Rattle.steps_above_memory.proofs.Turning.{turned}
use Rattle.steps_above_memory.proofs.laws.turns_are_made.Goals as goal

pub returns : goal.returns
returns c = turned
