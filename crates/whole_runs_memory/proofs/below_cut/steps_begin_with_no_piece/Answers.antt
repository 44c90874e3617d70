use Rattle.whole_runs_memory.proofs.below_cut.steps_begin_with_no_piece.Goals as goal
use Rattle.whole_runs_memory.proofs.Steps.{steps_begin}

pub returns : goal.returns
returns c = steps_begin
