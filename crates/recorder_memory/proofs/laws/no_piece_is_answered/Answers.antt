use Rattle.recorder_memory.proofs.Returning.{none_answered}
use Rattle.recorder_memory.proofs.laws.no_piece_is_answered.Goals as goal

pub returns : goal.returns
returns c = none_answered
