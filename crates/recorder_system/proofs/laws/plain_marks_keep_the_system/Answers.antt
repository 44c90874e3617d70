use Rattle.recorder_system.proofs.Noted.{plain}
use Rattle.recorder_system.proofs.laws.plain_marks_keep_the_system.Goals as goal

pub returns : goal.returns
returns c = plain
