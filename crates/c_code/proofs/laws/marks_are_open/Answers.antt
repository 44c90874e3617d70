use Rattle.c_code.proofs.Open.{marks_are_open, wants_end_innermost, wants_above_end_innermost}
use Rattle.c_code.proofs.laws.marks_are_open.Goals as goal

pub returns-clause-opens : goal.returns-clause-opens
returns-clause-opens c = marks_are_open

pub returns-clause-ends : goal.returns-clause-ends
returns-clause-ends c = wants_end_innermost

pub returns-clause-above : goal.returns-clause-above
returns-clause-above c = wants_above_end_innermost
