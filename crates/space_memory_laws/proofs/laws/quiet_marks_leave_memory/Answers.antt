use Rattle.space_memory_laws.proofs.laws.quiet_marks_leave_memory.Goals as goal
use Rattle.space_memory_laws.proofs.Quiet.{quiet}

pub returns : goal.returns
returns c s past memory m = quiet s past memory m
