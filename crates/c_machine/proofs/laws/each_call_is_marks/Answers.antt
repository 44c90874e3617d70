use Rattle.c_machine.proofs.Calling.{each_call_is_marks}
use Rattle.c_machine.proofs.laws.each_call_is_marks.Goals as goal

pub returns : goal.returns
returns c = λ r l depth d. each_call_is_marks l r depth d
