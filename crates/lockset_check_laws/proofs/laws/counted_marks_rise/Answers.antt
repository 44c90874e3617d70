use Rattle.lockset_check_laws.proofs.Order.{counted_rise}
use Rattle.lockset_check_laws.proofs.laws.counted_marks_rise.Goals as goal

pub returns : goal.returns
returns c memory past h = counted_rise memory past h
