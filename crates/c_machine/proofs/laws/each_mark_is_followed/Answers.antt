use Rattle.c_machine.proofs.Following.{each_mark_is_followed}
use Rattle.c_machine.proofs.laws.each_mark_is_followed.Goals as goal

pub returns : goal.returns
returns c = each_mark_is_followed
