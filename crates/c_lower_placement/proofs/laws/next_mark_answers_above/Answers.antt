use Rattle.c_lower_placement.proofs.Aboves.{next_answers}
use Rattle.c_lower_placement.proofs.laws.next_mark_answers_above.Goals as goal

pub returns : goal.returns
returns c = next_answers
