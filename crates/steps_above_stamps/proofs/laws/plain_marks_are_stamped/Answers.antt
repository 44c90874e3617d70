use Rattle.steps_above_stamps.proofs.Plain.{plain_stamped}
use Rattle.steps_above_stamps.proofs.laws.plain_marks_are_stamped.Goals as goal

pub returns : goal.returns
returns c = plain_stamped
