use Rattle.std.proofs.Common.{◌≡◌, drop}
use Rattle.std.specs.Prelude.{slice_get}
use Rattle.reference_recorder_given.proofs.Giving.{of_func}
use Rattle.reference_recorder_given.proofs.answers.answer_of.Given as goal

abbrev pub invariant-loop-at : goal.invariant-loop-at
invariant-loop-at l = slice_get (of_func l.func l.file.answers) l.place ≡ slice_get (of_func l.func (drop l.at l.file.answers)) l.left
