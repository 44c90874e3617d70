use Rattle.system_side.proofs.Places.{Noted}
use Rattle.system_side.proofs.answers.Left.new.Given as goal

abbrev pub invariant-loop-place : goal.invariant-loop-place
invariant-loop-place l = Noted l.answers l.place l.left
