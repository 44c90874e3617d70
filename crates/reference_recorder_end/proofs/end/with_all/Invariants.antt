use Rattle.std.proofs.Common.{◌≡◌, ◌++◌}
use Rattle.reference_recorder_end.proofs.end.with_all.Given as goal

abbrev pub invariant-loop-stop : goal.invariant-loop-stop
invariant-loop-stop l = l.all.items ≡ l.fn.marks.items ++ l.yielded
