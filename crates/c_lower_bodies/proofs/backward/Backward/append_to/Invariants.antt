use Rattle.std.proofs.Common.{◌≡◌, ◌++◌, vec_len}
use Rattle.std.specs.List.{All}
use Rattle.c_lower_bodies.specs.Short.{IsShort}
use Rattle.c_lower_bodies.specs.Steps.{code_in}
use Rattle.c_lower_bodies.proofs.backward.Backward.append_to.Given as goal

abbrev pub decreases-loop-step : goal.decreases-loop-step
decreases-loop-step l = vec_len l.reversed

abbrev pub invariant-loop-step : goal.invariant-loop-step
invariant-loop-step l = record {
  instrs : l.instrs.items ++ code_in l.reversed.items ≡ l.initial.instrs.items ++ code_in l.initial.reversed.items;
  short : All IsShort (code_in l.reversed.items);
}
