use Rattle.std.proofs.Common.{◌≡◌, ◌++◌, take}
use Rattle.std.specs.Prelude.{reverse}
use Rattle.c_machine_stack.specs.Stacks.{held, room_of}
use Rattle.c_machine.proofs.begin.push_all.Given as goal

abbrev pub invariant-loop-value : goal.invariant-loop-value
invariant-loop-value l = record { so_far : held l.stack ≡ reverse (take l.value-index l.values) ++ held l.fn.stack; room : room_of l.stack ≡ room_of l.fn.stack }
