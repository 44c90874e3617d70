use Rattle.std.proofs.Common.{get_or, refl, arith}
use Rattle.recorder_state.specs.Inputs.{world_of}
use Rattle.recorder_state.proofs.Begun.{same_get}
use Rattle.recorder_state.proofs.begin.with.Goals as goal

pub new-requires-2-clause-counts : goal.new-requires-2-clause-counts
new-requires-2-clause-counts c = λ k d lt. let some = (c.requires.fit.file.items (get_or c.args.inputs.file.now.schedule k d) (k, lt, same_get c.args.inputs.file.now.schedule k (get_or c.args.inputs.file.now.schedule k d) d lt)).some in omega (arith, some)

pub complete-requires-clause-threads : goal.complete-requires-clause-threads
complete-requires-clause-threads c = c.in_ok-threads.ensures (world_of c.args.inputs) refl

pub complete-requires-clause-system : goal.complete-requires-clause-system
complete-requires-clause-system c = c.in_ok-system.ensures (world_of c.args.inputs) refl
