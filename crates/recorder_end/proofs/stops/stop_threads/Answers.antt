use Rattle.std.proofs.Common.{arith}
use Rattle.recorder_end.proofs.Stopping.{is_few}
use Rattle.recorder_end.proofs.stops.stop_threads.Goals as goal

pub overflow_cast-thread : goal.overflow_cast-thread
overflow_cast-thread c =
    let few = is_few _ c.loop-thread.state c.args.ending c.loop-thread.thread c.loop-thread.invariant.stopping in
    let n = c.loop-thread.invariant.count in
    omega (arith, few, n)
