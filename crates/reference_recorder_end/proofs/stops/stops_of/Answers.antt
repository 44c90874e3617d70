use Rattle.std.proofs.Common.{arith}
use Rattle.recorder_state.specs.Inputs.{world_of}
use Rattle.reference_recorder_end.proofs.Stopped.{all_first, few_threads}
use Rattle.reference_recorder_end.proofs.stops.stops_of.Goals as goal

pub overflow_cast-thread : goal.overflow_cast-thread
overflow_cast-thread c =
    let few = few_threads (world_of c.args.inputs) c.args.run.now c.args.threads.now c.requires in
    let n = c.loop-thread.invariant.count in
    omega (arith, few, n, c.loop-thread-test.true)

pub returns : goal.returns
returns c =
    let n = c.loop-thread.invariant.count in
    let le = c.loop-thread.invariant.upto in
    all_first (world_of c.args.inputs) c.args.run.now c.args.threads.now c.loop-thread.stops.items c.loop-thread.thread
    (omega (arith, n, c.loop-thread-test.false)) (omega (arith, n, le)) c.loop-thread.invariant.stops
