use Rattle.std.proofs.Common.{◌<◌, length, arith}
use Rattle.std.proofs.lemmas.List.{get_or_default}
use Rattle.stub_calls.proofs.Steps.{none_more}
use Rattle.stub_calls.proofs.done.say_nothing.Goals as goal

pub loop-op-preserved : goal.loop-op-preserved
loop-op-preserved c = λ code x.
    let lt : c.loop-op.op-index < length c.args.ops.now = omega arith in
    none_more code x c.args.ops.now c.loop-op.op-index _ lt (get_or_default c.args.ops.now c.loop-op.op-index _ _ lt) (c.loop-op.invariant code x) (c.is_pass.ensures c.if-not-is_pass.false)
