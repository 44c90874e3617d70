use Rattle.std.proofs.Common.{◌<◌, length, arith}
use Rattle.std.proofs.lemmas.List.{get_or_default}
use Rattle.stub_calls.proofs.Steps.{one_more}
use Rattle.stub_calls.proofs.done.add_all.Goals as goal

pub loop-op-preserved : goal.loop-op-preserved
loop-op-preserved c = λ x h.
    let lt : c.loop-op.op-index < length c.args.ops.now = omega arith in
    one_more c.args.code.now x c.args.said.now c.loop-op.said c.add.new.self c.args.ops.now c.loop-op.op-index _ lt (get_or_default c.args.ops.now c.loop-op.op-index _ _ lt) (c.loop-op.invariant x h) (c.in_ok-add.ensures x h)
