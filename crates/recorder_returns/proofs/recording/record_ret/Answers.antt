use Rattle.std.proofs.Common.{refl}
use Rattle.std.proofs.Math.Facts.{Fits-lt-pow}
use Rattle.recorder_returns.proofs.Allowed.{may_commit, may_copy, sizes}
use Rattle.recorder_returns.proofs.Recorded.{next_so}
use Rattle.recorder_returns.proofs.recording.record_ret.Goals as goal

pub bring-requires-clause-sizes : goal.bring-requires-clause-sizes
bring-requires-clause-sizes c = sizes _ c.args.state.now c.args.thread c.args.func c.args.value _ c.requires.next.1 c.args.returning.now c.requires.said

pub bring-requires-clause-regions : goal.bring-requires-clause-regions
bring-requires-clause-regions c = may_copy _ c.args.state.now c.args.thread c.args.func c.args.value _ c.requires.next.1 c.args.returning.now c.requires.said

pub bring-requires-clause-committed : goal.bring-requires-clause-committed
bring-requires-clause-committed c = may_commit _ c.args.state.now c.args.thread c.args.func c.args.value _ c.requires.next.1 c.args.returning.now c.requires.said

pub make-requires : goal.make-requires
make-requires c = (
  c.args.value,
  c.requires.next.0,
  next_so _ c.args.state.now c.args.thread c.args.func c.args.value _ c.requires.next.1 c.args.returning.now c.requires.said
      (Fits-lt-pow c.ranges.value) c.in-Ok.brought c.in-Ok.ensures c.is_cached-cached.result c.repeats-same.result c.as_slice.result.now c.in-Ok.brought.pieces c.as_slice-ranges.result.now
      c.is_cached-cached.ensures c.as_slice.ensures refl c.as_slice-ranges.ensures c.repeats-same.ensures,
)

pub returns-clause-made : goal.returns-clause-made
returns-clause-made c = λ x r. c.make.ensures.made c.args.value x (next_so _ c.args.state.now c.args.thread c.args.func c.args.value x r c.args.returning.now c.requires.said
    (Fits-lt-pow c.ranges.value) c.in-Ok.brought c.in-Ok.ensures c.is_cached-cached.result c.repeats-same.result c.as_slice.result.now c.in-Ok.brought.pieces c.as_slice-ranges.result.now
    c.is_cached-cached.ensures c.as_slice.ensures refl c.as_slice-ranges.ensures c.repeats-same.ensures)
