use Rattle.std.proofs.Common.{length, ap, ◌∙◌, arith}
use Rattle.reference_recorder_calls.proofs.Lists.{tail_none, tail_some}
use Rattle.reference_recorder_calls.proofs.calls.drop_first.Goals as goal

pub returns-then-count-eq0 : goal.returns-then-count-eq0
returns-then-count-eq0 c = tail_none c.args.calls.now.items (omega (arith, ap length c.as_slice-count.ensures.value, c.if-count-eq0.true))

pub remove-requires : goal.remove-requires
remove-requires c = omega (arith, c.as_slice-count.ensures.len, c.if-count-eq0.false)

pub returns : goal.returns
returns c = c.remove.ensures.items ∙ tail_some c.args.calls.now.items
