use Rattle.std.proofs.Common.{true, false, sym, ◌∙◌}
use Rattle.reference_recorder_marks.specs.Marks.{past}
use Rattle.reference_recorder_calls.proofs.Keyed.{end_last}
use Rattle.reference_recorder_calls.proofs.keys.end_keys.Goals as goal

pub returns-then-is_last : goal.returns-then-is_last
returns-then-is_last c = end_last (past c.args.marks.now) c.args.thread _ c.deref.result.now true _ c.in_ok-ups.ensures c.deref.ensures.value (sym c.if-is_last.true ∙ c.is_last.ensures) c.in_ok-keys.ensures

pub returns : goal.returns
returns c = end_last (past c.args.marks.now) c.args.thread _ c.deref.result.now false _ c.in_ok-ups.ensures c.deref.ensures.value (sym c.if-is_last.false ∙ c.is_last.ensures) c.new-none.ensures.items
