use Rattle.std.proofs.Common.{sym, ◌∙◌}
use Rattle.recorder_events.proofs.Few.{thread_few}
use Rattle.recorder_events.proofs.UpReturns.{with_frame, with_none}
use Rattle.recorder_events.proofs.calls_back.make_up_return.Goals as goal

pub top-requires : goal.top-requires
top-requires c = let h = c.requires in thread_few _ h.reached.fit h.reached.past h.step c.args.thread h.thread

pub make_quiet-requires-clause-next : goal.make_quiet-requires-clause-next
make_quiet-requires-clause-next c = with_frame _ c.args.state.now c.args.thread c.args.value c.requires c.in-Some.field-0 (sym c.top.ensures.top ∙ c.in-Some.is)

pub returns-in-Some-clause-made : goal.returns-in-Some-clause-made
returns-in-Some-clause-made c = λ h. c.make_quiet.ensures.made (with_frame _ c.args.state.now c.args.thread c.args.value h c.in-Some.field-0 (sym c.top.ensures.top ∙ c.in-Some.is))

pub make_quiet-requires-2-clause-next : goal.make_quiet-requires-2-clause-next
make_quiet-requires-2-clause-next c = with_none _ c.args.state.now c.args.thread c.args.value c.requires c.from.result c.from.ensures (sym c.top.ensures.top ∙ c.in_default.is)

pub returns-clause-made : goal.returns-clause-made
returns-clause-made c = λ h. c.make_quiet-2.ensures.made (with_none _ c.args.state.now c.args.thread c.args.value h c.from.result c.from.ensures (sym c.top.ensures.top ∙ c.in_default.is))
