use Rattle.std.proofs.Common.{◌∙◌}
use Rattle.std.proofs.Math.Facts.{Fits-lt-pow}
use Rattle.recorder_events.proofs.Ups.{body, is_started, next_up}
use Rattle.recorder_events.proofs.calls_back.make_up.Goals as goal

pub args-requires : goal.args-requires
args-requires c = is_started _ c.args.state.now c.args.thread c.args.func c.requires

pub make_quiet-requires-clause-next : goal.make_quiet-requires-clause-next
make_quiet-requires-clause-next c = next_up _ c.args.state.now c.args.thread c.args.func c.requires c.in-Ok.args c.from.result (c.in-Ok.ensures ∙ c.args-2.ensures) c.from.ensures

pub make_quiet-requires-clause-event : goal.make_quiet-requires-clause-event
make_quiet-requires-clause-event c = body _ c.args.state.now c.args.thread c.args.func c.requires c.in-Ok.args (c.in-Ok.ensures ∙ c.args-2.ensures) (Fits-lt-pow c.ranges.func)

pub returns-clause-made : goal.returns-clause-made
returns-clause-made c = λ h. c.make_quiet.ensures.made (next_up _ c.args.state.now c.args.thread c.args.func h c.in-Ok.args c.from.result (c.in-Ok.ensures ∙ c.args-2.ensures) c.from.ensures)
