use Rattle.std.proofs.Common.{sym, ap, ◌∙◌, arith}
use Rattle.run_events.specs.declared.event.Event.TheVariants as logged
use Rattle.marks.specs.declared.side.Side.TheVariants.{Replay}
use Rattle.recorder_threads.specs.declared.wants.Want.TheVariants as wants
use Rattle.recorder_state.specs.Inputs.{world_of}
use Rattle.recorder_plain.proofs.Steps.{is_started}
use Rattle.recorder_calls.proofs.Next.{next}
use Rattle.recorder_calls.proofs.calls.call_filled.Goals as goal

pub args-requires : goal.args-requires
args-requires c = is_started (world_of c.args.inputs) c.args.state.now c.args.thread Replay (wants.Call c.requires.indirect c.args.func) c.requires.at

pub call_said-requires : goal.call_said-requires
call_said-requires c =
    next (world_of c.args.inputs) c.args.state.now c.args.thread c.args.func c.args.calling.now c.requires c.regions-regions.result c.regions-regions.ensures _ _
    c.as_slice-keys.ensures.value (ap (logged.Call c.args.func) (sym (c.in-Ok.ensures ∙ c.args-2.ensures))) (omega arith)
