use Rattle.std.proofs.Common.{◌≡◌, true, List, ℕ, length, sym, ap, ◌∙◌, subst}
use Rattle.marks.specs.declared.side.Side.TheVariants.{System}
use Rattle.marks.specs.Marks.{Enter}
use Rattle.space_memory_laws.specs.FrameMarks.{bytes_with_args}
use Rattle.whole_runs.specs.World.{may_run}
use Rattle.recorder_memory.specs.Steps.{Makes, Refuses}
use Rattle.recorder_memory.specs.Below.{Calling, frame_want}
use Rattle.recorder_memory.proofs.Quiet.{have_stacks}
use Rattle.recorder_below.specs.Frames.{told_of}
use Rattle.recorder_threads.specs.Threads.{args_at}
use Rattle.recorder_state.specs.Inputs.{world_of}
use Rattle.recorder_plain.proofs.Frames.{IsFilled, filled}
use Rattle.recorder_plain.proofs.Breaches.{broken, kept}
use Rattle.recorder_plain.proofs.Steps.{few, is_started}
use Rattle.recorder_below.proofs.Made.{EndsBy, frame_breaks, frame_carries, frame_goes_on, frame_stops, told_frame}
use Rattle.recorder_below.proofs.frames.frame.Goals.{After-args-2}
use Rattle.recorder_below.proofs.frames.frame.Goals as goal

pub returns-then-not-keeps_mode-clause-stopped : goal.returns-then-not-keeps_mode-clause-stopped
returns-then-not-keeps_mode-clause-stopped c =
    let off = broken c.args.tested (may_run c.args.inputs.placed.now System c.args.func) (sym c.keeps_mode.ensures ∙ c.if-not-keeps_mode.true) in
    frame_breaks (world_of c.args.inputs) c.args.state.now c.args.thread c.args.tested c.args.func c.args.size c.requires c.of.result
    (subst (λ r. EndsBy c.args.thread r c.of.result) c.mode_breach.ensures c.of.ensures) off.0 off.1

pub args-requires : goal.args-requires
args-requires c = is_started (world_of c.args.inputs) c.args.state.now c.args.thread System (told_of c.requires.how c.args.func c.args.size) c.requires.at

pub enter_below-entered-requires-clause-in_range : goal.enter_below-entered-requires-clause-in_range
enter_below-entered-requires-clause-in_range c = few (world_of c.args.inputs) c.args.state.now c.args.thread System (told_of c.requires.how c.args.func c.args.size) c.requires.at

pub enter_below-entered-requires-clause-stack : goal.enter_below-entered-requires-clause-stack
enter_below-entered-requires-clause-stack c = have_stacks (world_of c.args.inputs) c.requires.at.reached.past c.args.state.now.memory System c.args.thread c.requires.at.reached.memory (few (world_of c.args.inputs) c.args.state.now c.args.thread System (told_of c.requires.how c.args.func c.args.size) c.requires.at)

fills : (c : After-args-2) → IsFilled (world_of c.args.inputs).laid c.args.func c.args.size (args_at c.args.state.now.threads c.args.thread) c.as_slice.result.now c.as_slice-2.result.now
fills c = filled (world_of c.args.inputs).laid c.requires.at.reached.fit.code.valid c.args.func c.args.size (args_at c.args.state.now.threads c.args.thread)
    (frame_carries (world_of c.args.inputs) c.args.state.now c.args.thread c.args.tested c.args.func c.args.size c.requires) (told_frame (world_of c.args.inputs) c.args.state.now c.args.thread c.args.tested c.args.func c.args.size c.requires).1 c.as_slice.result.now c.as_slice-2.result.now
    (c.as_slice.ensures.value ∙ c.of-places.ensures.offsets) (c.as_slice-2.ensures.value ∙ c.of-places.ensures.widths)

pub enter_below-entered-requires-clause-widths : goal.enter_below-entered-requires-clause-widths
enter_below-entered-requires-clause-widths c = (fills (goal.at.enter_below-entered-requires-clause-widths c).After-args-2).widths_count

pub enter_below-entered-requires-clause-args : goal.enter_below-entered-requires-clause-args
enter_below-entered-requires-clause-args c = ap length c.args-2.ensures ∙ (fills (goal.at.enter_below-entered-requires-clause-args c).After-args-2).args_count

pub enter_below-entered-requires-clause-in_frame : goal.enter_below-entered-requires-clause-in_frame
enter_below-entered-requires-clause-in_frame c = (fills (goal.at.enter_below-entered-requires-clause-in_frame c).After-args-2).in_frame

may : (c : After-args-2) → c.args.tested ≡ true → may_run c.args.inputs.placed.now System c.args.func ≡ true
may c = kept c.args.tested (may_run c.args.inputs.placed.now System c.args.func) (sym c.keeps_mode.ensures ∙ c.if-not-keeps_mode.false)

pub go_on-requires : goal.go_on-requires
go_on-requires c =
    let d = (goal.at.go_on-requires c).After-args-2 in
    frame_goes_on (world_of c.args.inputs) c.args.state.now c.args.thread c.args.tested c.args.func c.args.size c.requires (may d) c.as_slice.result.now c.as_slice-2.result.now (fills d) c.in-Ok.frame c.enter_below-entered.new.self
    (subst (λ xs. (how : Calling) (g : ℕ) (vs : List ℕ) → Makes c.args.state.now.memory c.args.thread System (frame_want how g vs (bytes_with_args c.args.size c.as_slice.result.now c.as_slice-2.result.now xs)) (Enter g vs c.in-Ok.frame (bytes_with_args c.args.size c.as_slice.result.now c.as_slice-2.result.now xs)) c.enter_below-entered.new.self)
    c.args-2.ensures c.in-Ok.ensures.entered)

pub returns-in-Err-clause-stopped : goal.returns-in-Err-clause-stopped
returns-in-Err-clause-stopped c =
    let d = (goal.at.returns-in-Err-clause-stopped c).After-args-2 in
    frame_stops (world_of c.args.inputs) c.args.state.now c.args.thread c.args.tested c.args.func c.args.size c.requires (may d) c.as_slice.result.now c.as_slice-2.result.now (fills d) c.in-Err.refusal c.of-in-Err.result c.enter_below-entered.new.self c.of-in-Err.ensures
    (subst (λ xs. (how : Calling) (g : ℕ) (vs : List ℕ) → Refuses c.args.state.now.memory c.args.thread System (frame_want how g vs (bytes_with_args c.args.size c.as_slice.result.now c.as_slice-2.result.now xs)) c.in-Err.refusal)
    c.args-2.ensures c.in-Err.ensures.refused) c.in-Err.ensures.unchanged
