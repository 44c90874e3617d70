use Rattle.std.proofs.Common.{arith}
use Rattle.std.proofs.lemmas.Result.{IfOk-weaker}
use Rattle.space_memory_laws.specs.Starts.{placed_byte}
use Rattle.recorder_state.specs.Inputs.{world_of}
use Rattle.reference_recorder_events.proofs.Numbered.{event_made_as}
use Rattle.reference_recorder_events.proofs.UpReturns.{can_be_first, is_open}
use Rattle.reference_recorder_events.proofs.calls_back.up_return.Goals as goal

pub index-func-requires : goal.index-func-requires
index-func-requires c =
    let w = world_of c.args.inputs in
    let ups = c.in_ok-ups.ups in
    let some = is_open w c.args.marks.now c.args.thread c.args.value c.requires.0 c.requires.1 ups.items (c.in_ok-ups.ensures (placed_byte w.laid.placed)) in
    omega (arith, some, ups.ok.0)

pub returns : goal.returns
returns c =
    let w = world_of c.args.inputs in
    let marks = c.args.marks.now in
    let t = c.args.thread in
    let func = c.index-func.result.now in
    IfOk-weaker c.next_event.result _ _
    (λ m n args to. event_made_as w marks to.at.past to.at.step t to.at.of_thread _ _ m n
    (can_be_first w marks t c.args.value args to c.in_ok-ups.ups.items (c.in_ok-ups.ensures (placed_byte w.laid.placed)) func func c.index-func.ensures) tt)
    c.next_event.ensures
