use Rattle.std.proofs.Common.{refl}
use Rattle.std.proofs.lemmas.Result.{IfOk-weaker}
use Rattle.recorder_state.specs.Inputs.{world_of}
use Rattle.reference_recorder_events.proofs.Numbered.{event_made_as}
use Rattle.reference_recorder_events.proofs.Frees.{can_be_free}
use Rattle.reference_recorder_events.proofs.pool.free_block.Goals as goal

pub returns : goal.returns
returns c =
    let w = world_of c.args.inputs in
    let marks = c.args.marks.now in
    let t = c.args.thread in
    IfOk-weaker c.next_event.result _ _
    (λ m n args to. event_made_as w marks to.at.past to.at.step t to.at.of_thread _ _ m n
    (can_be_free w marks t c.args.addr args to c.block_size-size.result (c.block_size-size.ensures w refl)) tt)
    c.next_event.ensures
