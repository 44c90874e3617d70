use Rattle.std.proofs.Common.{◌∙◌}
use Rattle.std.proofs.lemmas.Result.{IfOk-weaker}
use Rattle.recorder_state.specs.Inputs.{world_of}
use Rattle.reference_recorder_events.proofs.Numbered.{event_made_as}
use Rattle.reference_recorder_events.proofs.Allocs.{can_be_alloc}
use Rattle.reference_recorder_events.proofs.pool.alloc_block.Goals as goal

pub returns : goal.returns
returns c =
    let w = world_of c.args.inputs in
    let marks = c.args.marks.now in
    let t = c.args.thread in
    IfOk-weaker c.next_event.result _ _
    (λ m n args to. event_made_as w marks to.at.past to.at.step t to.at.of_thread _ _ m n
    (can_be_alloc w marks t c.args.size args to c.deref.result.now c.place_in-at.result (c.deref.ensures.value ∙ c.in_ok-blocks.ensures w) c.place_in-at.ensures) tt)
    c.next_event.ensures
