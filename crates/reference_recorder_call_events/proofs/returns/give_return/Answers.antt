use Rattle.std.proofs.Common.{ap, ◌∙◌}
use Rattle.std.proofs.lemmas.Result.{IfOk-weaker}
use Rattle.whole_runs.specs.Below.{pieces_for}
use Rattle.recorder_state.specs.Inputs.{world_of}
use Rattle.reference_recorder_targets.specs.Places.{targets_of}
use Rattle.reference_recorder_given.specs.Given.{shown}
use Rattle.reference_recorder_call_events.proofs.Gives.{give_made, give_region}
use Rattle.reference_recorder_call_events.proofs.returns.give_return.Goals as goal

pub return_mark-requires-clause-region : goal.return_mark-requires-clause-region
return_mark-requires-clause-region c =
    give_region (world_of c.args.inputs) c.args.marks.now c.args.thread c.args.func c.args.args.now (shown c.args.given) c.requires c.in-Says.result c.in-Says.pieces.now
    (ap shown c.in-Says.is)

pub returns : goal.returns
returns c = λ g.
    let w = world_of c.args.inputs in
    let pieces = c.in-Says.pieces.now in
    IfOk-weaker c.return_mark.result _ _
    (λ mark of. give_made _ c.args.thread c.args.func c.args.args.now (shown c.args.given) g c.in-Says.result pieces (ap shown c.in-Says.is)
    (c.deref-2.ensures.value ∙ (c.in_ok-answer.ensures ∙ ap (λ xs. pieces_for xs pieces) (ap targets_of c.deref.ensures.value ∙ c.in_ok-targets.ensures w c.annotations.ensures)))
    (c.bytes_are_low.ensures w c.args.marks.now g.next.at.past) mark of)
    c.return_mark.ensures
