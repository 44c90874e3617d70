use Rattle.std.proofs.Common.{refl, sym, ap, ◌∙◌, subst}
use Rattle.whole_runs.specs.Outcomes.{builtin_of}
use Rattle.whole_runs.specs.Below.{pieces_for}
use Rattle.whole_runs.specs.Steps.{read_by}
use Rattle.recorder_state.specs.Inputs.{world_of}
use Rattle.reference_recorder_given.specs.Given.{shown}
use Rattle.reference_recorder_targets.specs.Places.{targets_of}
use Rattle.reference_recorder_steps.specs.Carried.{step_of}
use Rattle.reference_recorder_steps.specs.Reads.{AreRead}
use Rattle.reference_recorder_steps.proofs.Made.{result_given}
use Rattle.reference_recorder_steps.proofs.answers.answer.Goals as goal

pub returns : goal.returns
returns c =
    let w = world_of c.args.inputs in
    result_given w c.args.marks.now
    (step_of c.args.func c.args.args.now (record { result = c.in-Says.result; ins = c.from.result; pieces = c.from-2.result; freed = c.new.result }))
    (shown c.args.given) c.in-Says.result c.in-Says.pieces.now (ap shown c.in-Says.is) refl
    (subst (AreRead w c.args.marks.now (read_by w c.args.func c.args.args.now (builtin_of c.args.func))) (sym c.from.ensures) c.in_ok-ins.ensures)
    (c.from-2.ensures ∙ (c.in_ok-written.ensures
    ∙ ap (λ xs. pieces_for xs c.in-Says.pieces.now) (ap targets_of c.deref.ensures.value ∙ c.in_ok-places.ensures w c.annotations_of-annotations.ensures)))
    c.new.ensures
