use Rattle.std.proofs.Common.{Some, sym, ap, ◌∙◌, subst}
use Rattle.std.specs.Prelude.{IfOk}
use Rattle.recorder_state.specs.Inputs.{world_of}
use Rattle.reference_recorder_marks.specs.Marks.{past}
use Rattle.reference_recorder_given.specs.Given.{shown}
use Rattle.reference_recorder_steps.specs.Carried.{IsStepGiven, step_of}
use Rattle.reference_recorder_steps.proofs.steps.carried_by.Goals as goal

pub returns-in-Some-Malloc : goal.returns-in-Some-Malloc
returns-in-Some-Malloc c =
    subst (λ o. IfOk c.allocation.result (λ x. IsStepGiven (world_of c.args.inputs) (past c.args.marks.now) (step_of c.args.func c.args.args.now x) (shown c.args.given) o))
    (sym (sym c.builtin_of.ensures ∙ (c.in-Some-Malloc.is ∙ ap (λ b. Some b) c.in-Some-Malloc.field-0-is)))
    (c.allocation.ensures c.args.func)

pub returns-in-Some-Free : goal.returns-in-Some-Free
returns-in-Some-Free c =
    subst (λ o. IfOk c.release.result (λ x. IsStepGiven (world_of c.args.inputs) (past c.args.marks.now) (step_of c.args.func c.args.args.now x) (shown c.args.given) o))
    (sym (sym c.builtin_of.ensures ∙ (c.in-Some-Free.is ∙ ap (λ b. Some b) c.in-Some-Free.field-0-is)))
    (c.release.ensures c.args.func)
