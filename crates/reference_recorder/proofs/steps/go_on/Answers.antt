use Rattle.std.proofs.Common.{sym, ◌∙◌, subst}
use Rattle.recorder_state.specs.Inputs.{world_of}
use Rattle.reference_recorder_given.specs.Given.{shown}
use Rattle.reference_recorder_made.specs.Asking.{asked_func}
use Rattle.reference_recorder.specs.Steps.{ComesNext}
use Rattle.reference_recorder.proofs.Asking.{given_to}
use Rattle.reference_recorder.proofs.Going.{script_ends}
use Rattle.reference_recorder.proofs.steps.go_on.Goals as goal

pub made-requires-clause-given : goal.made-requires-clause-given
made-requires-clause-given c = given_to (world_of c.args.inputs) c.args.marks.now c.args.thread c.args.args.now (asked_func c.args.want) (shown c.args.given) c.requires.given (sym c.lacking.ensures ∙ c.in-None.is)

pub returns-in-Some : goal.returns-in-Some
returns-in-Some c = λ to.
    let w = world_of c.args.inputs in
    subst (ComesNext w c.args.marks.now to.at.past) (sym c.halted.ensures)
    (script_ends w c.args.marks.now c.args.thread c.args.side c.args.args.now c.args.want to.at to.passes (shown c.args.given) (c.requires.given to.at.past) c.in-Some.func (sym c.lacking.ensures ∙ c.in-Some.is))
