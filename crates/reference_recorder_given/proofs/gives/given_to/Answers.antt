use Rattle.std.proofs.Common.{◌∙◌, ap}
use Rattle.whole_runs.specs.Below.{given_by}
use Rattle.recorder_state.specs.Inputs.{world_of}
use Rattle.reference_recorder_given.specs.Given.{given_by_builtin}
use Rattle.reference_recorder_given.proofs.Giving.{answers_are, gives_is}
use Rattle.reference_recorder_given.proofs.gives.given_to.Goals as goal

pub returns-in-Some : goal.returns-in-Some
returns-in-Some c = λ p.
    let w = world_of c.args.inputs in
    let t = c.args.thread in
    c.by_builtin.ensures p
    ∙ (ap (λ k. given_by_builtin w p.run t k c.in-Some.builtin) c.first.ensures
    ∙ (gives_is w p.run t c.args.func c.args.args.now c.in-Some.builtin ∙ ap (given_by w p.run t c.args.func c.args.args.now) c.in-Some.ensures))

pub returns-in-None : goal.returns-in-None
returns-in-None c = λ p.
    let w = world_of c.args.inputs in
    c.by_file.ensures
    ∙ (answers_are w c.args.marks.now p c.args.func
    ∙ ap (given_by w p.run c.args.thread c.args.func c.args.args.now) c.in-None.ensures)
