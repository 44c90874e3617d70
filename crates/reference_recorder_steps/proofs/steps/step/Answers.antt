use Rattle.recorder_state.specs.Inputs.{world_of}
use Rattle.reference_recorder_given.specs.Given.{shown}
use Rattle.reference_recorder_acts.proofs.Marked.{few_marks}
use Rattle.reference_recorder_steps.specs.Carried.{step_of}
use Rattle.reference_recorder_steps.proofs.Made.{answered_so, made}
use Rattle.reference_recorder_steps.proofs.Reading.{all_there}
use Rattle.reference_recorder_steps.proofs.steps.step.Goals as goal

pub carried_by-requires-clause-answered : goal.carried_by-requires-clause-answered
carried_by-requires-clause-answered c =
    let p = c.requires.at.at.past in
    answered_so (world_of c.args.inputs) p.run c.args.thread c.args.func c.args.args.now (shown c.args.given) (c.requires.given p) c.requires.more

pub carried_by-requires-clause-there : goal.carried_by-requires-clause-there
carried_by-requires-clause-there c =
    all_there (world_of c.args.inputs) c.args.marks.now c.args.thread c.args.indirect c.args.func c.args.args.now c.requires.at

pub next_mark-requires : goal.next_mark-requires
next_mark-requires c =
    few_marks (world_of c.args.inputs) c.args.marks.now c.requires.at.at.past c.requires.at.at.step

pub returns : goal.returns
returns c = λ t.
    made (world_of c.args.inputs) c.args.marks.now c.args.thread c.args.indirect (step_of c.args.func c.args.args.now c.in_ok-carried.carried) t
    (shown c.args.given) (c.requires.given t.at.past) c.in_ok-carried.ensures c.in_ok-act.act c.next_mark.result c.in_ok-act.ensures c.next_mark.ensures
