use Rattle.std.proofs.Common.{refl, sym}
use Rattle.recorder_state.specs.Inputs.{world_of}
use Rattle.reference_recorder_picks.proofs.Picking.{cannot_ended}
use Rattle.reference_recorder_picks.proofs.stepping.started_can_step.Goals as goal

pub want-requires-clause-inside : goal.want-requires-clause-inside
want-requires-clause-inside c = (c.requires.threads c.requires.past).inside

pub returns-in-Ended : goal.returns-in-Ended
returns-in-Ended c = λ p.
    let w = world_of c.args.inputs in
    sym (cannot_ended w c.args.marks.now p c.args.threads.now (c.requires.threads p) c.args.thread c.requires.started c.in-Ended.result (c.in-Ended.ensures w p.run refl (c.requires.threads p)))

pub returns-in-Wants : goal.returns-in-Wants
returns-in-Wants c = λ p. c.gets_on.ensures p (c.in-Wants.ensures (world_of c.args.inputs) p.run refl (c.requires.threads p))
