use Rattle.std.proofs.Common.{◌≡◌, ◌<◌, ◌≤◌, arith, sym}
use Rattle.whole_runs.specs.Outcomes.{started}
use Rattle.recorder_state.specs.Inputs.{world_of}
use Rattle.reference_recorder_picks.proofs.Picking.{few, many, other_past, other_same, other_there}
use Rattle.reference_recorder_picks.proofs.free.other.Goals as goal

pub overflow_cast-other : goal.overflow_cast-other
overflow_cast-other c =
    let le = few (world_of c.args.inputs) c.args.marks.now c.requires.past c.args.threads.now (c.requires.threads c.requires.past) in
    omega (arith, le)

pub returns-then-number-count-clause-other : goal.returns-then-number-count-clause-other
returns-then-number-count-clause-other c = λ p.
    let n = many (world_of c.args.inputs) c.args.marks.now p c.args.threads.now (c.requires.threads p) in
    let le : started p.run ≤ c.args.number = omega (arith, n) in
    sym (other_past p.run c.args.thread c.args.number le)

pub returns-then-number-own-clause-other : goal.returns-then-number-own-clause-other
returns-then-number-own-clause-other c = λ p. let same : c.args.number ≡ c.args.thread = omega arith in sym (other_same p.run c.args.thread c.args.number same)

pub returns-clause-other : goal.returns-clause-other
returns-clause-other c = λ p.
    let n = many (world_of c.args.inputs) c.args.marks.now p c.args.threads.now (c.requires.threads p) in
    let lt : c.args.number < started p.run = omega (arith, n) in
    sym (other_there p.run c.args.thread c.args.number lt (λ e. omega (arith, e)))
