use Rattle.std.proofs.Common.{◌≡◌, ◌+◌, ◌-◌, ◌<◌, suc, ◌∙◌, sym, ap, arith}
use Rattle.whole_runs.specs.Picks.{can_step as can_step_in}
use Rattle.recorder_state.specs.Inputs.{world_of}
use Rattle.reference_recorder_picks.proofs.Picking.{found, found_here, found_on}
use Rattle.reference_recorder_picks.proofs.stepping.first_in.Goals as goal

pub returns-then-can_step : goal.returns-then-can_step
returns-then-can_step c = λ p.
    let w = world_of c.args.inputs in
    let lt : 0 < c.args.end - c.loop-thread.thread = omega arith in
    sym (c.loop-thread.invariant p ∙ found_here (can_step_in w p.run) c.loop-thread.thread (c.args.end - c.loop-thread.thread) lt (sym (c.can_step.ensures p) ∙ c.if-can_step.true))

pub loop-thread-preserved : goal.loop-thread-preserved
loop-thread-preserved c = λ p.
    let w = world_of c.args.inputs in
    let one : c.args.end - c.loop-thread.thread ≡ suc (c.args.end - (c.loop-thread.thread + 1)) = omega arith in
    c.loop-thread.invariant p ∙ found_on (can_step_in w p.run) c.loop-thread.thread (c.args.end - c.loop-thread.thread) (c.args.end - (c.loop-thread.thread + 1)) one (sym (c.can_step.ensures p) ∙ c.if-can_step.false)

pub returns : goal.returns
returns c = λ p.
    let w = world_of c.args.inputs in
    let none : c.args.end - c.loop-thread.thread ≡ 0 = omega arith in
    sym (c.loop-thread.invariant p ∙ ap (found (can_step_in w p.run) c.loop-thread.thread) none)
