use Rattle.std.proofs.Common.{◌≤◌, sym, subst, arith}
use Rattle.recorder_state.specs.declared.state.RunState.{RunState}
use Rattle.recorder_state.specs.Inputs.{world_of}
use Rattle.recorder_state.specs.Stands.{IsReached}
use Rattle.recorder.proofs.recording.run.Goals.{in-Some, in_default}
use Rattle.recorder.proofs.recording.run.Goals as goal

pub next-requires : goal.next-requires
next-requires c =
    let w = world_of c.args.inputs in
    elim c.match-next_access.branch [
      | in-Some b ↦ subst (λ (z : RunState). IsReached w z) (sym b.state-is) b.make_accesses.ensures.reached
      | in_default b ↦ subst (λ (z : RunState). IsReached w z) (sym b.state-is) c.steps.invariant
    ]

pub steps-smaller : goal.steps-smaller
steps-smaller c =
    let first = c.steps.state.steps in
    let more : first ≤ c.match-next_access.state.steps = elim c.match-next_access.branch [
      | in-Some b ↦ subst (λ (z : RunState). first ≤ z.steps) (sym b.state-is) b.make_accesses.ensures.steps
      | in_default b ↦ subst (λ (z : RunState). first ≤ z.steps) (sym b.state-is) (omega arith)
    ] in
    let same = c.next.ensures.steps in
    let at = c.in-Step.ensures.turn in
    let few = at.step.goes_on.in_budget in
    let count = at.reached.steps in
    let one = c.in_default-step.ensures.steps in
    omega (arith, more, same, few, count, one)
