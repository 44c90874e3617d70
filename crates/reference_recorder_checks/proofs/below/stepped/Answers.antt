use Rattle.marks.specs.declared.side.Side.TheVariants.{System}
use Rattle.replay_runs.specs.Checks.{indirect_check}
use Rattle.whole_runs.specs.World.{interface}
use Rattle.whole_runs.specs.Outcomes.{builtin_of}
use Rattle.whole_runs.specs.Tests.{step_checks}
use Rattle.reference_recorder_findings.proofs.Lists.{ok_for}
use Rattle.reference_recorder_checks.proofs.Modes.{rightly, wrongly}
use Rattle.reference_recorder_checks.proofs.below.stepped.Goals as goal

pub returns-in-Some : goal.returns-in-Some
returns-in-Some c = λ w p h a g.
    wrongly (interface w) System c.args.through_pointer c.args.func (step_checks w p c.args.thread c.args.func c.args.args.now (builtin_of c.args.func)) c.in-Some.found
    (c.in-Some.ensures w h.is.placed)

pub returns : goal.returns
returns c = λ w p h a g.
    let rest = step_checks w p c.args.thread c.args.func c.args.args.now (builtin_of c.args.func) in
    ok_for c.steps.result rest (indirect_check (interface w) c.args.through_pointer System c.args.func rest)
    (rightly (interface w) System c.args.through_pointer c.args.func rest (c.in_default.ensures w h.is.placed)) (c.steps.ensures w p h a g)
