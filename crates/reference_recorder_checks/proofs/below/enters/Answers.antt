use Rattle.marks.specs.declared.side.Side.TheVariants.{System}
use Rattle.replay_runs.specs.Checks.{indirect_check}
use Rattle.whole_runs.specs.World.{interface}
use Rattle.whole_runs.specs.Tests.{full_check}
use Rattle.reference_recorder_findings.proofs.Lists.{ok_for}
use Rattle.reference_recorder_checks.proofs.Modes.{rightly, wrongly}
use Rattle.reference_recorder_checks.proofs.below.enters.Goals as goal

pub returns-in-Some : goal.returns-in-Some
returns-in-Some c = λ w p h.
    wrongly (interface w) System c.args.through_pointer c.args.func (full_check w p c.args.thread c.args.size) c.in-Some.found (c.in-Some.ensures w h.is.placed)

pub returns : goal.returns
returns c = λ w p h.
    ok_for c.full.result (full_check w p c.args.thread c.args.size) (indirect_check (interface w) c.args.through_pointer System c.args.func (full_check w p c.args.thread c.args.size))
    (rightly (interface w) System c.args.through_pointer c.args.func (full_check w p c.args.thread c.args.size) (c.in_default.ensures w h.is.placed))
    (c.full.ensures w p h.is)
