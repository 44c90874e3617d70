use Rattle.std.proofs.Common.{ℕ, IfOk, subst}
use Rattle.marks.specs.Ranges.{range}
use Rattle.replay_runs.specs.Checks.{Done}
use Rattle.whole_runs.specs.Below.{touch_checks}
use Rattle.reference_recorder_findings.specs.Findings.{IsFound}
use Rattle.reference_recorder_checks.proofs.below.accessed.Goals as goal

pub returns : goal.returns
returns c = λ w p h.
    subst (λ (n : ℕ). IfOk c.touched.result (IsFound (touch_checks w p c.args.thread c.args.write (range c.args.addr n) Done))) c.from-len.ensures (c.touched.ensures w p h)
