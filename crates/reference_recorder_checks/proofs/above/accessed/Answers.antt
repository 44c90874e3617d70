use Rattle.std.proofs.Common.{ℕ, [], IfOk, subst}
use Rattle.marks.specs.Ranges.{range}
use Rattle.replay_runs.specs.Checks.{Done, range_checks}
use Rattle.whole_runs.specs.World.{begin}
use Rattle.whole_runs.specs.Sides.{seen}
use Rattle.reference_recorder_findings.specs.Findings.{IsFound}
use Rattle.reference_recorder_checks.proofs.above.accessed.Goals as goal

pub returns : goal.returns
returns c = λ w p h.
    subst (λ (n : ℕ). IfOk c.range.result (IsFound (range_checks (begin w) (seen p) c.args.thread c.args.write [] (range c.args.addr n) Done))) c.from-len.ensures (c.range.ensures w p h)
