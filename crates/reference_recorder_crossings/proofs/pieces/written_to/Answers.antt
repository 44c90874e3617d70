use Rattle.std.proofs.Common.{ℕ, true, subst, arith}
use Rattle.marks.specs.Ranges.{range}
use Rattle.replay_runs.specs.Checks.{Done}
use Rattle.whole_runs.specs.Below.{To, touch_checks}
use Rattle.whole_runs.specs.Tests.{piece_check}
use Rattle.reference_recorder_findings.specs.Findings.{IsFound}
use Rattle.reference_recorder_findings.proofs.Lists.{ok_for}
use Rattle.reference_recorder_crossings.proofs.PieceChecks.{fits, long}
use Rattle.reference_recorder_crossings.proofs.pieces.written_to.Goals as goal

pub returns-then-len-capacity : goal.returns-then-len-capacity
returns-then-len-capacity c = λ w p h. long w p c.args.thread c.args.region c.args.answer.now (let is = c.len_of-len.ensures in omega (arith, is))

pub returns : goal.returns
returns c = λ w p h.
    ok_for c.touched.result (touch_checks w p c.args.thread true (range c.args.region.addr c.len_of-len.result) Done) (piece_check w p c.args.thread (To c.args.region) c.args.answer.now Done)
    (λ o found. fits w p c.args.thread c.args.region c.args.answer.now (let is = c.len_of-len.ensures in omega (arith, is)) o
    (subst (λ (n : ℕ). IsFound (touch_checks w p c.args.thread true (range c.args.region.addr n) Done) o) c.len_of-len.ensures found))
    (c.touched.ensures w p h)
