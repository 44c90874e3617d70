use Rattle.std.proofs.Common.{true, take, get_or, Some, None, refl, arith}
use Rattle.marks.specs.declared.range.Range.{Range}
use Rattle.replay_runs.specs.Checks.{Done, range_checks}
use Rattle.whole_runs.specs.World.{begin}
use Rattle.whole_runs.specs.Sides.{seen}
use Rattle.reference_recorder_findings.proofs.Lists.{found_is}
use Rattle.reference_recorder_findings.proofs.Ranges.{all_held, hold_found}
use Rattle.reference_recorder_ranges.proofs.HeldRanges.{one_held}
use Rattle.reference_recorder_ranges.proofs.above.holds.Goals as goal

abbrev none : Range
none = record { addr = 0; len = 0 }

pub loop-at-init : goal.loop-at-init
loop-at-init c = λ w p h o found. found

pub returns-in-Some : goal.returns-in-Some
returns-in-Some c = λ w p h.
    let one : Range = get_or c.args.ranges.now c.loop-at.at none in
    hold_found (begin w) (seen p) c.args.thread c.args.ranges.now c.loop-at.at one none (take c.loop-at.at c.args.ranges.now) c.in-Some.found (omega arith) refl (c.loop-at.invariant w p h)
    (found_is (range_checks (begin w) (seen p) c.args.thread true (take c.loop-at.at c.args.ranges.now) one Done) c.in_ok-found.field-0 (Some c.in-Some.found) c.in-Some.is (c.in_ok-found.ensures w p h))

pub loop-at-preserved : goal.loop-at-preserved
loop-at-preserved c = λ w p h.
    let one : Range = get_or c.args.ranges.now c.loop-at.at none in
    one_held (begin w) (seen p) c.args.thread c.args.ranges.now c.loop-at.at one none (omega arith) refl (c.loop-at.invariant w p h)
    (found_is (range_checks (begin w) (seen p) c.args.thread true (take c.loop-at.at c.args.ranges.now) one Done) c.in_ok-found.field-0 None c.in_default.is (c.in_ok-found.ensures w p h))

pub returns : goal.returns
returns c = λ w p h. all_held (begin w) (seen p) c.args.thread c.args.ranges.now c.loop-at.at (take c.loop-at.at c.args.ranges.now) (omega arith) (c.loop-at.invariant w p h)
