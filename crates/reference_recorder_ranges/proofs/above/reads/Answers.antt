use Rattle.std.proofs.Common.{false, [], get_or, Some, None, refl, arith}
use Rattle.marks.specs.declared.range.Range.{Range}
use Rattle.replay_runs.specs.Checks.{Done, range_checks}
use Rattle.whole_runs.specs.World.{begin}
use Rattle.whole_runs.specs.Sides.{seen}
use Rattle.reference_recorder_findings.proofs.Lists.{found_is}
use Rattle.reference_recorder_findings.proofs.Ranges.{all_read, read_found, read_passed}
use Rattle.reference_recorder_ranges.proofs.above.reads.Goals as goal

abbrev none : Range
none = record { addr = 0; len = 0 }

pub loop-one-init : goal.loop-one-init
loop-one-init c = λ w p h o found. found

pub returns-in-Some : goal.returns-in-Some
returns-in-Some c = λ w p h.
    let one : Range = get_or c.args.ranges.now c.loop-one.one-index none in
    read_found (begin w) (seen p) c.args.thread c.args.ranges.now c.loop-one.one-index one none c.in-Some.found (omega arith) refl (c.loop-one.invariant w p h)
    (found_is (range_checks (begin w) (seen p) c.args.thread false [] one Done) c.in_ok-found.field-0 (Some c.in-Some.found) c.in-Some.is (c.in_ok-found.ensures w p h))

pub loop-one-preserved : goal.loop-one-preserved
loop-one-preserved c = λ w p h.
    let one : Range = get_or c.args.ranges.now c.loop-one.one-index none in
    read_passed (begin w) (seen p) c.args.thread c.args.ranges.now c.loop-one.one-index one none (omega arith) refl (c.loop-one.invariant w p h)
    (found_is (range_checks (begin w) (seen p) c.args.thread false [] one Done) c.in_ok-found.field-0 None c.in_default.is (c.in_ok-found.ensures w p h))

pub returns : goal.returns
returns c = λ w p h. all_read (begin w) (seen p) c.args.thread c.args.ranges.now c.loop-one.one-index (omega arith) (c.loop-one.invariant w p h)
