use Rattle.std.proofs.Common.{◌≤◌, List, length, get_or, subst, arith}
use Rattle.std.proofs.lemmas.List.{take_all}
use Rattle.std.proofs.lemmas.List.{get_or_default}
use Rattle.marks.specs.declared.range.Range.{Range}
use Rattle.marks.specs.Ranges.{any_range}
use Rattle.reference_recorder_races.specs.Least.{IsLeastAt}
use Rattle.reference_recorder_races.specs.Hits.{reading}
use Rattle.reference_recorder_races.proofs.Anys.{none_read, ranges_read}
use Rattle.reference_recorder_races.proofs.lists.read_ranges.Goals as goal

abbrev none_there : Range
none_there = record { addr = 0; len = 0 }

pub loop-range-init : goal.loop-range-init
loop-range-init c = none_read c.args.tested

pub loop-range-preserved : goal.loop-range-preserved
loop-range-preserved c = ranges_read c.args.tested c.args.ranges.now c.loop-range.range-index (get_or c.args.ranges.now c.loop-range.range-index none_there) c.loop-range-test.true (get_or_default c.args.ranges.now c.loop-range.range-index none_there _ c.loop-range-test.true) c.loop-range.best c.read-more.result c.least-best.result c.least-best.ensures c.loop-range.invariant c.read-more.ensures

pub returns : goal.returns
returns c =
    let le : length c.args.ranges.now ≤ c.loop-range.range-index = omega arith in
    subst (λ (xs : List Range). IsLeastAt (λ x. reading c.args.tested x (any_range xs x)) c.loop-range.best) (take_all c.loop-range.range-index c.args.ranges.now le) c.loop-range.invariant
