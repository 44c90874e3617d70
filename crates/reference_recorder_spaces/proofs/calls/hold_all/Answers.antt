use Rattle.std.proofs.Common.{refl, ◌∙◌}
use Rattle.space_memory_laws.specs.Calls.{Holds}
use Rattle.reference_recorder_spaces.proofs.Parts.{next_item}
use Rattle.reference_recorder_spaces.proofs.Calling.{adds_all, adds_next, adds_none}
use Rattle.reference_recorder_spaces.proofs.calls.hold_all.Goals as goal

pub loop-range-init : goal.loop-range-init
loop-range-init c = record { adds = adds_none c.args.thread c.args.spaces.now; depths = refl }

pub loop-range-preserved : goal.loop-range-preserved
loop-range-preserved c = record {
  adds = adds_next c.args.thread Holds c.args.ranges.now c.loop-range.range-index (record { addr = 0; len = 0 }) c.args.spaces.now c.loop-range.spaces c.hold.new.spaces c.loop-range-test.true c.loop-range.invariant.adds c.in_ok-hold.ensures.adds;
  depths = c.hold.ensures.depths ∙ c.loop-range.invariant.depths;
}

pub returns-clause-adds : goal.returns-clause-adds
returns-clause-adds c = adds_all c.args.thread Holds c.args.ranges.now c.loop-range.range-index c.args.spaces.now c.loop-range.spaces c.loop-range-test.false c.loop-range.invariant.adds

pub hold-requires-clause-next : goal.hold-requires-clause-next
hold-requires-clause-next c =
    next_item c.args.thread Holds c.args.ranges.now c.loop-range.range-index (record { addr = 0; len = 0 }) c.args.spaces.now c.loop-range.spaces c.loop-range-test.true c.requires.next c.loop-range.invariant.adds
