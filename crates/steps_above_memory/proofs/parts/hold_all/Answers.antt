use Rattle.std.proofs.Common.{map, take, sym, ap, ◌∙◌, subst, arith}
use Rattle.std.proofs.lemmas.List.{take_all}
use Rattle.marks.specs.declared.range.Range.{Range}
use Rattle.space_memory_laws.specs.Calls.{held_part}
use Rattle.steps_above_memory.specs.Parts.{Adds}
use Rattle.steps_above_memory.proofs.Calling.{refused_later}
use Rattle.steps_above_memory.proofs.Growing.{adds_next}
use Rattle.steps_above_memory.proofs.parts.hold_all.Goals as goal

pub returns-in-Err-clause-refused : goal.returns-in-Err-clause-refused
returns-in-Err-clause-refused c =
    let none : Range = record { addr = 0; len = 0 } in
    refused_later c.args.thread c.args.write c.args.ranges.now c.loop-range.range-index none c.args.watch.now c.args.spaces.now c.loop-range.spaces c.in-Err.refusal c.loop-range-test.true c.loop-range.invariant.adds c.in-Err.ensures.refused

pub returns-in-Err-clause-stays : goal.returns-in-Err-clause-stays
returns-in-Err-clause-stays c =
    let some = map (held_part c.args.write) (take c.loop-range.range-index c.args.ranges.now) in
    (some, subst (Adds c.args.thread some c.args.watch.now c.args.spaces.now) (sym c.in-Err.ensures.unchanged) c.loop-range.invariant.adds)

pub returns-clause-stays : goal.returns-clause-stays
returns-clause-stays c = (map (held_part c.args.write) (take c.loop-range.range-index c.args.ranges.now), c.loop-range.invariant.adds)

pub returns-clause-adds : goal.returns-clause-adds
returns-clause-adds c =
    let all = ap (map (held_part c.args.write)) (take_all c.loop-range.range-index c.args.ranges.now (omega (arith, c.loop-range-test.false))) in
    subst (λ ps. Adds c.args.thread ps c.args.watch.now c.args.spaces.now c.loop-range.spaces) all c.loop-range.invariant.adds

pub loop-range-preserved : goal.loop-range-preserved
loop-range-preserved c =
    let none : Range = record { addr = 0; len = 0 } in
    record {
      adds = adds_next c.args.thread
          (held_part c.args.write) c.args.ranges.now c.loop-range.range-index none c.args.watch.now c.args.spaces.now c.loop-range.spaces c.hold.new.spaces c.loop-range-test.true c.loop-range.invariant.adds c.in_default.ensures.adds;
      depths = c.hold.ensures.depths ∙ c.loop-range.invariant.depths;
    }
