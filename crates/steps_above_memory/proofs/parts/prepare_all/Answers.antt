use Rattle.std.proofs.Common.{[], ◌∷◌, map, take, sym, ap, ◌∙◌, subst, arith}
use Rattle.std.proofs.lemmas.List.{take_all}
use Rattle.marks.specs.Ranges.{Prepared}
use Rattle.space_memory_laws.specs.Calls.{prepared_part}
use Rattle.steps_above_memory.specs.Parts.{Adds, RefusesToPrepare, regions_under}
use Rattle.steps_above_memory.proofs.Growing.{adds_next, count_under, region_at}
use Rattle.steps_above_memory.proofs.Preparing.{unprepared_later}
use Rattle.steps_above_memory.proofs.parts.prepare_all.Goals as goal

abbrev none : Prepared
none = record { key = 0; range = record { addr = 0; len = 0 } }

pub returns-in-Err-clause-refused : goal.returns-in-Err-clause-refused
returns-in-Err-clause-refused c =
    let all = regions_under c.args.under.now c.args.ranges.now in
    let one = region_at c.args.under.now c.args.ranges.now c.loop-at.at _ _ none c.requires.keys c.loop-at-test.true in
    let count = count_under c.args.under.now c.args.ranges.now c.requires.keys in
    unprepared_later c.args.thread all c.loop-at.at none c.args.watch.now c.args.spaces.now c.loop-at.spaces c.in-Err.why (omega (arith, c.loop-at-test.true, count)) c.loop-at.invariant.adds
    (subst (λ p. RefusesToPrepare c.args.thread (p ∷ []) c.args.watch.now c.loop-at.spaces c.in-Err.why) (sym one) c.in-Err.ensures.refused)

pub returns-in-Err-clause-stays : goal.returns-in-Err-clause-stays
returns-in-Err-clause-stays c =
    let some = map prepared_part (take c.loop-at.at (regions_under c.args.under.now c.args.ranges.now)) in
    (some, subst (Adds c.args.thread some c.args.watch.now c.args.spaces.now) (sym c.in-Err.ensures.unchanged) c.loop-at.invariant.adds)

pub returns-clause-stays : goal.returns-clause-stays
returns-clause-stays c = (map prepared_part (take c.loop-at.at (regions_under c.args.under.now c.args.ranges.now)), c.loop-at.invariant.adds)

pub returns-clause-adds : goal.returns-clause-adds
returns-clause-adds c =
    let all = regions_under c.args.under.now c.args.ranges.now in
    let count = count_under c.args.under.now c.args.ranges.now c.requires.keys in
    subst (λ ps. Adds c.args.thread ps c.args.watch.now c.args.spaces.now c.loop-at.spaces) (ap (map prepared_part) (take_all c.loop-at.at all (omega (arith, c.loop-at-test.false, count)))) c.loop-at.invariant.adds

pub loop-at-preserved : goal.loop-at-preserved
loop-at-preserved c =
    let all = regions_under c.args.under.now c.args.ranges.now in
    let one = region_at c.args.under.now c.args.ranges.now c.loop-at.at _ _ none c.requires.keys c.loop-at-test.true in
    let count = count_under c.args.under.now c.args.ranges.now c.requires.keys in
    record {
      adds = adds_next c.args.thread prepared_part all c.loop-at.at none c.args.watch.now c.args.spaces.now c.loop-at.spaces c.prepare.new.spaces (omega (arith, c.loop-at-test.true, count)) c.loop-at.invariant.adds
          (subst (λ p. Adds c.args.thread (prepared_part p ∷ []) c.args.watch.now c.loop-at.spaces c.prepare.new.spaces) (sym one) c.in_default.ensures.adds);
      depths = c.prepare.ensures.depths ∙ c.loop-at.invariant.depths;
    }
