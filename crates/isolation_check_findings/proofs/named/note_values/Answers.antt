use Rattle.std.proofs.Common.{◌∙◌, get_or, refl, arith}
use Rattle.std.specs.Prelude.{None}
use Rattle.isolation_check_findings.proofs.Noted.{by_last, by_next}
use Rattle.isolation_check_findings.proofs.named.note_values.Goals as goal

pub loop-place-preserved : goal.loop-place-preserved
loop-place-preserved c =
    let ts = c.args.tables.now in
    let vs = c.args.values.now in
    let i = c.loop-place.place in
    let v = c.index-values-place.result in
    λ q h. c.loop-place.invariant q
    (by_next c.args.function i ts vs (get_or ts i None) None c.as_slice.result.now v
    c.loop-place.row.items c.note_value.new.row.items q (omega (arith, c.loop-place-test.true, c.requires)) c.loop-place-test.true refl
    (c.as_slice.ensures.items ∙ c.index-values-place.is) c.note_value.ensures.size c.note_value.ensures.entries h)

pub returns : goal.returns
returns c =
    c.loop-place.invariant _ (by_last c.args.function c.loop-place.place c.args.tables.now c.args.values.now c.loop-place.row.items
    (omega (arith, c.loop-place-test.false, c.requires)) c.loop-place-test.false)
