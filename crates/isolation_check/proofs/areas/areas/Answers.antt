use Rattle.std.proofs.Common.{◌≡◌, ℕ, Option, ap, ◌∙◌}
use Rattle.isolation_check_rows.specs.declared.kind.MentionKind.TheVariants as kinds
use Rattle.isolation_check_rows.specs.declared.sides.Counts.TheVariants as counting
use Rattle.isolation_check_rows.specs.Rows.{counts}
use Rattle.isolation_check_findings.proofs.Adding.{read_first}
use Rattle.isolation_check.specs.Areas.{area_at, area_of}
use Rattle.isolation_check.proofs.Lists.{one_number}
use Rattle.isolation_check.proofs.areas.areas.Goals as goal

same_area : {a b w x y z : Option ℕ} → a ≡ x → b ≡ y → w ≡ z → area_of a b w ≡ area_of x y z
same_area {a} {b} {w} {x} {y} {z} ea eb ew =
    ap (λ (o : Option ℕ). area_of o b w) ea ∙ (ap (λ (o : Option ℕ). area_of x o w) eb ∙ ap (λ (o : Option ℕ). area_of x y o) ew)

pub loop-place-preserved : goal.loop-place-preserved
loop-place-preserved c =
    let above = c.args.sides.above.now in
    let below = c.args.sides.below.now in
    let place = c.loop-place.place in
    let listed = c.functions-functions.result.now in
    let functions = c.args.mentions.now.functions in
    let are = c.functions-functions.ensures in
    let a = read_first kinds.Global (counts above below counting.Above) c.args.count listed functions c.in_ok-above.above.items place
    c.index.result.now c.in_ok-above.ensures are c.loop-place-test.true c.index.ensures in
    let b = read_first kinds.Global (counts above below counting.Below) c.args.count listed functions c.in_ok-below.below.items place
    c.index-in-loop-place.result.now c.in_ok-below.ensures are c.loop-place-test.true c.index-in-loop-place.ensures in
    let w = read_first kinds.Written (counts above below counting.Either) c.args.count listed functions c.in_ok-written.written.items place
    c.index-in-loop-place-2.result.now c.in_ok-written.ensures are c.loop-place-test.true c.index-in-loop-place-2.ensures in
    let is : c.area.result ≡ area_at functions above below place = c.area.ensures ∙ same_area a b w in
    c.in_ok-push.ensures.items ∙ one_number (area_at functions above below) place c.loop-place.areas.items c.area.result c.loop-place.invariant is
