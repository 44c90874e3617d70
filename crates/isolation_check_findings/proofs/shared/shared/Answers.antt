use Rattle.std.proofs.Common.{◌≡◌, List, length, ap, ◌∙◌, arith}
use Rattle.c_types_program.specs.declared.global.Global.{Global}
use Rattle.isolation_check_rows.specs.declared.kind.MentionKind.TheVariants as kinds
use Rattle.isolation_check_rows.specs.declared.sides.Counts.TheVariants as counting
use Rattle.isolation_check_rows.specs.Rows.{counts}
use Rattle.isolation_check_findings.specs.Found.{IsSharedAt}
use Rattle.isolation_check_findings.proofs.Adding.{all_below, by_equal, more, read_first, zero_of}
use Rattle.isolation_check_findings.proofs.shared.shared.Goals as goal

pub loop-place-init : goal.loop-place-init
loop-place-init c = zero_of _ _

pub loop-place-preserved : goal.loop-place-preserved
loop-place-preserved c =
    let p = c.args.program.now in
    let above = c.args.sides.above.now in
    let below = c.args.sides.below.now in
    let place = c.loop-place.place in
    let many = length c.globals-count.result.now in
    let listed = c.functions-functions.result.now in
    let functions = c.args.mentions.now.functions in
    let are = c.functions-functions.ensures in
    let a = read_first kinds.Global (counts above below counting.Above) many listed functions c.in_ok-above.above.items place
    c.index.result.now c.in_ok-above.ensures are c.loop-place-test.true c.index.ensures in
    let b = read_first kinds.Global (counts above below counting.Below) many listed functions c.in_ok-below.below.items place
    c.index-in-loop-place.result.now c.in_ok-below.ensures are c.loop-place-test.true c.index-in-loop-place.ensures in
    let w = read_first kinds.Written (counts above below counting.Either) many listed functions c.in_ok-written.written.items place
    c.index-in-loop-place-2.result.now c.in_ok-written.ensures are c.loop-place-test.true c.index-in-loop-place-2.ensures in
    more place (IsSharedAt p functions above below) c.args.found.now.items c.loop-place.found.items c.add.new.found.items c.loop-place.invariant
    (by_equal p place c.index.result.now c.index-in-loop-place.result.now c.index-in-loop-place-2.result.now _ _ _
    c.loop-place.found.items c.add.new.found.items a b w c.in_ok-add.ensures)

pub returns : goal.returns
returns c =
    let end : c.loop-place.place ≡ length c.globals-count.result.now = omega (arith, c.loop-place.auto.place-end, c.loop-place-test.false) in
    all_below c.loop-place.place (length c.args.program.now.globals)
    (IsSharedAt c.args.program.now c.args.mentions.now.functions c.args.sides.above.now c.args.sides.below.now)
    c.args.found.now.items c.loop-place.found.items
    (end ∙ ap (λ (gs : List Global). length gs) c.globals-count.ensures.globals) c.loop-place.invariant
