use Rattle.std.proofs.Common.{◌≡◌, ◌+◌, ◌<◌, ℕ, Bool, true, List, length, sym, ap, ◌∙◌, subst, arith}
use Rattle.std.specs.Prelude.{◌↔◌, Option, is_some}
use Rattle.c_builtins.specs.Table.{first_source_function}
use Rattle.c_types_program.specs.declared.function.Function.{Function}
use Rattle.cut_graph_rules.specs.MayRun.{Names}
use Rattle.isolation_check_rows.specs.Rows.{entry}
use Rattle.isolation_check_findings.specs.Found.{IsAboveAt}
use Rattle.isolation_check_findings.proofs.Adding.{all_below, as_named, more, zero_of}
use Rattle.isolation_check_findings.proofs.above.above_of.Goals as goal

pub loop-external-init : goal.loop-external-init
loop-external-init c = zero_of _ _

pub is_named-requires : goal.is_named-requires
is_named-requires c =
    let as_long : length c.deref.result.now ≡ length c.in_ok-row.row.items = ap (λ (r : List (Option ℕ)). length r) c.deref.ensures.value in
    let size : length c.in_ok-row.row.items ≡ first_source_function + length c.functions-count.result.now = c.in_ok-row.ensures.size in
    omega (arith, as_long, size, c.loop-external-test.true)

pub loop-external-preserved : goal.loop-external-preserved
loop-external-preserved c =
    let p = c.args.program.now in
    let n = c.args.mentions.now in
    let faces = c.args.sides.faces.now in
    let caller = c.args.caller in
    let external = c.loop-external.external in
    let row = c.in_ok-row.row.items in
    let is : c.is_named.result ≡ is_some (entry row (first_source_function + external)) =
    c.is_named.ensures ∙ ap (λ (r : List (Option ℕ)). is_some (entry r (first_source_function + external))) c.deref.ensures.value in
    let inside : first_source_function + external < first_source_function + length c.functions-count.result.now = omega (arith, c.loop-external-test.true) in
    let iff : (c.is_named.result ≡ true) ↔ Names n (first_source_function + caller) (first_source_function + external) =
    subst (λ (b : Bool). (b ≡ true) ↔ Names n (first_source_function + caller) (first_source_function + external)) (sym is)
    (c.in_ok-row.ensures.exact (first_source_function + external) inside) in
    more external (IsAboveAt p n faces caller) c.args.found.now.items c.loop-external.found.items c.add.new.found.items c.loop-external.invariant
    (as_named p faces c.is_named.result caller external c.loop-external.found.items n c.add.new.found.items iff c.in_ok-add.ensures)

pub returns : goal.returns
returns c =
    let end : c.loop-external.external ≡ length c.functions-count.result.now = omega (arith, c.loop-external.auto.external-end, c.loop-external-test.false) in
    all_below c.loop-external.external (length c.args.program.now.functions)
    (IsAboveAt c.args.program.now c.args.mentions.now c.args.sides.faces.now c.args.caller) c.args.found.now.items c.loop-external.found.items
    (end ∙ ap (λ (fs : List Function). length fs) c.functions-count.ensures.functions) c.loop-external.invariant
