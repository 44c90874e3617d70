use Rattle.std.proofs.Common.{◌≡◌, ◌+◌, ℕ, Bool, List, length, ap, ◌∙◌, subst, arith}
use Rattle.c_builtins.specs.Table.{first_source_function}
use Rattle.cut_graph_rules.specs.declared.mention.Mention.{Mention}
use Rattle.isolation_check_rows.specs.Rows.{flag}
use Rattle.isolation_check_findings.specs.Found.{Adds, IsAbove, IsAboveIn}
use Rattle.isolation_check_findings.proofs.Adding.{all_below, more, zero_of}
use Rattle.isolation_check_findings.proofs.above.above.Goals as goal

pub loop-caller-init : goal.loop-caller-init
loop-caller-init c = zero_of _ _

pub loop-caller-preserved : goal.loop-caller-preserved
loop-caller-preserved c =
    let p = c.args.program.now in
    let n = c.args.mentions.now in
    let above = c.args.sides.above.now in
    let faces = c.args.sides.faces.now in
    let count = length c.args.program.now.functions in
    let caller = c.loop-caller.caller in
    let runs : c.counts-runs.result ≡ flag above (first_source_function + caller) = c.counts-runs.ensures ∙ ap (λ (f : ℕ). flag above f) c.number.ensures in
    more caller (IsAbove p n above faces count) c.args.found.now.items c.loop-caller.found.items c.above_if.new.found.items c.loop-caller.invariant
    (subst (λ (b : Bool). Adds (IsAboveIn p n b faces count caller) c.loop-caller.found.items c.above_if.new.found.items) runs c.in_ok-above_if.ensures)

pub returns : goal.returns
returns c =
    let end : c.loop-caller.caller ≡ length c.functions-caller-end.result.now = omega (arith, c.loop-caller.auto.caller-end, c.loop-caller-test.false) in
    all_below c.loop-caller.caller (length c.args.mentions.now.functions)
    (IsAbove c.args.program.now c.args.mentions.now c.args.sides.above.now c.args.sides.faces.now (length c.args.program.now.functions))
    c.args.found.now.items c.loop-caller.found.items
    (end ∙ ap (λ (fs : List (List Mention)). length fs) c.functions-caller-end.ensures) c.loop-caller.invariant
