use Rattle.std.proofs.Common.{◌≡◌, List, sym, ◌∙◌, subst}
use Rattle.cut_graph_rules.specs.Findings as rules
use Rattle.isolation_check_findings.specs.declared.finding.Finding.{Finding}
use Rattle.isolation_check_findings.specs.Found.{Adds, SharedBy, finding_of, function_name, global_name}
use Rattle.isolation_check_findings.proofs.Adding.{none_of, some_of, with_all, without_above, without_below, without_written}
use Rattle.isolation_check_findings.proofs.shared.add.Goals as goal

pub returns-in_default : goal.returns-in_default
returns-in_default c =
    without_above c.args.program.now c.args.place c.args.found.now.items c.args.above c.args.below c.args.written c.in_default.is

pub returns-in_default-below : goal.returns-in_default-below
returns-in_default-below c =
    without_below c.args.program.now c.args.place c.args.found.now.items c.args.above c.args.below c.args.written c.in_default-below.is

pub returns-then-is_none : goal.returns-then-is_none
returns-then-is_none c =
    without_written c.args.program.now c.args.place c.args.found.now.items c.args.above c.args.below c.args.written
    (none_of c.args.written c.if-is_none.ensures)

pub returns : goal.returns
returns c =
    let p = c.args.program.now in
    let place = c.args.place in
    let old = c.args.found.now.items in
    let a = c.in-Some.above in
    let b = c.in-Some-below.below in
    let w = some_of c.args.written c.if-is_none.ensures in
    let e1 : c.global_name-name.result.now ≡ global_name p place = c.global_name-name.ensures in
    let e2 : c.function_name-above.result.now ≡ function_name p a = c.function_name-above.ensures in
    let e3 : c.function_name-below.result.now ≡ function_name p b = c.function_name-below.ensures in
    let names : finding_of c.in_ok-shared_finding.field-0 ≡ rules.Shared (global_name p place) (function_name p a) (function_name p b) =
    c.in_ok-shared_finding.ensures.cause ∙ (λ i. rules.Shared (e1 i) (e2 i) (e3 i)) in
    subst (λ (fs : List Finding). Adds (SharedBy p place c.args.above c.args.below c.args.written) old fs) (sym {A = List Finding} c.in_ok-push.ensures.items)
    (with_all p place old c.args.above c.args.below c.args.written a b w.0 c.in_ok-shared_finding.field-0 c.in-Some.is c.in-Some-below.is w.1 names
    c.in_ok-shared_finding.ensures.line)
