use Rattle.std.proofs.Common.{◌≡◌, List, length, ap, ◌∙◌, subst}
use Rattle.lockset_check_rules.specs.declared.finding.LockFinding.{LockFinding}
use Rattle.lockset_check_rules.specs.Annotations.{guarded}
use Rattle.lockset_check_rules.specs.Guards.{Guarded}
use Rattle.lockset_check_rules.specs.Sources.{source_found}
use Rattle.lockset_check.specs.Answers.{Answers, guarded_by}
use Rattle.cut_check.specs.Guards.{runs}
use Rattle.cut_check.proofs.GuardFlags.{found_same, guards_are}
use Rattle.cut_check.proofs.guards.guards_text.Goals as goal

pub returns : goal.returns
returns c = λ cut p a is.
    let source = c.args.source.now in
    let which = runs c.args.sides.above.now c.args.sides.below.now in
    let said : guarded_by source.program source.interface ≡ guarded p a = guards_are c.guards_are_what_annotations_say.ensures cut source.program p a source.interface is.program is.interface is.said in
    let count = length c.functions.result.now in
    let found = found_same source.program source.interface which count c.deref.result.now (ap length c.functions.ensures.functions) (c.deref.ensures.value ∙ c.in_ok-may_run.ensures) in
    c.answer_text.ensures (source_found (guarded p a) which)
    (subst (λ (fs : List LockFinding). Answers fs c.guard-answer.result) (found ∙ ap (λ (r : Guarded). source_found r which) said) c.guard-answer.ensures)
