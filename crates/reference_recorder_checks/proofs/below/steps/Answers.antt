use Rattle.std.proofs.Common.{Option, Some, None, IfOk, sym, ap, ◌∙◌, subst, ℕ}
use Rattle.c_builtins.specs.declared.builtin.Builtin.{Builtin}
use Rattle.whole_runs.specs.Below.{Given}
use Rattle.whole_runs.specs.Tests.{external_checks, free_checks, step_checks}
use Rattle.reference_recorder_findings.specs.Findings.{IsFound}
use Rattle.reference_recorder_checks.proofs.below.steps.Goals as goal

pub returns-in-Some-Malloc : goal.returns-in-Some-Malloc
returns-in-Some-Malloc c = λ w p h a g. subst (λ (o : Option Builtin). IsFound (step_checks w p c.args.thread c.args.func c.args.args.now o) None) (sym (ap Some c.in-Some-Malloc.field-0-is) ∙ c.in-Some-Malloc.ensures) tt

pub returns-in-Some-Spawn : goal.returns-in-Some-Spawn
returns-in-Some-Spawn c = λ w p h a g. subst (λ (o : Option Builtin). IsFound (step_checks w p c.args.thread c.args.func c.args.args.now o) None) (sym (ap Some c.in-Some-Spawn.field-0-is) ∙ c.in-Some-Spawn.ensures) tt

pub returns-in-Some-Join : goal.returns-in-Some-Join
returns-in-Some-Join c = λ w p h a g. subst (λ (o : Option Builtin). IsFound (step_checks w p c.args.thread c.args.func c.args.args.now o) None) (sym (ap Some c.in-Some-Join.field-0-is) ∙ c.in-Some-Join.ensures) tt

pub returns-in-Some-Lock : goal.returns-in-Some-Lock
returns-in-Some-Lock c = λ w p h a g. subst (λ (o : Option Builtin). IsFound (step_checks w p c.args.thread c.args.func c.args.args.now o) None) (sym (ap Some c.in-Some-Lock.field-0-is) ∙ c.in-Some-Lock.ensures) tt

pub returns-in-Some-Unlock : goal.returns-in-Some-Unlock
returns-in-Some-Unlock c = λ w p h a g. subst (λ (o : Option Builtin). IsFound (step_checks w p c.args.thread c.args.func c.args.args.now o) None) (sym (ap Some c.in-Some-Unlock.field-0-is) ∙ c.in-Some-Unlock.ensures) tt

pub returns-in-Some-Free : goal.returns-in-Some-Free
returns-in-Some-Free c = λ w p h a g.
    subst (λ (o : Option Builtin). IfOk c.freed_below.result (IsFound (step_checks w p c.args.thread c.args.func c.args.args.now o))) (sym (ap Some c.in-Some-Free.field-0-is) ∙ c.in-Some-Free.ensures)
    (subst (λ (at : ℕ). IfOk c.freed_below.result (IsFound (free_checks w p at))) c.first.ensures (c.freed_below.ensures w p h.is))

pub returns-in-Some-Print : goal.returns-in-Some-Print
returns-in-Some-Print c = λ w p h a g.
    subst (λ (o : Option Builtin). IfOk c.prints.result (IsFound (step_checks w p c.args.thread c.args.func c.args.args.now o))) (sym (ap Some c.in-Some-Print.field-0-is) ∙ c.in-Some-Print.ensures) (c.prints.ensures w p h a)

pub returns-in-None : goal.returns-in-None
returns-in-None c = λ w p h a g.
    subst (λ (o : Option Builtin). IfOk c.answered.result (IsFound (step_checks w p c.args.thread c.args.func c.args.args.now o))) c.in-None.ensures
    (subst (λ (x : Given). IfOk c.answered.result (IsFound (external_checks w p c.args.thread c.args.func c.args.args.now x))) g (c.answered.ensures w p h a))
