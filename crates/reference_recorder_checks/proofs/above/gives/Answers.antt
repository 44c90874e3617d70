use Rattle.std.proofs.Common.{None, IfOk, sym, subst}
use Rattle.whole_runs.specs.Tests.{give_checks}
use Rattle.reference_recorder_given.specs.declared.gives.Given.{Given}
use Rattle.reference_recorder_given.specs.Given.{shown}
use Rattle.reference_recorder_findings.specs.Findings.{IsFound}
use Rattle.reference_recorder_checks.proofs.above.gives.Goals as goal

pub returns-in-ByPool : goal.returns-in-ByPool
returns-in-ByPool c = λ w p h a. subst (λ (g : Given). IsFound (give_checks w p c.args.func c.args.args.now (shown g)) None) (sym c.in-ByPool.is) tt

pub returns-in-Says : goal.returns-in-Says
returns-in-Says c = λ w p h a.
    subst (λ (g : Given). IfOk c.returned.result (IsFound (give_checks w p c.args.func c.args.args.now (shown g)))) (sym c.in-Says.is) (c.returned.ensures w p h a)

pub returns-in-NoMore : goal.returns-in-NoMore
returns-in-NoMore c = λ w p h a. subst (λ (g : Given). IsFound (give_checks w p c.args.func c.args.args.now (shown g)) None) (sym c.in-NoMore.is) tt
