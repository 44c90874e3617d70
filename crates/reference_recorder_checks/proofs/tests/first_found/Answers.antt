use Rattle.std.proofs.Common.{IfOk, sym, subst}
use Rattle.marks.specs.declared.side.Side.{Side}
use Rattle.whole_runs.specs.Tests.{tests}
use Rattle.reference_recorder_findings.specs.Findings.{IsFound}
use Rattle.reference_recorder_checks.specs.Asked.{IsAsked}
use Rattle.reference_recorder_checks.proofs.tests.first_found.Goals as goal

pub returns-in-Replay : goal.returns-in-Replay
returns-in-Replay c = λ w p wanted h a q.
    subst (λ (s : Side). IfOk c.above.result (IsFound (tests w p c.args.thread s wanted))) (sym c.in-Replay.is)
    (c.above.ensures w p wanted h a (subst (λ (s : Side). IsAsked w p c.args.thread s c.args.args.now c.args.want c.args.given wanted) c.in-Replay.is q))

pub returns-in-System : goal.returns-in-System
returns-in-System c = λ w p wanted h a q.
    subst (λ (s : Side). IfOk c.below.result (IsFound (tests w p c.args.thread s wanted))) (sym c.in-System.is)
    (c.below.ensures w p wanted h a (subst (λ (s : Side). IsAsked w p c.args.thread s c.args.args.now c.args.want c.args.given wanted) c.in-System.is q))
