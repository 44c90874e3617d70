use Rattle.std.proofs.Common.{ap, arith}
use Rattle.r2_cli_outcome.specs.Outcome.{Outcome}
use Rattle.r2_cli_outcome.specs.Stages.{on, passed}
use Rattle.r2_cli_outcome.specs.Plans.{gives}
use Rattle.r2_cli_outcome.proofs.StageLemmas.{handed_on, went_on, out_of_memory}
use Rattle.r2_cli.specs.Commands.{printed_as}
use Rattle.r2_cli.proofs.commands.stubs.Goals as goal

pub returns-in_err-accepted-clause-answers : goal.returns-in_err-accepted-clause-answers
returns-in_err-accepted-clause-answers g c = handed_on _ _ _ _ _ _ _ _ _ (omega arith) c.from_residual.ensures.1 c.in_err-accepted.ensures.answers

pub returns-in_err-plan-clause-answers : goal.returns-in_err-plan-clause-answers
returns-in_err-plan-clause-answers g c = out_of_memory _ _ _ _ _ c.from_residual-in_err-plan.ensures.1

pub returns-clause-answers : goal.returns-clause-answers
returns-clause-answers g c =
    let stubs = c.in_ok-plan.ensures _ _ c.in_ok-accepted.ensures.accepted in
    went_on _ _ _ _ _ _ _ _ _ c.in_ok-accepted.ensures.only.later c.in_ok-accepted.ensures.answers (gives (on (printed_as stubs.1) (ap (λ (o : Outcome). passed o) stubs.2)))
