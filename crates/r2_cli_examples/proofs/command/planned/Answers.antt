use Rattle.std.proofs.Common.{arith, ap}
use Rattle.r2_cli_outcome.specs.Outcome.{Outcome}
use Rattle.r2_cli_outcome.specs.Stages.{passed}
use Rattle.r2_cli_outcome.specs.Plans.{gives}
use Rattle.r2_cli_outcome.proofs.StageLemmas.{handed_on, went_on, out_of_memory, reads_then}
use Rattle.r2_cli_examples.proofs.ExchangeLemmas.{input_before}
use Rattle.r2_cli_examples.proofs.command.planned.Goals as goal

pub returns-in_err-first-clause-answers : goal.returns-in_err-first-clause-answers
returns-in_err-first-clause-answers g c = handed_on _ _ _ _ _ _ _ _ _ (omega arith) c.from_residual.ensures.1 c.in_err-first.ensures.answers

pub returns-in_err-second-clause-only : goal.returns-in_err-second-clause-only
returns-in_err-second-clause-only g c = reads_then _ _ _ c.in_ok-first.ensures.only c.in_err-second.ensures.only

pub returns-in_err-second-clause-answers : goal.returns-in_err-second-clause-answers
returns-in_err-second-clause-answers g c =
    went_on _ _ _ _ _ _ _ _ _ c.in_ok-first.ensures.only.later c.in_ok-first.ensures.answers
    (handed_on _ _ _ _ _ _ _ _ _ (omega arith) c.from_residual-in_err-second.ensures.1 (input_before _ _ _ _ _ _ _ _ _ c.in_ok-first.ensures.only c.in_err-second.ensures.answers))

pub returns-in_err-plan-clause-answers : goal.returns-in_err-plan-clause-answers
returns-in_err-plan-clause-answers g c = out_of_memory _ _ _ _ _ c.from_residual-in_err-plan.ensures.1

pub returns-clause-answers : goal.returns-clause-answers
returns-clause-answers g c =
    went_on _ _ _ _ _ _ _ _ _ c.in_ok-first.ensures.only.later c.in_ok-first.ensures.answers
    (went_on _ _ _ _ _ _ _ _ _ c.in_ok-second.ensures.only.later (input_before _ _ _ _ _ _ _ _ _ c.in_ok-first.ensures.only c.in_ok-second.ensures.answers)
    (gives (ap (λ (o : Outcome). passed o) c.in_ok-plan.ensures)))
