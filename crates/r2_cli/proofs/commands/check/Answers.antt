use Rattle.std.proofs.Common.{arith, ap}
use Rattle.r2_cli_outcome.specs.Outcome.{Outcome}
use Rattle.r2_cli_outcome.specs.Stages.{passed}
use Rattle.r2_cli_outcome.specs.Plans.{gives}
use Rattle.r2_cli_outcome.proofs.StageLemmas.{handed_on, went_on, out_of_memory}
use Rattle.r2_cli.proofs.commands.check.Goals as goal

pub returns-in_err-checked-clause-answers : goal.returns-in_err-checked-clause-answers
returns-in_err-checked-clause-answers g c = handed_on _ _ _ _ _ _ _ _ _ (omega arith) c.from_residual.ensures.1 c.in_err-checked.ensures.answers

pub returns-in_err-printed-clause-answers : goal.returns-in_err-printed-clause-answers
returns-in_err-printed-clause-answers g c = out_of_memory _ _ _ _ _ c.from_residual-in_err-printed.ensures.1

pub returns-clause-answers : goal.returns-clause-answers
returns-clause-answers g c = went_on _ _ _ _ _ _ _ _ _ c.in_ok-checked.ensures.only.later c.in_ok-checked.ensures.answers (gives (ap (λ (o : Outcome). passed o) c.in_ok-printed.ensures))
