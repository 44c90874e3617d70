use Rattle.std.proofs.Common.{arith}
use Rattle.r2_cli_outcome.proofs.StageLemmas.{handed_on, went_on, read_nothing}
use Rattle.r2_cli.proofs.system.system.Goals as goal

pub returns-in_err-bytes-clause-answers : goal.returns-in_err-bytes-clause-answers
returns-in_err-bytes-clause-answers g c = λ text cut accepted. handed_on _ _ _ _ _ _ _ _ _ (omega arith) c.from_residual.ensures.1 c.in_err-bytes.ensures.answers

pub returns-clause-answers : goal.returns-clause-answers
returns-clause-answers g c = λ text cut accepted.
    went_on _ _ _ _ _ _ _ _ _ c.in_ok-bytes.ensures.only.later c.in_ok-bytes.ensures.answers (read_nothing _ _ _ _ _ (c.system_of.ensures.answers text cut accepted))
