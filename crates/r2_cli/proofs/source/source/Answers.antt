use Rattle.std.proofs.Common.{arith}
use Rattle.r2_cli_outcome.proofs.StageLemmas.{handed_on, went_on, read_nothing}
use Rattle.r2_cli.proofs.source.source.Goals as goal

pub returns-in_err-bytes-clause-answers : goal.returns-in_err-bytes-clause-answers
returns-in_err-bytes-clause-answers g c = handed_on _ _ _ _ _ _ _ _ _ (omega arith) c.from_residual.ensures.1 c.in_err-bytes.ensures.answers

pub returns-clause-answers : goal.returns-clause-answers
returns-clause-answers g c = went_on _ _ _ _ _ _ _ _ _ c.in_ok-bytes.ensures.only.later c.in_ok-bytes.ensures.answers (read_nothing _ _ _ _ _ c.source_of.ensures.answers)
