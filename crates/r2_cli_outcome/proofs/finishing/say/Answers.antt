use Rattle.r2_cli_outcome.proofs.FinishLemmas.{said_nothing, said_all, said_fault}
use Rattle.r2_cli_outcome.proofs.finishing.say.Goals as goal

pub returns-then-line-eq0-clause-said : goal.returns-then-line-eq0-clause-said
returns-then-line-eq0-clause-said g c = said_nothing _ _ _ c.if-line-eq0.true

pub returns-in-Ok-clause-said : goal.returns-in-Ok-clause-said
returns-in-Ok-clause-said g c = said_all _ _ _ _ c.in-Ok.ensures.bytes

pub returns-in-Err-clause-said : goal.returns-in-Err-clause-said
returns-in-Err-clause-said g c = said_fault _ _ _ _ _ _ c.status_for.ensures c.in-Err.ensures.bytes c.in-Err.ensures.cause
