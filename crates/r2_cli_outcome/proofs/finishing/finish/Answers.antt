use Rattle.r2_cli_outcome.proofs.FinishLemmas.{in_planned, in_end}
use Rattle.r2_cli_outcome.proofs.finishing.finish.Goals as goal

pub returns-in-Ok-clause-finishes : goal.returns-in-Ok-clause-finishes
returns-in-Ok-clause-finishes g c = in_planned _ _ _ _ _ c.in-Ok.is c.carry_out.ensures.leaves

pub returns-in-Err-clause-finishes : goal.returns-in-Err-clause-finishes
returns-in-Err-clause-finishes g c = in_end _ _ _ _ _ c.in-Err.is c.finish_end.ensures.finishes
