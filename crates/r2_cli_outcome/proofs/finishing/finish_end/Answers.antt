use Rattle.std.proofs.Common.{refl}
use Rattle.r2_cli_outcome.proofs.FinishLemmas.{says_now, later_line, in_refusal, in_read_fault, in_no_memory}
use Rattle.r2_cli_outcome.proofs.finishing.finish_end.Goals as goal

pub returns-in-Planned-clause-finishes : goal.returns-in-Planned-clause-finishes
returns-in-Planned-clause-finishes g c = in_refusal _ _ _ _ _ c.in-Planned.is c.carry_out.ensures.leaves

pub returns-in-ReadFault-clause-later : goal.returns-in-ReadFault-clause-later
returns-in-ReadFault-clause-later g c = later_line _ _ c.say.ensures.later

pub returns-in-ReadFault-clause-finishes : goal.returns-in-ReadFault-clause-finishes
returns-in-ReadFault-clause-finishes g c = in_read_fault _ _ _ _ c.in-ReadFault.is (says_now _ _ _ _ _ _ refl c.say.ensures.said)

pub returns-in-NoMemory-clause-later : goal.returns-in-NoMemory-clause-later
returns-in-NoMemory-clause-later g c = later_line _ _ c.say-in-NoMemory.ensures.later

pub returns-in-NoMemory-clause-finishes : goal.returns-in-NoMemory-clause-finishes
returns-in-NoMemory-clause-finishes g c = in_no_memory _ _ _ _ c.in-NoMemory.is (says_now _ _ _ _ _ _ refl c.say-in-NoMemory.ensures.said)
