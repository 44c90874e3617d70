use Rattle.annot_reader_functions.proofs.Staying.{seen_stays}
use Rattle.annot_reader_functions.proofs.rules.size_of_name.Goals as goal

pub returns-in-Ok-clause-kept : goal.returns-in-Ok-clause-kept
returns-in-Ok-clause-kept c = seen_stays _ _ c.in-Ok.ensures.kept

pub returns-in-Err-clause-kept : goal.returns-in-Err-clause-kept
returns-in-Err-clause-kept c = seen_stays _ _ c.in-Err.ensures.kept
