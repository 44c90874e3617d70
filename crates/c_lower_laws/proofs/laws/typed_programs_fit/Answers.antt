use Rattle.c_lower_laws.proofs.Whole.{typed_programs_fit}
use Rattle.c_lower_laws.proofs.laws.typed_programs_fit.Goals as goal

pub returns : goal.returns
returns c = typed_programs_fit
