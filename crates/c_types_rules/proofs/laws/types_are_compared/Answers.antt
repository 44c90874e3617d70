use Rattle.c_types_rules.proofs.SameTypes.{types_compared}
use Rattle.c_types_rules.proofs.laws.types_are_compared.Goals as goal

pub returns : goal.returns
returns c = types_compared
