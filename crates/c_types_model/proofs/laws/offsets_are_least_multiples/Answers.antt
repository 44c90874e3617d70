use Rattle.c_types_model.proofs.Multiples.{is_multiple, is_least}
use Rattle.c_types_model.proofs.laws.offsets_are_least_multiples.Goals as goal

pub returns-clause-multiple : goal.returns-clause-multiple
returns-clause-multiple c = is_multiple

pub returns-clause-least : goal.returns-clause-least
returns-clause-least c = is_least
