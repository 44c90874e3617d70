use Rattle.c_code.specs.Machine.{callee}
use Rattle.c_code.proofs.Forgets.{above_forgets}
use Rattle.c_lower_placement.specs.Laws.{laid}
use Rattle.c_lower_placement.proofs.Aboves.{returns_values}
use Rattle.c_lower_placement.proofs.laws.code_of_sources_forgets.Goals as goal

pub returns-clause-returns : goal.returns-clause-returns
returns-clause-returns c = returns_values

pub returns-clause-forgets : goal.returns-clause-forgets
returns-clause-forgets c s code converted makes results valid t sig address args is = above_forgets (laid s code) valid (callee (laid s code) sig address) args (returns_values s code converted makes results t sig address args is)
