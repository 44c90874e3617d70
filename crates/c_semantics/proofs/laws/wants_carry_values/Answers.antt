use Rattle.c_semantics.proofs.Carried.{ends_carry_values, wants_carry_values}
use Rattle.c_semantics.proofs.laws.wants_carry_values.Goals as goal

pub returns-clause-wants : goal.returns-clause-wants
returns-clause-wants c = wants_carry_values

pub returns-clause-ends : goal.returns-clause-ends
returns-clause-ends c = ends_carry_values
