use Rattle.c_semantics.proofs.GivenBack.{returns_give_values}
use Rattle.c_semantics.proofs.laws.returns_give_values.Goals as goal

pub returns : goal.returns
returns c = returns_give_values
