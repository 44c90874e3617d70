use Rattle.c_lower_depth_laws.proofs.Expressions.{expressions_are_counted}
use Rattle.c_lower_depth_laws.proofs.laws.expressions_are_counted.Goals as goal

pub returns : goal.returns
returns c = expressions_are_counted
