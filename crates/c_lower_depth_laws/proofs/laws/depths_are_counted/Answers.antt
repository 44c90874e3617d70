use Rattle.c_lower_depth_laws.proofs.Whole.{depths_are_counted}
use Rattle.c_lower_depth_laws.proofs.laws.depths_are_counted.Goals as goal

pub returns : goal.returns
returns c = depths_are_counted
