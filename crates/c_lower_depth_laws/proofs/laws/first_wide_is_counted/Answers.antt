use Rattle.c_lower_depth_laws.proofs.Whole.{first_in_is_counted}
use Rattle.c_lower_depth_laws.proofs.laws.first_wide_is_counted.Goals as goal

pub returns : goal.returns
returns c = first_in_is_counted
