use Rattle.c_lower_placement.proofs.Whole.{each, each_body}
use Rattle.c_lower_placement.proofs.laws.emitted_code_is_steady.Goals as goal

pub returns : goal.returns
returns c s code sig height m = record { each = each s code sig height m; bodies = each_body s code sig height m }
