use Rattle.std.proofs.Common.{length}
use Rattle.c_lower_layout.proofs.prototypes.+are_types.Given as goal

abbrev pub decreases-are_types : goal.decreases-are_types
decreases-are_types l = length l.params.now
