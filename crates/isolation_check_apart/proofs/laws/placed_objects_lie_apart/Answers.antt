use Rattle.isolation_check_apart.proofs.Apart.{apart}
use Rattle.isolation_check_apart.proofs.laws.placed_objects_lie_apart.Goals as goal

pub returns : goal.returns
returns c = let m = c.offsets_are_least_multiples.ensures in apart m.multiple m.after m.least
