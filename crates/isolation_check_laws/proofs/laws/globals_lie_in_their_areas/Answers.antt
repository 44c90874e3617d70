use Rattle.isolation_check_laws.proofs.Fits.{globals_lie}
use Rattle.isolation_check_laws.proofs.laws.globals_lie_in_their_areas.Goals as goal

pub returns : goal.returns
returns c = let m = c.offsets_are_least_multiples.ensures in globals_lie m.multiple m.after m.least
