use Rattle.isolation_check_laws.proofs.Fits.{lie, short}
use Rattle.isolation_check_laws.proofs.laws.strings_lie_among_constants.Goals as goal

pub returns-clause-lie : goal.returns-clause-lie
returns-clause-lie c = let m = c.offsets_are_least_multiples.ensures in lie m.multiple m.after m.least

pub returns-clause-short : goal.returns-clause-short
returns-clause-short c = let m = c.offsets_are_least_multiples.ensures in short m.multiple m.after m.least
