use Rattle.isolation_check_laws.proofs.Aligned.{aligned_globals, small_globals}
use Rattle.isolation_check_laws.proofs.laws.typed_globals_fit.Goals as goal

pub returns : goal.returns
returns c = record { small = small_globals; aligned = aligned_globals }
