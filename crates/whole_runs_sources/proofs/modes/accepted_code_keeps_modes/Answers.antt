use Rattle.whole_runs_sources.proofs.Functions.{places_functions}
use Rattle.whole_runs_sources.proofs.Keeping.{keeps_modes}
use Rattle.whole_runs_sources.proofs.modes.accepted_code_keeps_modes.Goals as goal

pub returns-clause-functions : goal.returns-clause-functions
returns-clause-functions c = λ bytes cut source q h. places_functions bytes cut source q h (c.accepted_code_fits.ensures bytes cut source q h).valid

pub returns-clause-modes : goal.returns-clause-modes
returns-clause-modes c = λ bytes cut source q h. keeps_modes bytes cut source q h (c.accepted_code_fits.ensures bytes cut source q h).valid
