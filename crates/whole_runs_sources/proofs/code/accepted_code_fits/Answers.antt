use Rattle.whole_runs_sources.proofs.Fitting.{fit_code}
use Rattle.whole_runs_sources.proofs.code.accepted_code_fits.Goals as goal

pub returns : goal.returns
returns c = λ bytes cut source q h.
    fit_code bytes cut source q h c.typed_programs_fit.ensures c.emitted_code_is_steady.ensures
