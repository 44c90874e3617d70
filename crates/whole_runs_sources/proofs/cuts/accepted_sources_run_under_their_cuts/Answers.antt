use Rattle.whole_runs_sources.proofs.Under.{runs_under}
use Rattle.whole_runs_sources.proofs.cuts.accepted_sources_run_under_their_cuts.Goals as goal

pub returns : goal.returns
returns c = λ bytes cut script source w h.
    runs_under bytes cut script source w h c.typed_programs_fit.ensures (c.accepted_code_fits.ensures bytes cut source w.laid.placed h.source) c.programs_run_under_their_cuts.ensures
