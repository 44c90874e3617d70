use Rattle.stub_operations.specs.declared.purpose.Purpose.TheVariants.{Record}
use Rattle.whole_runs_sources.proofs.Assembled.{fit_world}
use Rattle.whole_runs_sources.proofs.worlds.accepted_sources_fit.Goals as goal

pub returns : goal.returns
returns c = λ bytes cut script source w h.
    let q = w.laid.placed in
    fit_world bytes cut script source w h (c.accepted_objects_are_placed.ensures bytes cut source q h.source) (c.accepted_code_fits.ensures bytes cut source q h.source)
    (c.accepted_code_keeps_modes.ensures.functions bytes cut source q h.source) (c.accepted_code_keeps_modes.ensures.modes bytes cut source q h.source)
    (c.placed_stubs_fit.ensures bytes cut source q h.source Record w.stubs h.stubs) (c.read_files_fit_their_sources.ensures bytes cut script source w h)
