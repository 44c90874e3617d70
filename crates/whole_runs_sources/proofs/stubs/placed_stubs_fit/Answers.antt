use Rattle.whole_runs_sources.proofs.Stubbed.{stubs_fit}
use Rattle.whole_runs_sources.proofs.stubs.placed_stubs_fit.Goals as goal

pub returns : goal.returns
returns c = λ bytes cut source q h purpose s are.
    stubs_fit bytes cut source q h c.interfaces_say_what_annotations_say.ensures.faces purpose s (c.accepted_stubs_fit.ensures bytes cut source purpose s h.accepted are)
