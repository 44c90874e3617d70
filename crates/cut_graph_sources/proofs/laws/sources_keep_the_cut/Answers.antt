use Rattle.cut_check.specs.Sources.{cut_of}
use Rattle.cut_graph_sources.proofs.Accepted.{arguments, cut_is, results}
use Rattle.cut_graph_sources.proofs.Cuts.{is_cut}
use Rattle.cut_graph_sources.proofs.laws.sources_keep_the_cut.Goals as goal

pub returns-clause-sound : goal.returns-clause-sound
returns-clause-sound c bytes cut p a s h =
    c.accepted_cuts_are_sound.ensures s (cut_of cut p a) (is_cut bytes cut p a h.says s h.is) h.accepted

pub returns-clause-apart : goal.returns-clause-apart
returns-clause-apart c bytes cut p a s h =
    c.marks_keep_apart.ensures s (cut_of cut p a) (is_cut bytes cut p a h.says s h.is) h.accepted

pub returns-clause-within : goal.returns-clause-within
returns-clause-within c bytes cut x p a s h =
    c.threads_stay_within.ensures s (cut_of cut p a) (cut_is bytes cut x p a s h) h.has.accepted
    (results bytes cut x p a s h c.results_are_converted.ensures) (arguments bytes cut x p a s h c.typed_programs_fit.ensures)
