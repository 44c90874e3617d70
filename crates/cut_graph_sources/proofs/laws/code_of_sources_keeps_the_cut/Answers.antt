use Rattle.cut_check.specs.Sources.{cut_of}
use Rattle.cut_graph_sources.proofs.Accepted.{arguments, cut_is, makes, results}
use Rattle.cut_graph_sources.proofs.laws.code_of_sources_keeps_the_cut.Goals as goal

pub returns-clause-sound : goal.returns-clause-sound
returns-clause-sound c bytes cut x p a s h =
    c.code_keeps_the_cut.ensures.sound s x.code (makes bytes cut x p a s h) (cut_of cut p a) (cut_is bytes cut x p a s h) h.has.accepted

pub returns-clause-apart : goal.returns-clause-apart
returns-clause-apart c bytes cut x p a s h =
    c.marks_of_code_keep_apart.ensures s x.code (makes bytes cut x p a s h) (cut_of cut p a) (cut_is bytes cut x p a s h) h.has.accepted

pub returns-clause-within : goal.returns-clause-within
returns-clause-within c bytes cut x p a s h =
    c.code_keeps_the_cut.ensures.within s x.code (makes bytes cut x p a s h) (cut_of cut p a) (cut_is bytes cut x p a s h) h.has.accepted
    (results bytes cut x p a s h c.results_are_converted.ensures) (arguments bytes cut x p a s h c.typed_programs_fit.ensures)

pub returns-clause-wants : goal.returns-clause-wants
returns-clause-wants c bytes cut x p a s h valid =
    c.wants_above_keep_the_cut.ensures s x.code (makes bytes cut x p a s h) valid (cut_of cut p a) (cut_is bytes cut x p a s h) h.has.accepted

pub returns-clause-replays : goal.returns-clause-replays
returns-clause-replays c bytes cut x p a s h valid =
    c.replay_runs_keep_the_cut.ensures s x.code (makes bytes cut x p a s h) valid (cut_of cut p a) (cut_is bytes cut x p a s h) h.has.accepted
