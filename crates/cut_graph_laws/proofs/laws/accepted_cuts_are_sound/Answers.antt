use Rattle.cut_graph_laws.specs.SoundCut.{IsThread, permits}
use Rattle.cut_graph_laws.proofs.Accepted.{grants}
use Rattle.cut_graph_laws.proofs.Cuts.{sound_cut}
use Rattle.cut_graph_laws.proofs.Wants.{thread_granted}
use Rattle.cut_graph_laws.proofs.laws.accepted_cuts_are_sound.Goals as goal

pub returns : goal.returns
returns c s cut of accepted = sound_cut s cut of accepted (IsThread s) (thread_granted s (permits s cut) (grants s cut of accepted))
