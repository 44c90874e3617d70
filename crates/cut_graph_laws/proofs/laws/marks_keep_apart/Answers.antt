use Rattle.cut_graph_laws.specs.SoundCut.{IsThread, permits}
use Rattle.cut_graph_laws.proofs.Accepted.{grants}
use Rattle.cut_graph_laws.proofs.Accesses.{kept_apart}
use Rattle.cut_graph_laws.proofs.Cuts.{sound_cut}
use Rattle.cut_graph_laws.proofs.Wants.{thread_answers, thread_granted}
use Rattle.cut_graph_laws.proofs.laws.marks_keep_apart.Goals as goal

pub returns : goal.returns
returns c s cut of accepted =
    let granted = grants s cut of accepted in
    kept_apart s cut (IsThread s) (sound_cut s cut of accepted (IsThread s) (thread_granted s (permits s cut) granted)) (thread_answers s (permits s cut) granted)
