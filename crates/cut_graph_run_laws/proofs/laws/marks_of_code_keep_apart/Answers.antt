use Rattle.cut_graph_laws.specs.SoundCut.{permits}
use Rattle.cut_graph_laws.proofs.Accepted.{grants}
use Rattle.cut_graph_laws.proofs.Accesses.{kept_apart}
use Rattle.cut_graph_laws.proofs.Cuts.{sound_cut}
use Rattle.cut_graph_run_laws.specs.Code.{IsCodeThread}
use Rattle.cut_graph_run_laws.proofs.Threads.{code_answers, code_granted}
use Rattle.cut_graph_run_laws.proofs.laws.marks_of_code_keep_apart.Goals as goal

pub returns : goal.returns
returns c s code makes cut of accepted =
    let granted = grants s cut of accepted in
    kept_apart s cut (IsCodeThread s code) (sound_cut s cut of accepted (IsCodeThread s code) (code_granted s (permits s cut) granted code makes)) (code_answers s (permits s cut) granted code makes)
