use Rattle.c_semantics.specs.Reading.{Marks}
use Rattle.c_lower_placement.specs.Laws.{laid}
use Rattle.cut_graph_laws.specs.Granted.{WantsAreGranted}
use Rattle.cut_graph_laws.specs.SoundCut.{permits}
use Rattle.cut_graph_laws.proofs.Accepted.{grants}
use Rattle.cut_graph_laws.proofs.Cuts.{sound_cut}
use Rattle.cut_graph_run_laws.specs.Code.{IsWanting, wants}
use Rattle.cut_graph_run_laws.proofs.Above.{wanting_granted}
use Rattle.cut_graph_run_laws.proofs.Threads.{lists_granted}
use Rattle.cut_graph_run_laws.proofs.laws.wants_above_keep_the_cut.Goals as goal

pub returns : goal.returns
returns c s code makes valid cut of accepted = sound_cut s cut of accepted (IsWanting (laid s code)) by
  where
    by : (a : Marks) → IsWanting (laid s code) a → WantsAreGranted s (permits s cut) a
    by a wants = wanting_granted (laid s code) valid s (permits s cut) (lists_granted s (permits s cut) (grants s cut of accepted) code makes)
