use Rattle.cut_graph_laws.specs.Granted.{flagged}
use Rattle.cut_graph_laws.specs.SoundCut.{permits}
use Rattle.cut_graph_laws.proofs.Accepted.{grants}
use Rattle.cut_graph_laws.proofs.Cuts.{sound_cut}
use Rattle.cut_graph_laws.proofs.Known.{threads_within}
use Rattle.cut_graph_run_laws.specs.Code.{IsCodeThread}
use Rattle.cut_graph_run_laws.proofs.Threads.{code_granted, code_within}
use Rattle.cut_graph_run_laws.proofs.laws.code_keeps_the_cut.Goals as goal

pub returns-clause-sound : goal.returns-clause-sound
returns-clause-sound c s code makes cut of accepted =
    sound_cut s cut of accepted (IsCodeThread s code) (code_granted s (permits s cut) (grants s cut of accepted) code makes)

pub returns-clause-within : goal.returns-clause-within
returns-clause-within c s code makes cut of accepted results arguments t sig address args is ok =
    code_within s code makes cut t sig address args is (threads_within s cut of accepted results arguments t address args ok)

pub returns-clause-granted : goal.returns-clause-granted
returns-clause-granted c s code makes may touches writes grants p is = code_granted s (flagged may touches writes) grants code makes p is
