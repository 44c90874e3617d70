use Rattle.std.proofs.Common.{None, subst}
use Rattle.reference_recorder_threads.specs.Telling.{IsStartOf}
use Rattle.reference_recorder_threads.proofs.Reported.{nothing_starts}
use Rattle.reference_recorder_threads.proofs.starts.start_in.Goals as goal

pub returns-in-Some : goal.returns-in-Some
returns-in-Some c = subst (λ o. IsStartOf o c.start_of.result) c.in-Some.ensures c.start_of.ensures

pub returns-in-None : goal.returns-in-None
returns-in-None c = subst (λ o. IsStartOf o None) c.in-None.ensures nothing_starts
