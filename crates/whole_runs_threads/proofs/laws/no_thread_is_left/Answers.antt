use Rattle.whole_runs_seen.proofs.Left.{leave_none}
use Rattle.whole_runs_threads.proofs.Suits.{answers_suit}
use Rattle.whole_runs_threads.proofs.laws.no_thread_is_left.Goals as goal

pub returns : goal.returns
returns c = λ w fit. leave_none w fit (answers_suit w fit)
