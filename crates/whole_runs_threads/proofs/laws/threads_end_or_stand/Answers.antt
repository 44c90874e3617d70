use Rattle.whole_runs_seen.proofs.Lasting.{end_or_stand}
use Rattle.whole_runs_threads.proofs.Suits.{answers_suit}
use Rattle.whole_runs_threads.proofs.laws.threads_end_or_stand.Goals as goal

pub returns : goal.returns
returns c = λ w fit. end_or_stand w fit (answers_suit w fit)
