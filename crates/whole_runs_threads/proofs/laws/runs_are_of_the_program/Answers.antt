use Rattle.whole_runs_seen.proofs.OfProgram.{of_program}
use Rattle.whole_runs_threads.proofs.Suits.{answers_suit}
use Rattle.whole_runs_threads.proofs.laws.runs_are_of_the_program.Goals as goal

pub returns : goal.returns
returns c = λ w fit. of_program w fit (answers_suit w fit)
