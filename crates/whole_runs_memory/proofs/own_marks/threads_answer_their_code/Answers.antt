use Rattle.whole_runs_memory.proofs.own_marks.threads_answer_their_code.Goals as goal
use Rattle.whole_runs_memory.proofs.Threads.{answer}

pub returns : goal.returns
returns c = answer
