use Rattle.whole_runs_examples.proofs.locks.puts_out_chunks.Goals as goal
use Rattle.whole_runs_examples.proofs.LockScenes.{puts_out_chunks_run, puts_out_chunks_chunks}

pub returns-clause-run : goal.returns-clause-run
returns-clause-run c = puts_out_chunks_run

pub returns-clause-chunks : goal.returns-clause-chunks
returns-clause-chunks c = puts_out_chunks_chunks
