use Rattle.replay_runs.specs.Runs.{marks_of}
use Rattle.replay_runs.specs.Threads.{frames}
use Rattle.replay_runs.specs.Laws.{fresh}
use Rattle.space_memory_laws.proofs.Stacks.{stacks_count}
use Rattle.steps_above_memory.proofs.laws.threads_have_stacks.Goals as goal

pub returns : goal.returns
returns c program memory past above t h lt = stacks_count above.spaces.sides.replay.stacks t (frames (marks_of (fresh memory) t past)) (h.spaces.stacks t lt)
