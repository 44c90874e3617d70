use Rattle.std.proofs.Common.{◌≡◌, ◌-◌, length}
use Rattle.std.specs.List.{list_all, range_with_len}
use Rattle.whole_runs.specs.Threads.{has_ended}
use Rattle.whole_runs.specs.Picks.{all_ended as all_ended_in}
use Rattle.recorder_state.specs.Inputs.{world_of}
use Rattle.reference_recorder_threads.specs.Telling.{IsPast}
use Rattle.reference_recorder_picks.proofs.stepping.all_ended.Given as goal

-- those before this one have ended
abbrev pub invariant-loop-thread : goal.invariant-loop-thread
invariant-loop-thread l = (p : IsPast (world_of l.inputs) l.marks) →
    all_ended_in (world_of l.inputs) p.run ≡ list_all (has_ended (world_of l.inputs) p.run) (range_with_len l.thread (length l.threads - l.thread))
