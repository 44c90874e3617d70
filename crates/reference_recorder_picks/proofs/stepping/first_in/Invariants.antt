use Rattle.std.proofs.Common.{◌≡◌, ◌-◌}
use Rattle.whole_runs.specs.Picks.{can_step as can_step_in}
use Rattle.recorder_state.specs.Inputs.{world_of}
use Rattle.reference_recorder_threads.specs.Telling.{IsPast}
use Rattle.reference_recorder_picks.proofs.Picking.{found}
use Rattle.reference_recorder_picks.proofs.stepping.first_in.Given as goal

-- none before this one can
abbrev pub invariant-loop-thread : goal.invariant-loop-thread
invariant-loop-thread l = (p : IsPast (world_of l.inputs) l.marks) →
    found (can_step_in (world_of l.inputs) p.run) l.fn.from (l.end - l.fn.from) ≡ found (can_step_in (world_of l.inputs) p.run) l.thread (l.end - l.thread)
