-- A Call that is tested and undone.
use Rattle.std.proofs.Common.{◌≡◌, ℕ, ◌+◌, ◌-◌, ◌≤◌, List, ap, ◌∙◌, arith, get_or-set_same}
use Rattle.std.specs.Prelude.{slice_index, slice_set}
use Rattle.space_memory_access.specs.Held.{innermost, without_call}
use Rattle.space_memory.specs.Spaces.{SpaceState}
use Rattle.space_memory_laws.specs.Calls.{Part}
use Rattle.space_memory_laws.proofs.Parts.{undone}
use Rattle.replay_runs.specs.Laws.{fresh}
use Rattle.steps_above_memory.specs.declared.above.MemoryAbove.{MemoryAbove}
use Rattle.steps_above_memory.specs.Calls.{HasParts, LeavesAll}
use Rattle.recorder_calls.specs.Calls.{IsOfSomeRun}

module _ (old : MemoryAbove) (t : ℕ) (parts : List Part) (mid : SpaceState) where
  pub opened_depth : HasParts old t parts mid → IsOfSomeRun old → 1 ≤ slice_index mid.held.depths t
  opened_depth has run =
      let k = has run.0 run.1 run.2 run.3 in
      let threads = run.3.spaces.sound.held.threads in
      let lt = k.call.thread in
      let depth : slice_index mid.held.depths t ≡ slice_index old.spaces.held.depths t + 1 = ap (λ ds. slice_index ds t) k.call.depths ∙ get_or-set_same old.spaces.held.depths t (slice_index old.spaces.held.depths t + 1) 0 (omega (arith, lt, threads)) in
      omega (arith, depth)

  pub undone_spaces : (new : SpaceState) → HasParts old t parts mid → IsOfSomeRun old → new.held.regions ≡ without_call (innermost mid.held t) mid.held.regions → new.held.depths ≡ slice_set mid.held.depths t (slice_index mid.held.depths t - 1) → new ≡ record mid { held = new.held } → new ≡ old.spaces
  undone_spaces new has run regions depths rest = undone (fresh run.1) run.2 old.spaces mid new t parts (has run.0 run.1 run.2 run.3).call regions depths rest

pub left_spaces : (old new : MemoryAbove) → LeavesAll old new → IsOfSomeRun old → new.spaces ≡ old.spaces
left_spaces old new leaves run = (leaves run.0 run.1 run.2 run.3).0

pub left_watch : (old new : MemoryAbove) → LeavesAll old new → IsOfSomeRun old → new.watch ≡ old.watch
left_watch old new leaves run = (leaves run.0 run.1 run.2 run.3).1
