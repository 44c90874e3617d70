-- Parts of the checks of a step, each by itself.
use Rattle.std.specs.Prelude.{◌≡◌, ℕ, Bool, true, List, []}
use Rattle.marks.specs.declared.fault.FaultKind.TheVariants.{NotLive}
use Rattle.marks.specs.Ranges.{Piece}
use Rattle.marks.specs.Marks.{Mark}
use Rattle.replay_runs.specs.Runs.{Start, byte}
use Rattle.replay_runs.specs.Checks.{Checks, Check, Done, freed_range, is_fault_found, live_check, other_space_check, pending_check, race_check}
use Rattle.whole_runs.specs.World.{World, begin}
use Rattle.whole_runs.specs.Sides.{seen}
use Rattle.whole_runs.specs.Memory.{filled, real}
use Rattle.whole_runs.specs.Tests.{is_changed}

-- the block above the cut that begins there and has this size is given back; 0 where there is none
abbrev pub block_checks : Start → List Mark → (thread at size : ℕ) → Checks
block_checks s past t at size =
    other_space_check (freed_range at size)
    (race_check past t true (freed_range at size)
    (Check (λ x. (x ≡ at) × (size ≡ 0)) (is_fault_found NotLive)
    (live_check s past (freed_range at size) (pending_check s past [] (freed_range at size) Done))))

-- a pending byte isn't what it was when it was held, with these pieces written
abbrev pub changed_by : World → List Mark → List Piece → (x : ℕ) → Bool
changed_by w past pieces x = is_changed (byte (begin w) x (seen past)).cell (filled pieces x (real w past x))
