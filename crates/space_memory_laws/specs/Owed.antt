-- Which bytes are pending, said by the open calls and the keys in use.
use Rattle.std.specs.Prelude.{◌≡◌, ◌⊎◌, ◌↔◌, ℕ, ◌<◌, Bool, true, false, ◌||◌, List, [], ◌∷◌, Some}
use Rattle.marks.specs.Places.{thread_count, is_system}
use Rattle.marks.specs.declared.range.Range.{Range}
use Rattle.marks.specs.Ranges.{covers, any_range}
use Rattle.marks.specs.Marks.{Mark}
use Rattle.marks.specs.Bytes.{IsHeld}
use Rattle.replay_runs.specs.Runs.{Start, marks_of, byte}
use Rattle.replay_runs.specs.Threads.{OpenCall, open_calls}
use Rattle.replay_runs.specs.Pool.{in_use}
use Rattle.space_memory.specs.Spaces.{SpaceState}
use Rattle.space_memory_laws.specs.StandsFor.{StandsFor}

-- one of the calls holds the byte until its Ret
abbrev pub any_out : List OpenCall → ℕ → Bool
any_out [] x = false
any_out (c ∷ cs) x = any_range c.outs x || any_out cs x

-- an open call of the thread holds the byte
abbrev pub IsHeldFor : Start → List Mark → ℕ → ℕ → Type 0
IsHeldFor s past t x = (t < thread_count) × (any_out (open_calls (marks_of s t past)) x ≡ true)

-- the byte lies in the region of the key, which is in use
abbrev pub IsPreparedUnder : Start → List Mark → ℕ → ℕ → Type 0
IsPreparedUnder s past k x = (r : Range) × (in_use s k past ≡ Some r) × (covers r x ≡ true)

-- an open call holds the byte, or a key in use
abbrev pub IsOwed : Start → List Mark → ℕ → Type 0
IsOwed s past x = ((t : ℕ) × IsHeldFor s past t x) ⊎ ((k : ℕ) × IsPreparedUnder s past k x)

-- in a past that memory stands for, the pending bytes are those that open calls hold and those of keys in
-- use
abbrev pub PendingBytesAreOwed : Type 0
PendingBytesAreOwed =
    (s : Start) (past : List Mark) (memory : SpaceState) → StandsFor s past memory → (x : ℕ) →
    is_system x ≡ false → IsHeld (byte s x past).cell ↔ IsOwed s past x
