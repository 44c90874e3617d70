-- What code below the cut may touch of the memory above it, said by the open calls and the keys in use.
use Rattle.std.specs.Prelude.{◌≡◌, ◌⊎◌, ◌↔◌, ℕ, ◌^◌, ◌<◌, Bool, true, false, ◌||◌, List, [], ◌∷◌}
use Rattle.marks.specs.declared.side.Side.TheVariants.{System}
use Rattle.marks.specs.Places.{thread_count, is_system}
use Rattle.marks.specs.Ranges.{bytes_of_number, any_range, covers}
use Rattle.marks.specs.Ranges as marks
use Rattle.marks.specs.Marks.{Mark}
use Rattle.marks.specs.Bytes.{Live, IsHeld}
use Rattle.space_memory_access.specs.Held.{IsServed}
use Rattle.replay_runs.specs.Runs.{Start, marks_of, byte}
use Rattle.replay_runs.specs.Threads.{OpenCall, open_calls}
use Rattle.space_memory.specs.Spaces.{SpaceState}
use Rattle.space_memory_laws.specs.StandsFor.{StandsFor}
use Rattle.space_memory_laws.specs.Owed.{any_out, IsPreparedUnder}
use Rattle.space_memory_laws.specs.Changes.{IsLoaded}

-- one of the calls reads the byte
abbrev pub any_in : List OpenCall → ℕ → Bool
any_in [] x = false
any_in (c ∷ cs) x = any_range c.ins x || any_in cs x

-- an open call of the thread holds the byte to be written, or reads it, which only a read may use; or it
-- lies in the region of
-- a key in use
abbrev pub IsHandedDown : Start → List Mark → ℕ → Bool → ℕ → Type 0
IsHandedDown s past t write x =
    (any_out (open_calls (marks_of s t past)) x ≡ true) ⊎
    ((write ≡ false) × (any_in (open_calls (marks_of s t past)) x ≡ true)) ⊎
    ((k : ℕ) × IsPreparedUnder s past k x)

-- memory gives code of a thread below the cut the right to a byte above it exactly where that is handed
-- down to the thread
abbrev pub RightsAreHandedDown : Type 0
RightsAreHandedDown =
    (s : Start) (past : List Mark) (memory : SpaceState) (t : ℕ) (write : Bool) (x : ℕ) →
    StandsFor s past memory →
    t < thread_count →
    IsServed memory.held.regions t write x ↔ IsHandedDown s past t write x

-- what a load below the cut shows of memory above it: the byte that the run has, unless it is pending
abbrev pub LoadsBelowShowTheRun : Type 0
LoadsBelowShowTheRun =
    (s : Start) (past : List Mark) (memory : SpaceState) (thread addr width value : ℕ) →
    StandsFor s past memory →
    addr < 2 ^ 64 →
    IsLoaded System memory thread addr width value →
    (x : ℕ) → covers (record { addr = addr; len = width }) x ≡ true → is_system x ≡ false →
    ((byte s x past).cell ≡ Live (marks.byte_at addr (bytes_of_number width value) x)) ⊎
    IsHeld (byte s x past).cell
