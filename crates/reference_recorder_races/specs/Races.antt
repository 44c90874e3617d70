-- What a check for races finds in a range.
use Rattle.std.specs.Prelude.{◌≡◌, ℕ, ◌<◌, ◌≤◌, Bool, true, ◌&&◌, not, ◌==◌, List, Option, Some, None}
use Rattle.marks.specs.declared.breach.BreachKind.TheVariants as breach
use Rattle.marks.specs.Marks.{Mark}
use Rattle.replay_runs.specs.Runs.{OfThread}
use Rattle.replay_runs.specs.Known.{known}
use Rattle.replay_runs.specs.Checks.{BreachFound, Done, Finds, Passes, race_check}
use Rattle.reference_recorder_races.specs.Hits.{meets_any}
use Rattle.reference_recorder_races.specs.declared.tested.Tested.{Tested}
use Rattle.reference_recorder_races.specs.declared.race.Race.{Race}

-- the check for races passes; or it finds this one
abbrev pub IsFirstRace : List Mark → (thread : ℕ) → Tested → Option Race → Type 0
IsFirstRace past t a None = Passes (race_check past t a.write a.range Done)
IsFirstRace past t a (Some r) =
    Finds (race_check past t a.write a.range Done) (BreachFound breach.Race r.address (Some r.other))

-- of the threads below n, where a test says at which bytes there is a race with which
abbrev pub IsFirstBelow : (thread_at : ℕ → ℕ → Bool) → (n : ℕ) → Option Race → Type 0
IsFirstBelow at n None = (u x : ℕ) → u < n → at u x ≡ true → ⊥
IsFirstBelow at n (Some r) = (r.other < n) × (at r.other r.address ≡ true) × ((u x : ℕ) → u < n →
    at u x ≡ true → (r.address ≤ x) × (r.address ≡ x → r.other ≤ u))

-- the thread's access races at the byte with one of the other thread
abbrev pub races_with : List Mark → (thread : ℕ) → Tested → (other x : ℕ) → Bool
races_with past t a u x = not (u == t) && meets_any a u (known past (OfThread t) u) past x
