-- Small lists of marks: one in which the guards are kept, and one in which the numbers of marks fall.
use Rattle.std.specs.Prelude.{◌≡◌, ℕ, ◌<◌, ◌==◌, if◌then◌else◌, List, [], ◌∷◌, Option, Some, None, false}
use Rattle.run_events.specs.declared.key.Class.TheVariants.{Mutex}
use Rattle.run_events.specs.declared.key.KeyMark.{KeyMark}
use Rattle.marks.specs.declared.side.Side.TheVariants.{Replay, System}
use Rattle.marks.specs.Marks.{EventKind, Call, Ret, NoRegion, Store, Step, Made, Mark}
use Rattle.marks.specs.Bytes.{place}
use Rattle.replay_runs.specs.Runs.{OfThread}
use Rattle.replay_runs.specs.Known.{known}
use Rattle.replay_runs.specs.Keys.{key}
use Rattle.lockset_check_laws.specs.Locks.{LockCalls, own, taken}
use Rattle.lockset_check_laws.specs.Order.{AtEach, IsExclusive, IsKeyed, IsHeld, Rises, GuardsKept}

abbrev pub calls : LockCalls
calls = record { lock = 4; unlock = 5 }

-- the mutex 0 guards the global 7
abbrev pub guard : ℕ → Option ℕ
guard o = if o == 7 then Some 0 else None

abbrev pub event : ℕ → ℕ → EventKind → List KeyMark → Mark
event t i kind keys = record {
  thread = t;
  side = Replay;
  index = i;
  act =
      Made (record { kind = kind; steps = 0; keys = keys; clock = 0 });
}

abbrev pub mutex : ℕ → List KeyMark
mutex n = record { key = key Mutex 0; ticket = n } ∷ []

abbrev pub locked : ℕ → ℕ → ℕ → Mark
locked t i n = event t i (Ret 4 (0 ∷ []) 0 false [] NoRegion) (mutex n)

abbrev pub unlocks : ℕ → ℕ → ℕ → Mark
unlocks t i n = event t i (Call 5 (0 ∷ []) [] [] []) (mutex n)

abbrev pub unlocked : ℕ → ℕ → Mark
unlocked t i = event t i (Ret 5 (0 ∷ []) 0 false [] NoRegion) []

abbrev pub writes_global : ℕ → ℕ → Mark
writes_global t i = record { thread = t; side = Replay; index = i; act = Store (Some 7) 268435456 (1 ∷ []) }

-- the thread 1 writes the global with this number, and then the thread 2 takes the mutex
abbrev pub handed_on : ℕ → List Mark
handed_on n = locked 2 1 2 ∷ unlocked 1 3 ∷ unlocks 1 2 1 ∷ writes_global 1 n ∷ locked 1 1 0 ∷ []

-- guards are kept in a list with an access by a thread whose mutex another one has taken since
abbrev pub SomeGuardsAreKept : Type 0
SomeGuardsAreKept = GuardsKept calls guard (writes_global 2 2 ∷ handed_on 2)

-- the numbers of marks must rise: where they fall, all other rules are kept and the access isn't known
pub record NumbersMustRise : Type 0 where
  pub exclusive : AtEach (IsExclusive calls) (handed_on 3)
  pub keyed : AtEach (IsKeyed calls) (handed_on 3)
  pub held : AtEach (IsHeld calls guard) (handed_on 3)
  pub takes : taken calls 0 (own 2 (handed_on 3)) ≡ Some Replay
  pub unknown : place (writes_global 1 3) < known (handed_on 3) (OfThread 2) 1 → ⊥

-- the thread 1 takes the mutex above the cut and writes the global, code below it unlocks, and the thread 2
-- takes the mutex
abbrev pub unlocked_below : List Mark
unlocked_below = locked 2 1 1 ∷ record {
  thread = 1;
  side = System;
  index = 2;
  act =
      Step 5 (0 ∷ []) 0 [] [] [];
} ∷ writes_global 1 2 ∷ locked 1 1 0 ∷ []

-- code below the cut must not give back what was taken above it: all other rules are kept and the access
-- isn't known
pub record SystemCodeDropsItsOwn : Type 0 where
  pub exclusive : AtEach (IsExclusive calls) unlocked_below
  pub keyed : AtEach (IsKeyed calls) unlocked_below
  pub rising : AtEach Rises unlocked_below
  pub takes : taken calls 0 (own 2 unlocked_below) ≡ Some Replay
  pub unknown : place (writes_global 1 2) < known unlocked_below (OfThread 2) 1 → ⊥
