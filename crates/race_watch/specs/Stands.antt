-- What a watch keeps of what it was told.
use Rattle.std.specs.Prelude.{◌≡◌, ◌≢◌, ℕ, ◌+◌, ◌<◌, ◌≤◌, ◌^◌, Bool, true, false, ◌||◌, if◌then◌else◌, ◌⊎◌, List, [], ◌∷◌, length, get_or, slice_index, Result, Err}
use Rattle.std.specs.List.{All}
use Rattle.run_events.specs.declared.key.Key.{Key}
use Rattle.marks.specs.declared.range.Range.{Range}
use Rattle.marks.specs.Ranges.{IsInRange, covers}
use Rattle.causal_order.specs.Order.{OfThread, OfKey}
use Rattle.logical_clock.specs.Names.{name}
use Rattle.race_watch.specs.declared.error.WatchError.{WatchError}
use Rattle.race_watch.specs.declared.error.WatchError.TheVariants.{Race}
use Rattle.race_watch.specs.declared.seen.Seen.{Seen}
use Rattle.race_watch.specs.Rows.{row_at}
use Rattle.race_watch.specs.State.{WatchState}
use Rattle.race_watch.specs.Told.{Told, Accessed, Happened, place, wrote, touched, knows, IsRaced, IsRace}
use Rattle.race_watch.specs.Hits.{In}
use Rattle.marks.specs.Places.{is_constant}
use Rattle.race_watch.specs.Tables.{ArePut, listed}

-- an access of the byte by u was seen, no earlier than so many events, that counts where it races with
-- reads too, or writes
pub record Found (seen : List Seen) (write : Bool) (u x n : ℕ) : Type 0 where
  pub one : Seen
  pub one_in : In one seen
  pub of : one.thread ≡ u
  pub counts : (write || one.write) ≡ true
  pub covered : covers one.range x ≡ true
  pub later : n ≤ one.place

-- how many events there are
abbrev pub event_count : List Told → ℕ
event_count [] = 0
event_count (Accessed t range write ∷ past) = event_count past
event_count (Happened m ∷ past) = event_count past + 1

-- the accesses that were seen and the epochs stand for the last access by each thread of each byte that is no
-- constant, that counts where it races with reads too, or with writes alone
pub record IsLastSeen (seen : List Seen) (epochs : Bool → ℕ → ℕ → ℕ) (past : List Told) : Type 0 where
  pub sound : (s : Seen) (write : Bool) (x : ℕ) → In s seen → (write || s.write) ≡ true →
      covers s.range x ≡ true → s.place < (if write then touched s.thread x past else wrote s.thread x past)
  pub below : (write : Bool) (u x : ℕ) → epochs write u x ≤ (if write then touched u x past
      else wrote u x past)
  pub complete : (write : Bool) (u x n : ℕ) → is_constant x ≡ false →
      n < (if write then touched u x past else wrote u x past) →
      Found seen write u x n ⊎ (n < epochs write u x)

-- the watch was told this
pub record Stands (past : List Told) (w : WatchState) : Type 0 where
  pub events : w.events ≡ event_count past
  pub made : (t : ℕ) → t < length w.made → slice_index w.made t ≡ place t past
  pub rows : (t u : ℕ) → t < length w.rows → u < 32 →
      slice_index (get_or w.rows t []) u ≡ knows past (OfThread t) u
  pub keys : (k : Key) (u : ℕ) → u < 32 → slice_index (row_at w.keys (name k)) u ≡ knows past (OfKey k) u
  pub seen : IsLastSeen w.seen (listed w.epochs) past

-- what a thread accessed since its last event no other thread accesses unknown to it
abbrev pub IsQuiet : List Told → Type 0
IsQuiet past = (write : Bool) (t u x : ℕ) → u ≢ t → is_constant x ≡ false → x < 2 ^ 64 →
    place t past < (if write then wrote t x past else touched t x past) →
    (if write then touched u x past else wrote u x past) ≤ knows past (OfThread t) u

-- something leads to this, with at most 32 threads
pub record Reached (w : WatchState) : Type 0 where
  pub past : List Told
  pub stands : Stands past w
  pub quiet : IsQuiet past
  pub few_events : w.events ≤ 4000000000
  pub width : length w.made ≡ length w.rows
  pub few : length w.rows ≤ 32
  pub threads : All (λ (s : Seen). s.thread < 32) w.seen

-- no race at any byte of the range
abbrev pub NoRace : List Told → ℕ → Range → Bool → Type 0
NoRace past t range write = (x u : ℕ) → IsInRange range x → IsRaced t write past x u → ⊥

-- the race is answered, where there is one
abbrev pub Answers : List Told → ℕ → Range → Bool → Result Unit WatchError → Type 0
Answers past t range write (Err (Race other addr)) = IsRace t range write past other addr
Answers past t range write _ = NoRace past t range write

-- whatever the old watch was told, the new one was told that and this
abbrev pub WasTold : Told → WatchState → WatchState → Type 0
WasTold one old new = (past : List Told) → Stands past old → Stands (one ∷ past) new

-- the new watch was told what the old one was
abbrev pub WasToldNoMore : WatchState → WatchState → Type 0
WasToldNoMore old new = (past : List Told) → Stands past old → Stands past new

-- by whatever the watch was told, the race is answered, where there is one
abbrev pub AnswersBy : WatchState → ℕ → Range → Bool → Result Unit WatchError → Type 0
AnswersBy w t range write result = (past : List Told) → Stands past w → Answers past t range write result

-- the same bytes by the same thread, in the same way
abbrev pub AreAlike : Seen → Seen → Type 0
AreAlike s one = (s.thread ≡ one.thread) × (s.range ≡ one.range) × (s.write ≡ one.write)

-- a list with one more access, which may stand in the place of one alike
pub record Puts (old new : List Seen) (one : Seen) : Type 0 where
  pub each : (s : Seen) → In s new → In s old ⊎ (s ≡ one)
  pub has : In one new
  pub keeps : (s : Seen) → In s old → In s new ⊎ AreAlike s one

-- an access alike stands at this place
pub record IsAlikeAt (seen : List Seen) (i : ℕ) (one : Seen) : Type 0 where
  pub within : i < length seen
  pub alike : (d : Seen) → AreAlike (get_or seen i d) one

-- an access is kept, in the list or by the epochs
abbrev pub IsNoted : List Seen → List Seen → (Bool → ℕ → ℕ → ℕ) → (Bool → ℕ → ℕ → ℕ) → Seen → Type 0
IsNoted old new before after one = (Puts old new one ×
    ((w : Bool) (u x : ℕ) → after w u x ≡ before w u x)) ⊎ ((new ≡ old) × ArePut before after one)
