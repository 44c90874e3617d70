-- What a watch is told, the newest first, and which accesses race.
use Rattle.std.specs.Prelude.{◌≡◌, ◌≢◌, ℕ, suc, ◌<◌, ◌≤◌, max, Bool, false, ◌&&◌, if◌then◌else◌, ◌==◌, List, [], ◌∷◌}
use Rattle.marks.specs.Places.{is_constant}
use Rattle.marks.specs.declared.range.Range.{Range}
use Rattle.marks.specs.Ranges.{covers, IsLeastIn}
use Rattle.causal_order.specs.Order.{Link, OfThread}
use Rattle.logical_clock.specs.Events.{Occurrence, has}
use Rattle.logical_clock.specs.Counts.{latest}

-- a thread reads or writes the bytes of a range, or an event was made
pub data Told : Type 0 where
  Accessed : (thread : ℕ) (range : Range) (write : Bool) → Told
  Happened : (event : Occurrence) → Told

-- how many events the thread has made
abbrev pub place : ℕ → List Told → ℕ
place t [] = 0
place t (Accessed u range write ∷ past) = place t past
place t (Happened m ∷ past) = if m.thread == t then suc (place t past) else place t past

-- one more than the place at the thread's last write of the byte, 0 where there is none
abbrev pub wrote : ℕ → ℕ → List Told → ℕ
wrote u x [] = 0
wrote u x (Accessed t range write ∷ past) = if t == u &&
    (write && covers range x) then suc (place u past) else wrote u x past
wrote u x (Happened m ∷ past) = wrote u x past

-- the same of its last access of the byte
abbrev pub touched : ℕ → ℕ → List Told → ℕ
touched u x [] = 0
touched u x (Accessed t range write ∷ past) =
    if t == u && covers range x then suc (place u past) else touched u x past
touched u x (Happened m ∷ past) = touched u x past

-- how many of u's events the event of m tells of, where its links told this before
abbrev pub learned : (Link → ℕ → ℕ) → ℕ → Occurrence → ℕ → ℕ
learned known place m u = max (if m.thread == u then suc place else 0) (latest (λ l. known l u) m)

-- how many of u's events lead to the newest event with the link, or are it
abbrev pub knows : List Told → Link → ℕ → ℕ
knows [] l u = 0
knows (Accessed t range write ∷ past) l u = knows past l u
knows (Happened m ∷ past) l u = if has m l then learned (knows past) (place m.thread past) m u
    else knows past l u

-- an access of the byte by t races with an earlier one by u: t doesn't know u's last write of it, or where
-- it writes, u's
-- last access of it
pub record IsRaced (t : ℕ) (write : Bool) (past : List Told) (x u : ℕ) : Type 0 where
  pub other : u ≢ t
  pub no_constant : is_constant x ≡ false
  pub unknown : knows past (OfThread t) u < (if write then touched u x past else wrote u x past)

-- the race that is answered: the least byte of the range at which there is one, and the least thread of it
pub record IsRace (t : ℕ) (range : Range) (write : Bool) (past : List Told) (other addr : ℕ) : Type 0 where
  pub first : IsLeastIn range (λ x. (u : ℕ) × IsRaced t write past x u) addr
  pub raced : IsRaced t write past addr other
  pub least : (u : ℕ) → IsRaced t write past addr u → other ≤ u
