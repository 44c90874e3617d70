-- The events of a run, the newest first: how they are numbered by what ties them to each other, and their
-- clocks and tickets.
use Rattle.std.specs.Prelude.{◌≡◌, ℕ, suc, Bool, true, false, ◌||◌, if◌then◌else◌, ◌==◌, List, [], ◌∷◌, map}
use Rattle.run_events.specs.declared.key.Key.{Key}
use Rattle.run_events.specs.declared.event.Stamp.{Stamp}
use Rattle.causal_order.specs.Order.{Link, OfThread, OfKey, same_key, IsClock}

-- the key is one of these
abbrev pub is_among : List Key → Key → Bool
is_among [] k = false
is_among (j ∷ ks) k = same_key j k || is_among ks k

-- no key stands twice in the list
abbrev pub AreDistinct : List Key → Type 0
AreDistinct [] = Unit {0}
AreDistinct (k ∷ ks) = (is_among ks k ≡ false) × AreDistinct ks

-- an event: the thread that makes it, and its keys
pub record Occurrence : Type 0 where
  pub thread : ℕ
  pub keys : List Key

abbrev pub occurrence : ℕ → List Key → Occurrence
occurrence thread keys = record { thread = thread; keys = keys }

-- the event is of the thread, or has the key
abbrev pub has : Occurrence → Link → Bool
has m (OfThread t) = m.thread == t
has m (OfKey k) = is_among m.keys k

-- how many of the events have the link
abbrev pub count : Link → List Occurrence → ℕ
count l [] = 0
count l (m ∷ past) = if has m l then suc (count l past) else count l past

-- each event as its history: itself, and the events before it
abbrev pub histories : List Occurrence → List (List Occurrence)
histories [] = []
histories (m ∷ past) = (m ∷ past) ∷ histories past

-- an event is numbered by each of its links: so many events before it have the link
abbrev pub numbered : List Occurrence → Link → ℕ → Type 0
numbered [] l n = ⊥
numbered (m ∷ past) l n = (has m l ≡ true) × (count l past ≡ n)

-- the logical clock of the newest event
abbrev pub IsClockOf : List Occurrence → ℕ → Type 0
IsClockOf run clock = IsClock numbered (histories run) clock run

-- the stamp of an event after these: its clock, and of each of its keys how many of these have it
pub record IsStamp (past : List Occurrence) (m : Occurrence) (s : Stamp) : Type 0 where
  pub clock : IsClockOf (m ∷ past) s.clock
  pub tickets : s.tickets ≡ map (λ k. count (OfKey k) past) m.keys
