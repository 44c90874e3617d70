-- What the clocks keep of the events so far.
use Rattle.std.specs.Prelude.{◌≡◌, ℕ, suc, ◌<◌, max, if◌then◌else◌, List, [], ◌∷◌, length, slice_index}
use Rattle.run_events.specs.declared.key.Key.{Key}
use Rattle.run_events.specs.declared.event.Stamp.{Stamp}
use Rattle.causal_order.specs.Order.{Link, OfThread, OfKey}
use Rattle.logical_clock.specs.State.{ClockState}
use Rattle.logical_clock.specs.Events.{Occurrence, has, count, IsStamp}
use Rattle.logical_clock.specs.Names.{name, greatest_of}
use Rattle.logical_clock.specs.Kept.{counted_at}

-- the greatest of these numbers of the event's links
abbrev pub latest : (Link → ℕ) → Occurrence → ℕ
latest last m = max (last (OfThread m.thread)) (greatest_of (λ k. last (OfKey k)) m.keys)

-- the clock of the last event with the link, 0 where there is none
abbrev pub last_clock : List Occurrence → Link → ℕ
last_clock [] l = 0
last_clock (m ∷ past) l = if has m l then suc (latest (last_clock past) m) else last_clock past l

-- the clocks are those after these events
pub record Counts (past : List Occurrence) (c : ClockState) : Type 0 where
  pub events : c.events ≡ length past
  pub of_threads : (t : ℕ) → t < length c.threads → slice_index c.threads t ≡ last_clock past (OfThread t)
  pub of_keys : (k : Key) → counted_at c.keys (name k) ≡
      record { events = count (OfKey k) past; clock = last_clock past (OfKey k) }

-- some events lead to this
abbrev pub Reached : ClockState → Type 0
Reached c = (past : List Occurrence) × Counts past c

-- whatever events the old clocks count, the new ones count those and this one
abbrev pub CountsOneMore : Occurrence → ClockState → ClockState → Type 0
CountsOneMore m old new = (past : List Occurrence) → Counts past old → Counts (m ∷ past) new

-- the new clocks count what the old ones count
abbrev pub CountsNoMore : ClockState → ClockState → Type 0
CountsNoMore old new = (past : List Occurrence) → Counts past old → Counts past new

-- whatever events the clocks count, this is the stamp of the event after them
abbrev pub StampsAfter : ClockState → Occurrence → Stamp → Type 0
StampsAfter c m s = (past : List Occurrence) → Counts past c → IsStamp past m s
