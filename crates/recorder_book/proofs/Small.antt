-- The events of a run, and the bytes of their records, are few.
use Rattle.std.proofs.Common.{◌≡◌, ℕ, suc, ◌+◌, ◌*◌, ◌≤◌, ◌<◌, Bool, true, false, cond, List, [], ◌∷◌, ◌++◌, length, refl, arith}
use Rattle.std.specs.Prelude.{sum_by}
use Rattle.std.specs.List.{AllByRecursion}
use Rattle.std.proofs.lemmas.List.Sums.{sum_by-cons}
use Rattle.marks.specs.Marks.{Mark, is_event}
use Rattle.whole_runs.specs.World.{World}
use Rattle.whole_runs.specs.Records.{size_of}
use Rattle.whole_runs.specs.Ends.{Follows, bytes_of, events_of, most_bytes, most_events}
use Rattle.recorder_book.specs.Book.{BookState, IsBookOf, IsShort, IsSmall, stop_size}

-- so many events at most, and so many bytes
record AreSmall (number size : ℕ) (events : List Mark) : Type 0 where
  few : length events ≤ number
  short : sum_by size_of events ≤ size

steps_small : (w : World) (past : List Mark) → Follows w past → AreSmall most_events most_bytes (events_of past)
steps_small w [] h = record { few = omega arith; short = omega arith }
steps_small w (m ∷ past) h = go (is_event m.act) h.0.room.events h.0.room.bytes (steps_small w past h.1)
  where
    go : (b : Bool) → (b ≡ true → length (events_of past) < most_events) → (b ≡ true → bytes_of past + size_of m ≤ most_bytes) → AreSmall most_events most_bytes (events_of past) → AreSmall most_events most_bytes (cond b (m ∷ events_of past) (events_of past))
    go true few short before = record { few = omega (arith, few refl); short = omega (arith, short refl, sum_by-cons size_of m (events_of past)) }
    go false few short before = before

all_small : (n size : ℕ) (past after : List Mark) → AllByRecursion IsShort after → AreSmall n size (events_of past) → AreSmall (n + length after) (size + stop_size * length after) (events_of (after ++ past))
all_small n size past [] h before = record { few = omega (arith, before.few); short = omega (arith, before.short) }
all_small n size past (m ∷ after) h before = go (is_event m.act) h.0 (all_small n size past after h.1 before)
  where
    go : (b : Bool) → (b ≡ true → size_of m ≤ stop_size) → AreSmall (n + length after) (size + stop_size * length after) (events_of (after ++ past))
        → AreSmall (n + suc (length after)) (size + stop_size * suc (length after)) (cond b (m ∷ events_of (after ++ past)) (events_of (after ++ past)))
    go true short rest = record { few = omega (arith, rest.few); short = omega (arith, rest.short, short refl, sum_by-cons size_of m (events_of (after ++ past))) }
    go false short rest = record { few = omega (arith, rest.few); short = omega (arith, rest.short) }

pub is_small : (w : World) (past after : List Mark) (b : BookState) → Follows w past → AllByRecursion IsShort after → IsBookOf w (after ++ past) b → IsSmall (length after) b
is_small w past after b f short h =
    let s = all_small most_events most_bytes past after short (steps_small w past f) in
    record { events = omega (arith, h.events, s.few); bytes = omega (arith, h.bytes, s.short) }
