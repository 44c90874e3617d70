-- How many events the watch was told of.
use Rattle.std.proofs.Common.{◌≡◌, ℕ, suc, ◌+◌, ◌≤◌, Bool, true, false, cond, List, [], ◌∷◌, length, refl, ap, ◌∙◌, arith}
use Rattle.marks.specs.declared.side.Side.TheVariants.{Replay}
use Rattle.marks.specs.declared.range.Range.{Range}
use Rattle.marks.specs.Marks.{Act, Turn, Load, Store, Enter, Leave, Step, Fault, Made, Mark, is_event}
use Rattle.marks.specs.Bytes.{late_event}
use Rattle.c_code.specs.MarkLists.{same_side}
use Rattle.race_watch.specs.Told.{Told}
use Rattle.race_watch.specs.Stands.{event_count}
use Rattle.race_watch_laws.specs.Told.{tell, accesses, happens, told_act, told, read_by, written_by}
use Rattle.whole_runs.specs.World.{World}
use Rattle.whole_runs.specs.Sides.{seen}
use Rattle.whole_runs.specs.Ends.{Follows, events_of, most_events}
use Rattle.recorder_memory.specs.Laws.{EventsAreFew}

tell_none : (t : ℕ) (b : Bool) (rs : List Range) (past : List Told) → event_count (tell t b rs past) ≡ event_count past
tell_none t b [] past = refl
tell_none t b (r ∷ rs) past = tell_none t b rs _

accesses_none : (t : ℕ) (a : Act) (past : List Told) → event_count (accesses t a past) ≡ event_count past
accesses_none t a past = tell_none t true (written_by a) _ ∙ tell_none t false (read_by a) past

abbrev one_if : Bool → ℕ
one_if true = 1
one_if false = 0

plus_none : (n : ℕ) → n ≡ n + 0
plus_none n = omega arith

plus_one : (n : ℕ) → suc n ≡ n + 1
plus_one n = omega arith

act_count : (t : ℕ) (a : Act) (past : List Told) → event_count (told_act t a past) ≡ event_count past + one_if (is_event a)
act_count t Turn past = accesses_none t Turn past ∙ plus_none (event_count past)
act_count t (Load o at bytes) past = accesses_none t (Load o at bytes) past ∙ plus_none (event_count past)
act_count t (Store o at bytes) past = accesses_none t (Store o at bytes) past ∙ plus_none (event_count past)
act_count t (Enter f args at bytes) past = accesses_none t (Enter f args at bytes) past ∙ plus_none (event_count past)
act_count t (Leave at size) past = accesses_none t (Leave at size) past ∙ plus_none (event_count past)
act_count t (Step f args v ins pieces freed) past = accesses_none t (Step f args v ins pieces freed) past ∙ plus_none (event_count past)
act_count t (Fault k c ins outs access) past = accesses_none t (Fault k c ins outs access) past ∙ plus_none (event_count past)
act_count t (Made e) past = go (late_event e.kind)
  where
    go : (b : Bool) → event_count (cond b (accesses t (Made e) (happens t e past)) (happens t e (accesses t (Made e) past))) ≡ event_count past + 1
    go true = accesses_none t (Made e) (happens t e past)
    go false = ap (λ n. n + 1) (accesses_none t (Made e) past)

count_more : (m : Mark) (b : Bool) → is_event m.act ≡ b → (ms : List Mark) → length (events_of (m ∷ ms)) ≡ length (events_of ms) + one_if b
count_more m b e ms = elim b as (λ c. is_event m.act ≡ c → length (cond (is_event m.act) (m ∷ events_of ms) (events_of ms)) ≡ length (events_of ms) + one_if c) [
  | true ↦ (λ z. ap (λ c. length (cond c (m ∷ events_of ms) (events_of ms))) z ∙ plus_one (length (events_of ms)))
  | false ↦ (λ z. ap (λ c. length (cond c (m ∷ events_of ms) (events_of ms))) z ∙ plus_none (length (events_of ms)))
] e

told_count : (ms : List Mark) → event_count (told ms) ≡ length (events_of ms)
told_count [] = refl
told_count (m ∷ ms) =
    let n = act_count m.thread m.act (told ms) in
    let k = count_more m (is_event m.act) refl ms in
    let rest = told_count ms in
    omega (arith, n, k, rest)

seen_fewer : (ms : List Mark) → length (events_of (seen ms)) ≤ length (events_of ms)
seen_fewer [] = omega arith
seen_fewer (m ∷ ms) = go (seen_fewer ms) (same_side m.side Replay)
  where
    more : length (events_of (m ∷ ms)) ≡ length (events_of ms) + one_if (is_event m.act)
    more = count_more m (is_event m.act) refl ms

    go : length (events_of (seen ms)) ≤ length (events_of ms) → (b : Bool) → length (events_of (cond b (m ∷ seen ms) (seen ms))) ≤ length (events_of (m ∷ ms))
    go rest true = let n = count_more m (is_event m.act) refl (seen ms) in omega (arith, n, more, rest)
    go rest false = omega (arith, more, rest)

few_events : (w : World) (past : List Mark) → Follows w past → length (events_of past) ≤ most_events
few_events w [] f = omega arith
few_events w (m ∷ past) f = go (few_events w past f.1) (is_event m.act) refl
  where
    go : length (events_of past) ≤ most_events → (b : Bool) → is_event m.act ≡ b → length (events_of (m ∷ past)) ≤ most_events
    go rest true e = let n = count_more m true e past in let room = f.0.room.events e in omega (arith, n, room)
    go rest false e = let n = count_more m false e past in omega (arith, n, rest)

pub few : (w : World) → EventsAreFew w
few w past memory f h =
    let told' = h.above.watch.events in
    let n = told_count (seen past) in
    let k = seen_fewer past in
    let m = few_events w past f in
    omega (arith, told', n, k, m)
