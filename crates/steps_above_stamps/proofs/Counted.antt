-- The events of marks, as clocks count them.
use Rattle.std.proofs.Common.{◌≡◌, ℕ, suc, Bool, true, false, ◌&&◌, ◌||◌, cond, eqb, List, [], ◌∷◌, map, length, refl, sym, ap, ◌∙◌}
use Rattle.run_events.specs.declared.key.Key.{Key}
use Rattle.run_events.specs.declared.key.KeyMark.{KeyMark}
use Rattle.marks.specs.Marks.{Event, Act, Turn, Load, Store, Enter, Leave, Step, Fault, Made, Mark, is_event}
use Rattle.marks.specs.Bytes.{Byte}
use Rattle.logical_clock.specs.Events.{Occurrence, occurrence, is_among, count}
use Rattle.logical_clock.specs.Events as clocks
use Rattle.replay_runs.specs.Runs.{Link, OfThread, OfKey, same_key, is_listed, keys_of, has, events_with}
use Rattle.replay_runs.specs.Laws.{fresh}
use Rattle.steps_above_stamps.specs.Stamps.{and_event, occurrences}

-- the links of a mark, by its thread and what it does
abbrev pub has_act : ℕ → Act → Link → Bool
has_act thread a (OfThread t) = is_event a && eqb thread t
has_act thread a (OfKey k) = is_listed (keys_of a) k

pub has_is : (m : Mark) (l : Link) → has m l ≡ has_act m.thread m.act l
has_is m (OfThread t) = refl
has_is m (OfKey k) = refl

among_same : (qs : List KeyMark) (k : Key) → is_among (map (λ (q : KeyMark). q.key) qs) k ≡ is_listed qs k
among_same [] k = refl
among_same (q ∷ qs) k = ap (λ b. same_key q.key k || b) (among_same qs k)

pub has_event : (t : ℕ) (e : Event) (l : Link) → clocks.has (occurrence t (map (λ (q : KeyMark). q.key) e.keys)) l ≡ has_act t (Made e) l
has_event t e (OfThread u) = refl
has_event t e (OfKey k) = among_same e.keys k

count_act : (t : ℕ) (a : Act) (l : Link) (past : List Occurrence) → count l (and_event t a past) ≡ cond (has_act t a l) (suc (count l past)) (count l past)
count_act t (Made e) l past = ap (λ b. cond b (suc (count l past)) (count l past)) (has_event t e l)
count_act t Turn (OfThread u) past = refl
count_act t Turn (OfKey k) past = refl
count_act t (Load origin at bytes) (OfThread u) past = refl
count_act t (Load origin at bytes) (OfKey k) past = refl
count_act t (Store origin at bytes) (OfThread u) past = refl
count_act t (Store origin at bytes) (OfKey k) past = refl
count_act t (Enter func args at bytes) (OfThread u) past = refl
count_act t (Enter func args at bytes) (OfKey k) past = refl
count_act t (Leave at size) (OfThread u) past = refl
count_act t (Leave at size) (OfKey k) past = refl
count_act t (Step func args result ins pieces freed) (OfThread u) past = refl
count_act t (Step func args result ins pieces freed) (OfKey k) past = refl
count_act t (Fault kind crosses ins outs access) (OfThread u) past = refl
count_act t (Fault kind crosses ins outs access) (OfKey k) past = refl

one_more : (b : Bool) (m : Mark) (events : List Mark) (n : ℕ) → length events ≡ n → length (cond b (m ∷ events) events) ≡ cond b (suc n) n
one_more true m events n e = ap suc e
one_more false m events n e = e

-- events with a link are as many as are counted
pub events_counted : (memory : ℕ → Byte) (l : Link) (past : List Mark) → length (events_with (fresh memory) l past) ≡ count l (occurrences past)
events_counted memory l [] = refl
events_counted memory l (m ∷ past) =
    one_more (has m l) m (events_with (fresh memory) l past) (count l (occurrences past)) (events_counted memory l past)
    ∙ ap (λ b. cond b (suc (count l (occurrences past))) (count l (occurrences past))) (has_is m l)
    ∙ sym (count_act m.thread m.act l (occurrences past))
