-- The steps, tickets and keys of a run's events.
use Rattle.std.proofs.Common.{◌≡◌, ℕ, suc, ◌+◌, ◌^◌, ◌<◌, ◌≤◌, Bool, true, false, ◌||◌, cond, eqb, List, [], ◌∷◌, length, map, refl, sym, ap, ◌∙◌, arith}
use Rattle.std.specs.List.{AllByRecursion}
use Rattle.std.proofs.lemmas.Bool.{true≢false}
use Rattle.run_events.specs.declared.key.Key.{Key}
use Rattle.run_events.specs.declared.key.KeyMark.{KeyMark}
use Rattle.marks.specs.declared.side.Side.TheVariants.{Replay}
use Rattle.marks.specs.Marks.{Act, Turn, Load, Store, Enter, Leave, Step, Fault, Made, Mark, is_event}
use Rattle.marks.proofs.Touched.{or_true_left, or_true_right}
use Rattle.c_code.specs.MarkLists.{same_side}
use Rattle.log_codec.specs.LogText.{IsKey}
use Rattle.logical_clock.specs.Events.{is_among, AreDistinct}
use Rattle.replay_runs.specs.Runs.{Link, counts, has, is_listed, marks_of, new_events, same_key, steps_since, ticket_in}
use Rattle.replay_runs.proofs.Keys.{same_key_refl, same_key_true}
use Rattle.whole_runs.specs.World.{World, begin}
use Rattle.whole_runs.specs.Sides.{seen}
use Rattle.reference_recorder_records_laws.proofs.Words.{HaveWords}

-- no more steps than marks
one_step : (a : Act) (since n : ℕ) → since ≤ n → cond (is_event a) 0 (counts a + since) ≤ suc n
one_step Turn since n h = omega (arith, h)
one_step (Load origin at bytes) since n h = omega (arith, h)
one_step (Store origin at bytes) since n h = omega (arith, h)
one_step (Enter func args at bytes) since n h = omega (arith, h)
one_step (Leave at size) since n h = omega (arith, h)
one_step (Step func args result ins pieces freed) since n h = omega (arith, h)
one_step (Fault kind crosses ins outs access) since n h = omega (arith, h)
one_step (Made e) since n h = omega arith

pub steps_low : (w : World) (t : ℕ) (past : List Mark) → steps_since (marks_of (begin w) t (seen past)) ≤ length past
steps_low w t [] = omega arith
steps_low w t (m ∷ past) = go (same_side m.side Replay) (steps_low w t past)
  where
    own : (c : Bool) → steps_since (marks_of (begin w) t (seen past)) ≤ length past → steps_since (cond c (m ∷ marks_of (begin w) t (seen past)) (marks_of (begin w) t (seen past))) ≤ suc (length past)
    own true h = one_step m.act (steps_since (marks_of (begin w) t (seen past))) (length past) h
    own false h = omega (arith, h)

    go : (b : Bool) → steps_since (marks_of (begin w) t (seen past)) ≤ length past → steps_since (marks_of (begin w) t (cond b (m ∷ seen past) (seen past))) ≤ suc (length past)
    go true h = own (eqb m.thread t) h
    go false h = omega (arith, h)

-- no more events than marks
pub events_low : (l : Link) (past : List Mark) → length (new_events l past) ≤ length past
events_low l [] = omega arith
events_low l (m ∷ past) = go (has m l) (events_low l past)
  where
    go : (b : Bool) → length (new_events l past) ≤ length past → length (cond b (m ∷ new_events l past) (new_events l past)) ≤ suc (length past)
    go true h = omega (arith, h)
    go false h = omega (arith, h)

-- ---- keys with their tickets

listed_is : (qs : List KeyMark) (k : Key) → is_among (map (λ (q : KeyMark). q.key) qs) k ≡ is_listed qs k
listed_is [] k = refl
listed_is (q ∷ qs) k = ap (λ b. same_key q.key k || b) (listed_is qs k)

pub keys_are : (qs : List KeyMark) (n : ℕ) → n < 2 ^ 32 → HaveWords (map (λ (q : KeyMark). q.key) qs) → AreDistinct (map (λ (q : KeyMark). q.key) qs) →
    ((k : Key) → is_listed qs k ≡ true → ticket_in qs k ≤ n) → AllByRecursion IsKey qs
keys_are [] n lt words distinct tickets = tt
keys_are (q ∷ qs) n lt words distinct tickets = ((words.0, first), keys_are qs n lt words.1 distinct.1 more)
  where
    first : q.ticket < 2 ^ 32
    first =
        let same = same_key_refl q.key in
        let le = tickets q.key (or_true_left (same_key q.key q.key) (is_listed qs q.key) same) in
        let is = ap (λ b. cond b q.ticket (ticket_in qs q.key)) same in
        omega (arith, lt, le, is)

    more : (k : Key) → is_listed qs k ≡ true → ticket_in qs k ≤ n
    more k there = by (same_key q.key k) refl
      where
        by : (b : Bool) → same_key q.key k ≡ b → ticket_in qs k ≤ n
        by true same = absurd (true≢false (sym there ∙ (sym (listed_is qs k) ∙ (ap (is_among (map (λ (p : KeyMark). p.key) qs)) (sym (same_key_true q.key k same)) ∙ distinct.0))))
        by false other =
            let le = tickets k (or_true_right (same_key q.key k) (is_listed qs k) there) in
            let is = ap (λ b. cond b q.ticket (ticket_in qs k)) other in
            omega (arith, le, is)
