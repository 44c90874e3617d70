-- Steps that are counted, one after another.
use Rattle.std.proofs.Common.{◌≡◌, ◌≢◌, ℕ, ◌+◌, ◌<◌, Bool, true, false, cond, eqb, List, ◌∷◌, length, get_or, set, refl, sym, ap, ◌∙◌, subst, arith, eqb-true}
use Rattle.std.specs.Prelude.{slice_index}
use Rattle.std.proofs.lemmas.Bool.{eqb-false}
use Rattle.std.proofs.lemmas.List.{get_or-set_same, get_or-set_other, set-set, set-get_or}
use Rattle.marks.specs.Places.{thread_count}
use Rattle.marks.specs.Marks.{Act, Turn, Load, Store, Enter, Leave, Step, Fault, Made, Mark, is_event}
use Rattle.marks.specs.Bytes.{Byte}
use Rattle.logical_clock.specs.Events.{Occurrence}
use Rattle.logical_clock.specs.Counts.{Counts}
use Rattle.logical_clock.specs.Counts as clocks
use Rattle.replay_runs.specs.Runs.{Link, counts, events_with, last_clock, marks_of, steps_since}
use Rattle.replay_runs.specs.Laws.{fresh}
use Rattle.steps_above_stamps.specs.State.{StampsState}
use Rattle.steps_above_stamps.specs.Stamps.{AreStampsOf, and_event, occurrences, with_steps}
use Rattle.steps_above_stamps.proofs.Plain.{no_link}

-- a step is no event
no_event : (a : Act) → counts a ≡ 1 → is_event a ≡ false
no_event Turn e = refl
no_event (Load o at bytes) e = refl
no_event (Store o at bytes) e = refl
no_event (Enter f args at bytes) e = refl
no_event (Leave at size) e = refl
no_event (Step f args v ins pieces freed) e = refl
no_event (Fault kind crosses ins outs access) e = refl
no_event (Made ev) e = absurd cc

none_more : (t : ℕ) (a : Act) (past : List Occurrence) → counts a ≡ 1 → and_event t a past ≡ past
none_more t Turn past e = refl
none_more t (Load o at bytes) past e = refl
none_more t (Store o at bytes) past e = refl
none_more t (Enter f args at bytes) past e = refl
none_more t (Leave at size) past e = refl
none_more t (Step f args v ins pieces freed) past e = refl
none_more t (Fault kind crosses ins outs access) past e = refl
none_more t (Made ev) past e = absurd cc

-- one more step is counted
pub one_counted : (memory : ℕ → Byte) (past : List Mark) (m : Mark) (s : StampsState) (t : ℕ) → m.thread ≡ t → counts m.act ≡ 1 → t < length s.steps → AreStampsOf memory past s → AreStampsOf memory (m ∷ past) (with_steps t 1 s)
one_counted memory past m s t is counted lt h = record {
  counts = subst (λ os. Counts os s.clocks) (sym same) h.counts;
  clocks = λ l. ap last_clock (unlinked l) ∙ (h.clocks l ∙ ap (λ os. clocks.last_clock os l) (sym same));
  steps = λ u few. since u few (eqb m.thread u) refl;
}
  where
    same : occurrences (m ∷ past) ≡ occurrences past
    same = none_more m.thread m.act (occurrences past) counted

    unlinked : (l : Link) → events_with (fresh memory) l (m ∷ past) ≡ events_with (fresh memory) l past
    unlinked l = ap (λ b. cond b (m ∷ events_with (fresh memory) l past) (events_with (fresh memory) l past)) (no_link m l (no_event m.act counted))

    one_more : (u : ℕ) → steps_since (m ∷ marks_of (fresh memory) u past) ≡ 1 + steps_since (marks_of (fresh memory) u past)
    one_more u = ap (λ b. cond b 0 (counts m.act + steps_since (marks_of (fresh memory) u past))) (no_event m.act counted) ∙ ap (λ n. n + steps_since (marks_of (fresh memory) u past)) counted

    since : (u : ℕ) → u < thread_count → (b : Bool) → eqb m.thread u ≡ b → slice_index (with_steps t 1 s).steps u ≡ steps_since (marks_of (fresh memory) u (m ∷ past))
    since u few true e =
        let here : t ≡ u = sym is ∙ eqb-true m.thread u e in
        subst (λ v. slice_index (with_steps t 1 s).steps v ≡ 1 + steps_since (marks_of (fresh memory) v past)) here (get_or-set_same s.steps t (get_or s.steps t 0 + 1) 0 lt ∙ (let n = h.steps t (subst (λ v. v < thread_count) (sym here) few) in omega (arith, n)))
        ∙ sym (one_more u) ∙ sym (ap (λ b. steps_since (cond b (m ∷ marks_of (fresh memory) u past) (marks_of (fresh memory) u past))) e)
    since u few false e =
        let other : u ≢ t = λ z. eqb-false m.thread u e (is ∙ sym z) in
        get_or-set_other s.steps t u (get_or s.steps t 0 + 1) 0 other ∙ h.steps u few ∙ sym (ap (λ b. steps_since (cond b (m ∷ marks_of (fresh memory) u past) (marks_of (fresh memory) u past))) e)

-- none, and one more after some
pub none_counted : (s : StampsState) (t : ℕ) → with_steps t 0 s ≡ s
none_counted s t = ap (λ (xs : List ℕ). record { clocks = s.clocks; steps = xs }) (ap (set s.steps t) (omega arith) ∙ set-get_or s.steps t 0)

pub one_after : (s : StampsState) (t n : ℕ) → t < length s.steps → with_steps t 1 (with_steps t n s) ≡ with_steps t (n + 1) s
one_after s t n lt =
    let at : get_or (set s.steps t (get_or s.steps t 0 + n)) t 0 ≡ get_or s.steps t 0 + n = get_or-set_same s.steps t (get_or s.steps t 0 + n) 0 lt in
    let more : get_or (set s.steps t (get_or s.steps t 0 + n)) t 0 + 1 ≡ get_or s.steps t 0 + (n + 1) = omega (arith, at) in
    ap (λ (xs : List ℕ). record { clocks = s.clocks; steps = xs }) (set-set s.steps t (get_or s.steps t 0 + n) _ ∙ ap (set s.steps t) more)
