-- The records of each thread of a run, one mark further.
use Rattle.std.proofs.Common.{◌≡◌, ℕ, ◌<◌, Bool, true, false, ◌&&◌, cond, eqb, List, [], ◌∷◌, ◌++◌, map, length, get_or, reverse, ⊎_elim, refl, sym, ap, subst, ◌∙◌, arith, eq-eqb}
use Rattle.std.specs.List.{range_with_len}
use Rattle.std.proofs.Math.ListN.{set}
use Rattle.std.proofs.lemmas.Bool.{cases_eq}
use Rattle.std.proofs.lemmas.Bool.Decides.{nat_tests}
use Rattle.std.proofs.lemmas.List.{length-map, length-set, length-reverse, get_or-map, get_or-set_same, get_or-set_other, ext_get_or}
use Rattle.std.proofs.lemmas.List.FromFn.{get_or-range_with_len, length-range_with_len}
use Rattle.run_events.specs.declared.event.Record.{Record}
use Rattle.marks.specs.Places.{thread_count}
use Rattle.marks.specs.Marks.{Mark, is_event}
use Rattle.replay_runs.specs.Runs.{OfThread, events_with, history}
use Rattle.whole_runs.specs.World.{World, begin}
use Rattle.whole_runs.specs.Sides.{events_by}
use Rattle.whole_runs.specs.Records.{full_record}
use Rattle.whole_runs.specs.Recorded.{full_records}
use Rattle.recorder_book.proofs.Lists.{reverse_cons}

-- the records of a thread, the oldest first
abbrev pub records_by : World → ℕ → List Mark → List Record
records_by w t run = reverse (history full_record (begin w) t run)

pub count_is : (w : World) (t : ℕ) (run : List Mark) → length (records_by w t run) ≡ events_by w t run
count_is w t run = length-reverse (history full_record (begin w) t run) ∙ length-map (events_with (begin w) (OfThread t) run) full_record

pub own_event : (w : World) (t : ℕ) (past : List Mark) (m : Mark) → is_event m.act ≡ true → m.thread ≡ t → events_with (begin w) (OfThread t) (m ∷ past) ≡ m ∷ events_with (begin w) (OfThread t) past
own_event w t past m made is = ap (λ b. cond b (m ∷ events_with (begin w) (OfThread t) past) (events_with (begin w) (OfThread t) past)) (λ i. made i && eq-eqb m.thread t is i)

pub other_event : (w : World) (t : ℕ) (past : List Mark) (m : Mark) → (m.thread ≡ t → ⊥) → events_with (begin w) (OfThread t) (m ∷ past) ≡ events_with (begin w) (OfThread t) past
other_event w t past m ne =
    let b : eqb m.thread t ≡ false = grind (arith, nat_tests) in
    ap (λ b. cond b (m ∷ events_with (begin w) (OfThread t) past) (events_with (begin w) (OfThread t) past)) (ap (λ x. is_event m.act && x) b ∙ none (is_event m.act))
  where
    none : (b : Bool) → (b && false) ≡ false
    none true = refl
    none false = refl

pub plain_event : (w : World) (t : ℕ) (past : List Mark) (m : Mark) → is_event m.act ≡ false → events_with (begin w) (OfThread t) (m ∷ past) ≡ events_with (begin w) (OfThread t) past
plain_event w t past m plain = ap (λ b. cond (b && eqb m.thread t) (m ∷ events_with (begin w) (OfThread t) past) (events_with (begin w) (OfThread t) past)) plain

pub own_records : (w : World) (t : ℕ) (past : List Mark) (m : Mark) → is_event m.act ≡ true → m.thread ≡ t → records_by w t (m ∷ past) ≡ records_by w t past ++ full_record m ∷ []
own_records w t past m made is = ap (λ es. reverse (map full_record es)) (own_event w t past m made is) ∙ reverse_cons (full_record m) (history full_record (begin w) t past)

pub other_records : (w : World) (t : ℕ) (past : List Mark) (m : Mark) → (m.thread ≡ t → ⊥) → records_by w t (m ∷ past) ≡ records_by w t past
other_records w t past m ne = ap (λ es. reverse (map full_record es)) (other_event w t past m ne)

pub records_count : (w : World) (run : List Mark) → length (full_records w run) ≡ thread_count
records_count w run = length-map (range_with_len 0 thread_count) (λ t. records_by w t run) ∙ length-range_with_len 0 thread_count

-- the list of all threads' records has them at the thread's place
pub records_at : (w : World) (run : List Mark) (t : ℕ) (d : List Record) → t < thread_count → get_or (full_records w run) t d ≡ records_by w t run
records_at w run t d lt =
    get_or-map (λ t. records_by w t run) (range_with_len 0 thread_count) t 0 d (omega (arith, lt, length-range_with_len 0 thread_count))
    ∙ ap (λ u. records_by w u run) (get_or-range_with_len 0 thread_count t 0 lt ∙ omega arith)

pub records_after : (w : World) (past : List Mark) (m : Mark) → is_event m.act ≡ true → m.thread < thread_count → set (full_records w past) m.thread (records_by w m.thread past ++ full_record m ∷ []) ≡ full_records w (m ∷ past)
records_after w past m made lt =
    ext_get_or [] (set (full_records w past) m.thread (records_by w m.thread past ++ full_record m ∷ [])) (full_records w (m ∷ past))
    (count ∙ sym (records_count w (m ∷ past)))
    (λ u below. at u (omega (arith, below, count)))
  where
    count : length (set (full_records w past) m.thread (records_by w m.thread past ++ full_record m ∷ [])) ≡ thread_count
    count = length-set (full_records w past) m.thread (records_by w m.thread past ++ full_record m ∷ []) ∙ records_count w past

    own : (u : ℕ) → u < thread_count → m.thread ≡ u → get_or (set (full_records w past) m.thread (records_by w m.thread past ++ full_record m ∷ [])) u [] ≡ get_or (full_records w (m ∷ past)) u []
    own u below is =
        subst (λ v. get_or (set (full_records w past) m.thread (records_by w m.thread past ++ full_record m ∷ [])) v [] ≡ get_or (full_records w (m ∷ past)) v []) is
        (get_or-set_same (full_records w past) m.thread (records_by w m.thread past ++ full_record m ∷ []) [] (omega (arith, lt, records_count w past))
        ∙ sym (own_records w m.thread past m made refl) ∙ sym (records_at w (m ∷ past) m.thread [] lt))

    other : (u : ℕ) → u < thread_count → (m.thread ≡ u → ⊥) → get_or (set (full_records w past) m.thread (records_by w m.thread past ++ full_record m ∷ [])) u [] ≡ get_or (full_records w (m ∷ past)) u []
    other u below ne =
        get_or-set_other (full_records w past) m.thread u (records_by w m.thread past ++ full_record m ∷ []) [] (λ e. ne (sym e))
        ∙ records_at w past u [] below ∙ sym (other_records w u past m ne) ∙ sym (records_at w (m ∷ past) u [] below)

    at : (u : ℕ) → u < thread_count → get_or (set (full_records w past) m.thread (records_by w m.thread past ++ full_record m ∷ [])) u [] ≡ get_or (full_records w (m ∷ past)) u []
    at u below = ⊎_elim (own u below) (other u below) (cases_eq m.thread u)
