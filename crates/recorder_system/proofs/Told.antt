-- What a system is told of the ends of threads.
use Rattle.std.proofs.Common.{◌≡◌, ◌≢◌, inl, inr, ℕ, suc, ◌+◌, ◌<◌, ◌≤◌, pos, Bool, true, false, cond, ◌&&◌, not, eqb, List, [], ◌∷◌, length, map, set, Option, Some, None, refl, sym, ap, ◌∙◌, subst, arith, eqb-true}
use Rattle.std.specs.Prelude.{filter, is_some, slice_get, option_map}
use Rattle.std.specs.List.{list_all, range_with_len}
use Rattle.std.specs.Ordering.{int_eq}
use Rattle.std.proofs.lemmas.Bool.{true≢false, cases_eq}
use Rattle.std.proofs.lemmas.Option.{slice_get-map}
use Rattle.marks.specs.Marks.{Mark}
use Rattle.c_code.specs.Values.{written}
use Rattle.system_side.specs.declared.threads.Wait.{Wait}
use Rattle.system_side.specs.declared.threads.Wait.TheVariants.{Mutex, Thread}
use Rattle.system_side.specs.declared.threads.Standing.{Standing}
use Rattle.system_side.specs.declared.threads.Standing.TheVariants.{Ready, Waits, Ended}
use Rattle.system_side.specs.Threads.{has_not_ended, is_running, same_wait, woken}
use Rattle.system_side.specs.System.{SystemState}
use Rattle.whole_runs.specs.World.{World}
use Rattle.whole_runs.specs.Threads.{has_ended, result_of}
use Rattle.recorder_system.specs.Stands.{IsInt, IsSound, IsSystemBut, IsSystemOf, Stands, StandsAs, int_of, result_but, running_in}
use Rattle.recorder_system.specs.Calls.{NotesEnd, TellsEnd}
use Rattle.recorder_system.proofs.IntPatterns.{pattern_back, same_ints}
use Rattle.recorder_system.proofs.Lists.{count_less, count_map, count_some, get_set_other, get_set_same, length_map, length_set}
use Rattle.recorder_system.proofs.Standing.{running_there, within}
use Rattle.recorder_system.proofs.Stays.{but_none, but_other}

-- ---- a thread that goes on

pub goes_on : (w : World) (past : List Mark) (t : ℕ) (s : SystemState) → result_of w past t ≡ None → IsSystemBut t w past s → IsSystemOf w past s
goes_on w past t s none h = subst (λ (told : ℕ → Option ℕ). Stands w past told s) (λ i u. same u i) h
  where
    same : (u : ℕ) → result_but t w past u ≡ result_of w past u
    same u = elim (cases_eq u t) [
      | inl e ↦ but_none t w past u (ap (result_of w past) e ∙ none) ∙ sym (ap (result_of w past) e ∙ none)
      | inr ne ↦ but_other t w past u ne
    ]

-- ---- a thread that has ended

abbrev pub ended_in : SystemState → (t v : ℕ) → SystemState
ended_in s t v = record s { threads = map (woken (Thread (pos t))) (set s.threads t (Ended (int_of v))) }

module _ (w : World) (past : List Mark) (t v : ℕ) (s : SystemState) (int : IsInt v) (lt : t < length s.threads) (is : result_of w past t ≡ Some v) (h : IsSystemBut t w past s) where
  abbrev After : ℕ → Standing → Type 0
  After u at = StandsAs w past (result_of w past) u at

  told : (u : ℕ) (r : Option ℕ) → u ≢ t → result_but t w past u ≡ r → result_of w past u ≡ r
  told u r ne e = sym (but_other t w past u ne) ∙ e

  -- where another thread stands
  woken_other : (u : ℕ) (at : Standing) → u ≢ t → StandsAs w past (result_but t w past) u at → After u (woken (Thread (pos t)) at)
  woken_other u Ready ne stood = told u None ne stood
  woken_other u (Ended x) ne stood = told u (Some (written x)) ne stood
  woken_other u (Waits (Mutex x)) ne stood = (told u None ne stood.0, stood.1)
  woken_other u (Waits (Thread x)) ne stood = go (int_eq x (pos t)) refl
    where
      go : (b : Bool) → int_eq x (pos t) ≡ b → After u (cond b Ready (Waits (Thread x)))
      go true e = told u None ne stood.0
      go false e = (
        told u None ne stood.0,
        record {
          other = stood.1.other;
          number = stood.1.number;
          asks = stood.1.asks;
          is_another = stood.1.is_another;
          runs = told stood.1.other None (λ same. true≢false (sym (same_ints x (pos t) (stood.1.number ∙ ap pos same)) ∙ e)) stood.1.runs;
        },
      )

  abbrev or_at : Standing → Option Standing → Standing
  or_at at None = at
  or_at at (Some y) = y

  by : (x : Option Standing) (u : ℕ) (at : Standing) → u ≢ t → slice_get s.threads u ≡ x → option_map (woken (Thread (pos t))) x ≡ Some at → After u at
  by None u at ne e z = absurd cc
  by (Some before) u at ne e z = subst (After u) (ap (or_at at) z) (woken_other u before ne (h.threads u before e))

  its : (u : ℕ) (at : Standing) → u ≡ t → Some (Ended (int_of v)) ≡ Some at → After u at
  its u at same e = subst (After u) (ap (or_at at) e) (ap (result_of w past) same ∙ (is ∙ ap Some (sym (pattern_back v int))))

  each : (u : ℕ) (at : Standing) → slice_get (map (woken (Thread (pos t))) (set s.threads t (Ended (int_of v)))) u ≡ Some at → After u at
  each u at e =
      let of_map = sym (slice_get-map (woken (Thread (pos t))) (set s.threads t (Ended (int_of v))) u) ∙ e in
      elim (cases_eq u t) [
        | inl same ↦ its u at same (sym (ap (λ k. option_map (woken (Thread (pos t))) (slice_get (set s.threads t (Ended (int_of v))) k)) same ∙ ap (option_map (woken (Thread (pos t)))) (get_set_same s.threads t (Ended (int_of v)) lt)) ∙ of_map)
        | inr ne ↦ by (slice_get s.threads u) u at ne refl (ap (option_map (woken (Thread (pos t)))) (sym (get_set_other s.threads t u (Ended (int_of v)) ne)) ∙ of_map)
      ]

  told_end : IsSystemOf w past (ended_in s t v)
  told_end = record {
    schedule = h.schedule;
    count = length_map (woken (Thread (pos t))) (set s.threads t (Ended (int_of v))) ∙ (length_set s.threads t (Ended (int_of v)) ∙ h.count);
    threads = each;
    mutexes = h.mutexes;
    answers = h.answers;
    silent = h.silent;
  }

pub notes_end : (s : SystemState) (t v : ℕ) → IsInt v → has_not_ended s.threads t ≡ true → NotesEnd t v s (ended_in s t v)
notes_end s t v int running w past is h = told_end w past t v s int (within s.threads t running) is h

-- ---- how many run

pub woken_runs : (wait : Wait) (at : Standing) → is_running (woken wait at) ≡ is_running at
woken_runs wait Ready = refl
woken_runs wait (Ended v) = refl
woken_runs wait (Waits x) = go (same_wait x wait)
  where
    go : (b : Bool) → is_running (cond b Ready (Waits x)) ≡ true
    go true = refl
    go false = refl

pub some_run : (running : ℕ) (s : SystemState) (t : ℕ) → has_not_ended s.threads t ≡ true → IsSound running s → 1 ≤ running
some_run running s t is h =
    let x = running_there s.threads t is in
    let k = count_some is_running s.threads t x.0 x.1 x.2 in
    let r = h.running_is in
    omega (arith, k, r)

pub end_sound : (running : ℕ) (s : SystemState) (t v : ℕ) → has_not_ended s.threads t ≡ true → IsSound (suc running) s → IsSound running (ended_in s t v)
end_sound running s t v is h =
    let x = running_there s.threads t is in
    let less = count_less is_running s.threads t x.0 (Ended (int_of v)) x.1 x.2 refl in
    let same = count_map is_running (woken (Thread (pos t))) (set s.threads t (Ended (int_of v))) (woken_runs (Thread (pos t))) in
    let m = length_map (woken (Thread (pos t))) (set s.threads t (Ended (int_of v))) in
    let k = length_set s.threads t (Ended (int_of v)) in
    let few = h.few in
    let r = h.running_is in
    record { few = omega (arith, m, k, few); running_is = omega (arith, less, same, r) }

-- ---- whether all have ended

none_of_more : (n : ℕ) → eqb (suc n) 0 ≡ false
none_of_more n = go (eqb (suc n) 0) refl
  where
    go : (b : Bool) → eqb (suc n) 0 ≡ b → b ≡ false
    go true e = let k = eqb-true (suc n) 0 e in absurd (omega (arith, k))
    go false e = refl

all_in : (p : ℕ → Bool) (threads : List Standing) (from : ℕ) → ((i j : ℕ) (at : Standing) → j ≡ from + i → slice_get threads i ≡ Some at → p j ≡ not (is_running at)) → eqb (running_in threads) 0 ≡ list_all p (range_with_len from (length threads))
all_in p [] from h = refl
all_in p (at ∷ threads) from h = go (is_running at) refl (all_in p threads (from + 1) (λ i j x e k. h (suc i) j x (omega (arith, e)) k))
  where
    first : p from ≡ not (is_running at)
    first = h 0 from at (omega arith) refl

    go : (b : Bool) → is_running at ≡ b → eqb (running_in threads) 0 ≡ list_all p (range_with_len (from + 1) (length threads)) → eqb (length (cond b (at ∷ filter is_running threads) (filter is_running threads))) 0 ≡ (p from && list_all p (range_with_len (from + 1) (length threads)))
    go true e on = none_of_more (length (filter is_running threads)) ∙ sym (ap (λ b. b && list_all p (range_with_len (from + 1) (length threads))) (first ∙ ap not e))
    go false e on = on ∙ sym (ap (λ b. b && list_all p (range_with_len (from + 1) (length threads))) (first ∙ ap not e))

pub tells_end : (running : ℕ) (s : SystemState) → IsSound running s → TellsEnd s (eqb running 0)
tells_end running s sound w past h =
    ap (λ n. eqb n 0) sound.running_is
    ∙ (all_in (has_ended w past) s.threads 0 each ∙ ap (λ n. list_all (has_ended w past) (range_with_len 0 n)) h.count)
  where
    by : (i : ℕ) (at : Standing) → StandsAs w past (result_of w past) i at → has_ended w past i ≡ not (is_running at)
    by i Ready stood = ap is_some stood
    by i (Waits wait) stood = ap is_some stood.0
    by i (Ended v) stood = ap is_some stood

    each : (i j : ℕ) (at : Standing) → j ≡ 0 + i → slice_get s.threads i ≡ Some at → has_ended w past j ≡ not (is_running at)
    each i j at e k = let same : j ≡ i = omega (arith, e) in ap (has_ended w past) same ∙ by i at (h.threads i at k)
