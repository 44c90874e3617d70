-- A fault leaves all threads of a run where they are.
use Rattle.std.proofs.Common.{◌≡◌, ℕ, suc, ◌<◌, Bool, true, false, eqb, List, ◌∷◌, map, length, Option, Some, None, refl, sym, ap, ◌∙◌, subst, arith, eqb-true}
use Rattle.std.specs.Prelude.{filter}
use Rattle.std.specs.List.{range_with_len}
use Rattle.std.proofs.lemmas.Bool.{eqb-false}
use Rattle.std.proofs.lemmas.List.{ext_get_or}
use Rattle.std.proofs.lemmas.List.FromFn.{get_or-map-range_with_len, length-map-range_with_len}
use Rattle.marks.specs.declared.fault.FaultKind.{FaultKind}
use Rattle.marks.specs.Marks.{Act, Turn, Load, Store, Enter, Leave, Step, Fault, Made, Mark}
use Rattle.c_code.specs.Machine.{Config}
use Rattle.c_code.specs.MarkLists.{Split, move, moved, settled, state}
use Rattle.c_code.proofs.Prefixes.{state_settled}
use Rattle.c_machine.specs.Moves.{ThreadState, is_below, rested}
use Rattle.replay_runs.specs.Threads.{act_fault}
use Rattle.whole_runs.specs.World.{World}
use Rattle.whole_runs.specs.Sides.{own}
use Rattle.whole_runs.specs.Outcomes.{Outcome, act_outcome, outcomes, is_start, started}
use Rattle.whole_runs.specs.Threads.{beginning}
use Rattle.whole_runs.specs.Steps.{Picked, IsFault}
use Rattle.whole_runs_seen.proofs.Outcomes.{start_of}
use Rattle.whole_runs_threads.proofs.Own.{own_more, own_same, same_beginning}
use Rattle.recorder_threads.specs.Threads.{AreThreadsOf, most_open, nowhere, place_of, thread_of, threads_of}
use Rattle.recorder_threads.specs.Laws.{FaultsLeaveThreads}

-- threads of two pasts are the same where they are so one by one
pub same_threads : (w : World) (past now : List Mark) → started now ≡ started past → ((t : ℕ) → t < started past → thread_of w now t ≡ thread_of w past t) → threads_of w now ≡ threads_of w past
same_threads w past now count each =
    ap (λ n. map (thread_of w now) (range_with_len 0 n)) count
    ∙ ext_get_or nowhere (map (thread_of w now) (range_with_len 0 (started past))) (threads_of w past) (length-map-range_with_len (thread_of w now) 0 (started past) ∙ sym (length-map-range_with_len (thread_of w past) 0 (started past)))
    (λ t lt. let below : t < started past = omega (arith, lt, length-map-range_with_len (thread_of w now) 0 (started past)) in
    get_or-map-range_with_len (thread_of w now) 0 (started past) t t nowhere below (omega arith) ∙ (each t below ∙ sym (get_or-map-range_with_len (thread_of w past) 0 (started past) t t nowhere below (omega arith))))

-- and a thread is the same where its place is
pub same_thread : (w : World) (past now : List Mark) (t : ℕ) → place_of w now t ≡ place_of w past t → thread_of w now t ≡ thread_of w past t
same_thread w past now t e = λ i. record { number = t; depth = most_open; made = is_below (e i); config = rested w.laid (e i) }

module _ (w : World) (past : List Mark) (s : Picked w past) (kind : FaultKind) (m : Mark) (h : IsFault w past s kind m) where
  no_outcome : (a : Act) → act_fault a None ≡ Some kind → act_outcome m.thread a ≡ None
  no_outcome (Fault k crosses ins outs access) e = refl
  no_outcome Turn e = absurd cc
  no_outcome (Load o at b) e = absurd cc
  no_outcome (Store o at b) e = absurd cc
  no_outcome (Enter f args at b) e = absurd cc
  no_outcome (Leave at size) e = absurd cc
  no_outcome (Step f args v ins pieces freed) e = absurd cc
  no_outcome (Made ev) e = absurd cc

  abbrev kept_if : Option Outcome → List Outcome → List Outcome
  kept_if None os = os
  kept_if (Some o) os = o ∷ os

  same_outcomes : outcomes (m ∷ past) ≡ outcomes past
  same_outcomes = ap (λ o. kept_if o (outcomes past)) (no_outcome m.act h.kind_is)

  pub same_count : started (m ∷ past) ≡ started past
  same_count = ap (λ os. suc (length (filter is_start os))) same_outcomes

  begins_so : (t : ℕ) → beginning w (m ∷ past) t ≡ beginning w past t
  begins_so t = same_beginning w past m t (ap (start_of t) same_outcomes)

  abbrev c : Config
  c = beginning w past s.thread

  abbrev mine : List Mark
  mine = own w s.thread past

  stays : state Split w.laid c (m ∷ mine) ≡ state Split w.laid c mine
  stays =
      let now = state Split w.laid c mine in
      ap (settled w.laid) (ap (λ n. move n m now) s.comes_is ∙ ap (λ o. moved o s.to now) h.stops) ∙ state_settled Split w.laid c mine

  places_stay : (t : ℕ) → place_of w (m ∷ past) t ≡ place_of w past t
  places_stay t = ap (λ d. state Split w.laid d (own w t (m ∷ past))) (begins_so t) ∙ by (eqb m.thread t) refl
    where
      by : (b : Bool) → eqb m.thread t ≡ b → state Split w.laid (beginning w past t) (own w t (m ∷ past)) ≡ place_of w past t
      by true e =
          let of : m.thread ≡ t = eqb-true m.thread t e in
          let here : s.thread ≡ t = sym h.mark.of_thread ∙ of in
          ap (state Split w.laid (beginning w past t)) (own_more w past m t of)
          ∙ subst (λ u. state Split w.laid (beginning w past u) (m ∷ own w u past) ≡ place_of w past u) here stays
      by false e = ap (state Split w.laid (beginning w past t)) (own_same w past m t (eqb-false m.thread t e))

  pub faults_leave : (threads : List ThreadState) → AreThreadsOf w past threads → AreThreadsOf w (m ∷ past) threads
  faults_leave threads are = record {
    are = are.are ∙ sym (same_threads w past (m ∷ past) same_count (λ t lt. same_thread w past (m ∷ past) t (places_stay t)));
    inside = are.inside;
  }

pub faults_leave_all : (w : World) → FaultsLeaveThreads w
faults_leave_all w past s kind m h threads are = faults_leave w past s kind m h threads are
