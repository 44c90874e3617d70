-- The Stops of a run, thread by thread.
use Rattle.std.proofs.Common.{◌≡◌, ℕ, zero, suc, ◌+◌, ◌^◌, ◌<◌, ◌≤◌, Bool, true, false, cond, List, [], ◌∷◌, ◌++◌, map, length, reverse, refl, ap, sym, ◌∙◌, subst, add-one, arith}
use Rattle.std.specs.Prelude.{filter}
use Rattle.std.specs.List.{range_with_len}
use Rattle.std.proofs.lemmas.List.{append-nil, map-append, reverse-append}
use Rattle.std.proofs.lemmas.List.Elements.{filter-append}
use Rattle.marks.specs.Marks.{Mark}
use Rattle.c_machine.specs.Moves.{ThreadState}
use Rattle.whole_runs.specs.World.{World}
use Rattle.whole_runs.specs.Outcomes.{started}
use Rattle.whole_runs.specs.Threads.{in_replay_mode}
use Rattle.whole_runs.specs.Ends.{stop_of}
use Rattle.whole_runs_seen.proofs.BeforeStops.{after_last}
use Rattle.recorder_threads.proofs.Places.{count_is}
use Rattle.recorder_end.specs.Stops.{first_stops}
use Rattle.reference_recorder_marks.specs.declared.mark.Mark.{Mark as Told}
use Rattle.reference_recorder_marks.specs.Marks.{mark_of, past as past_of}
use Rattle.reference_recorder_marks.proofs.Past.{past_push}
use Rattle.reference_recorder_stamps.specs.Numbers.{ClocksFit}
use Rattle.reference_recorder_threads.proofs.Oldest.{as_many}
use Rattle.reference_recorder_laws.specs.AtEnd.{IsPastAtEnd}
use Rattle.reference_recorder_laws.proofs.Short.{few_marks}
use Rattle.reference_recorder_laws.proofs.Stamped.{clocks_at_end, clocks_without, length_at_end}
use Rattle.reference_recorder_laws.proofs.Stops.{stop_without}
use Rattle.reference_recorder_end.specs.Ends.{AreAtEnd, AreFirstStops, AreStops}

range_more : (a n : ℕ) → range_with_len a (suc n) ≡ range_with_len a n ++ (a + n) ∷ []
range_more a zero = ap (λ k. k ∷ []) (omega arith)
range_more a (suc n) = ap (λ ks. a ∷ ks) (range_more (a + 1) n ∙ ap (λ k. range_with_len (a + 1) n ++ k ∷ []) (omega arith))

range_from_zero : (n : ℕ) → range_with_len 0 (suc n) ≡ range_with_len 0 n ++ n ∷ []
range_from_zero n = range_more 0 n ∙ ap (λ k. range_with_len 0 n ++ k ∷ []) (omega arith)

-- the next thread has one if it stands in replay mode
first_more : (w : World) (run : List Mark) (n : ℕ) → first_stops w run (suc n) ≡ cond (in_replay_mode w run n) (stop_of w run n ∷ first_stops w run n) (first_stops w run n)
first_more w run n = ap (λ ks. reverse (map stop (filter mode ks))) (range_from_zero n) ∙ (ap (λ ks. reverse (map stop ks)) (filter-append mode (range_with_len 0 n) (n ∷ [])) ∙ by (mode n))
  where
    stop : ℕ → Mark
    stop = stop_of w run

    mode : ℕ → Bool
    mode = in_replay_mode w run

    before : List ℕ
    before = filter mode (range_with_len 0 n)

    by : (b : Bool) → reverse (map stop (before ++ cond b (n ∷ []) [])) ≡ cond b (stop n ∷ reverse (map stop before)) (reverse (map stop before))
    by true = ap reverse (map-append stop before (n ∷ [])) ∙ reverse-append (map stop before) (stop n ∷ [])
    by false = ap (λ ks. reverse (map stop ks)) (append-nil before)

module _ (w : World) (run : List Told) (threads : List ThreadState) where
  pub all_first : (added : List Told) (n : ℕ) → length threads ≤ n → n ≤ length threads → AreFirstStops w run threads n added → AreStops w run threads added
  all_first added n le ge h = λ e.
      let now : List Mark = e.past.last ++ e.past.past in
      let c = count_is w now threads e.are in
      let z : n ≡ started now = omega (arith, le, ge, c) in
      h e ∙ ap (first_stops w now) z

  module _ (n : ℕ) (added : List Told) (before : AreFirstStops w run threads n added) where
    pub one_more : (stop : Told) → ((e : AreAtEnd w run threads) → in_replay_mode w (e.past.last ++ e.past.past) n ≡ true) → mark_of stop ≡ stop_of w (past_of run) n →
        AreFirstStops w run threads (n + 1) (added ++ stop ∷ [])
    one_more stop mode is = λ e.
        let now : List Mark = e.past.last ++ e.past.past in
        let stop_is : mark_of stop ≡ stop_of w now n = is ∙ sym (ap (λ ms. stop_of w ms n) e.past.same) ∙ stop_without w now n in
        past_push added stop
        ∙ (λ i. stop_is i ∷ before e i)
        ∙ sym (ap (λ b. cond b (stop_of w now n ∷ first_stops w now n) (first_stops w now n)) (mode e))
        ∙ sym (first_more w now n)
        ∙ ap (first_stops w now) (sym (add-one n))

    pub no_more : ((e : AreAtEnd w run threads) → in_replay_mode w (e.past.last ++ e.past.past) n ≡ false) → AreFirstStops w run threads (n + 1) added
    no_more mode = λ e.
        let now : List Mark = e.past.last ++ e.past.past in
        before e
        ∙ sym (ap (λ b. cond b (stop_of w now n ∷ first_stops w now n) (first_stops w now n)) (mode e))
        ∙ sym (first_more w now n)
        ∙ ap (first_stops w now) (sym (add-one n))

  -- ---- numbers

  pub few_threads : AreAtEnd w run threads → length threads ≤ 32
  few_threads e =
      let p = e.past in
      let c = count_is w (p.last ++ p.past) threads e.are in
      let few = (after_last w p.fit p.past p.follows p.last p.ending p.ends).few in
      omega (arith, c, few)

pub few_at_end : (w : World) (run : List Told) → IsPastAtEnd w run → length run + 1 < 2 ^ 32
few_at_end w run p =
    let few = few_marks w p.fit p.past p.follows in
    let most = length_at_end w p.past p.last p.ending p.ends in
    let same = as_many (p.last ++ p.past) run p.same in
    omega (arith, few, most, same)

pub clocks_fit : (w : World) (run : List Told) → IsPastAtEnd w run → ClocksFit (past_of run)
clocks_fit w run p = subst ClocksFit p.same (λ l.
    let few = few_marks w p.fit p.past p.follows in
    let le = clocks_without _ (p.last ++ p.past) (clocks_at_end w p.past p.last p.ending p.follows p.ends) l in
    omega (arith, few, le))
