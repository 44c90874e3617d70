-- What a replay sees of a run with its Stops is a run of the program.
use Rattle.std.proofs.Common.{◌≡◌, ◌≢◌, ℕ, zero, suc, ◌+◌, ◌<◌, ◌≤◌, Bool, true, false, cond, eqb, List, [], ◌∷◌, ◌++◌, map, append_assoc, refl, sym, ap, ◌∙◌, subst, arith, eqb-true}
use Rattle.std.specs.Prelude.{reverse, filter}
use Rattle.std.specs.List.{range_with_len}
use Rattle.std.proofs.lemmas.List.{reverse-append}
use Rattle.std.proofs.lemmas.Bool.{true≢false}
use Rattle.marks.specs.declared.side.Side.TheVariants.{Replay, System}
use Rattle.marks.specs.Marks.{Mark}
use Rattle.marks.specs.Wants.{Want, Outside, Turns, Loads, Stores, Enters, Leaves, Allocs, Frees, Calls, Below, Gives, Returns, CallsBack, UpReturns, Steps, Fails, is_above}
use Rattle.c_code.specs.Machine.{Starting}
use Rattle.c_code.specs.MarkLists.{Split, Next, Quiet, Wants, Ends, No, Wrong, lists, step, state, replay_part, want_above}
use Rattle.c_code.specs.Laws.{seen_above, IsSeenAbove}
use Rattle.c_code.proofs.Typed as typed
use Rattle.replay_runs.specs.Runs.{Start, Link, OfThread, has, marks_of, events_with, Allowed, Run, history}
use Rattle.replay_runs.specs.Records.{record_of}
use Rattle.replay_runs.specs.Known.{NoRace}
use Rattle.replay_runs.specs.Interface.{Program}
use Rattle.replay_runs.specs.Threads.{is_stopped}
use Rattle.replay_runs.specs.Rules.{replay_rules}
use Rattle.replay_runs.specs.Laws.{IsReplayRun}
use Rattle.replay_runs.specs.Found.{StopMayCome}
use Rattle.replay_runs.proofs.Halts.{halts}
use Rattle.replay_runs.proofs.Race.{race_free_more}
use Rattle.whole_runs.specs.World.{World, begin, program_of}
use Rattle.whole_runs.specs.Sides.{seen, own}
use Rattle.whole_runs.specs.Outcomes.{started}
use Rattle.whole_runs.specs.Threads.{beginning, comes, is_next_above, in_replay_mode}
use Rattle.whole_runs.specs.Ends.{stop_of, stops}
use Rattle.whole_runs.specs.Fits.{IsFit}
use Rattle.whole_runs_seen.specs.Laws.{IsSeenAsRun, RunsAreSeenAsRuns}
use Rattle.whole_runs_seen.specs.Suits.{IsHere}
use Rattle.whole_runs_seen.proofs.Threads.{func_at, args_at, begins_so}
use Rattle.whole_runs_seen.proofs.Wanted.{own_seen}
use Rattle.whole_runs_seen.proofs.BeforeStops.{IsBeforeStops, after_last}
use Rattle.whole_runs_seen.proofs.OneStop.{stop_with, one_stop}

-- what code wants in replay mode is wanted above the cut
same_above : (want : Want) → is_above want ≡ true → seen_above want ≡ want
same_above (Gives f args) e = absurd (true≢false (sym e))
same_above (Returns f args v) e = absurd (true≢false (sym e))
same_above Outside e = refl
same_above Turns e = refl
same_above (Loads o at n) e = refl
same_above (Stores o at bytes) e = refl
same_above (Enters i f args bytes) e = refl
same_above (Leaves at n) e = refl
same_above (Allocs n) e = refl
same_above (Frees at) e = refl
same_above (Calls i f args) e = refl
same_above (Below f args) e = refl
same_above (CallsBack f args bytes) e = refl
same_above (UpReturns f v) e = refl
same_above (Steps i f args) e = refl
same_above (Fails k) e = refl

stands_above : (n : Next) (above : Want) → is_next_above n ≡ true → IsSeenAbove n above → is_above above ≡ true
stands_above (Wants Replay want to) above e h = ap is_above (h ∙ same_above want e) ∙ e
stands_above (Wants System want to) above e h = absurd (true≢false (sym e))
stands_above (Quiet c) above e h = absurd (true≢false (sym e))
stands_above (Ends v) above e h = absurd (true≢false (sym e))
stands_above No above e h = absurd (true≢false (sym e))

mode_here : (n : Next) → is_next_above n ≡ true → IsHere n
mode_here (Wants side want to) e = tt
mode_here (Quiet c) e = absurd (true≢false (sym e))
mode_here (Ends v) e = tt
mode_here No e = absurd (true≢false (sym e))

module _ (w : World) where
  abbrev p : Program
  p = program_of w

  abbrev st : Start
  st = begin w

  module _ (run : List Mark) where
    abbrev pub stop : ℕ → Mark
    stop = stop_of w run

    abbrev pub mode : ℕ → Bool
    mode = in_replay_mode w run

    -- the Stops of these threads come after what a run has
    abbrev pub stopped : List ℕ → List Mark → List Mark
    stopped ts rs = reverse (map stop ts) ++ rs

    pub turned : (t : ℕ) (ts : List ℕ) (rs : List Mark) → stopped (t ∷ ts) rs ≡ stopped ts (stop t ∷ rs)
    turned t ts rs = ap (λ xs. xs ++ rs) (reverse-append (stop t ∷ []) (map stop ts)) ∙ append_assoc (reverse (map stop ts)) (stop t ∷ []) rs

    -- all of them are seen
    pub stops_seen : (ts : List ℕ) (rs : List Mark) → seen (stopped ts rs) ≡ stopped ts (seen rs)
    stops_seen [] rs = refl
    stops_seen (t ∷ ts) rs = ap seen (turned t ts rs) ∙ (stops_seen ts (stop t ∷ rs) ∙ sym (turned t ts (seen rs)))

    -- and so are the events
    same_events : (l : Link) (ts : List ℕ) (rs qs : List Mark) → events_with st l rs ≡ events_with st l qs → events_with st l (stopped ts rs) ≡ events_with st l (stopped ts qs)
    same_events l [] rs qs e = e
    same_events l (t ∷ ts) rs qs e =
        ap (events_with st l) (turned t ts rs) ∙ (same_events l ts (stop t ∷ rs) (stop t ∷ qs) (ap (λ es. cond (has (stop t) l) (stop t ∷ es) es) e) ∙ sym (ap (events_with st l) (turned t ts qs)))

    module _ (fit : IsFit w) (there : IsBeforeStops w run) where
      -- what a thread that isn't lost wants above the cut is seen there
      pub seen_above_there : (t : ℕ) → t < started run → IsHere (comes w run t) → IsSeenAbove (comes w run t) (p.want t (marks_of st t (seen run)))
      seen_above_there t lt here_too =
          let so : beginning w run t ≡ Starting (func_at w run t) (args_at w run t) = begins_so w run t in
          let right : lists Split (reverse (own w t run)) w.laid (Starting (func_at w run t) (args_at w run t)) ≢ Wrong = subst (λ c. lists Split (reverse (own w t run)) w.laid c ≢ Wrong) so (there.right t lt here_too) in
          let here : IsSeenAbove (step Split w.laid (state Split w.laid (Starting (func_at w run t) (args_at w run t)) (own w t run))) (want_above w.laid (replay_part (own w t run))) =
          typed.wants w.laid fit.code.valid fit.code.typed (func_at w run t) (args_at w run t) (there.well t lt) (own w t run) right in
          let next : IsSeenAbove (comes w run t) (want_above w.laid (replay_part (own w t run))) = subst (λ c. IsSeenAbove (step Split w.laid (state Split w.laid c (own w t run))) (want_above w.laid (replay_part (own w t run)))) (sym so) here in
          subst (λ ms. IsSeenAbove (comes w run t) (want_above w.laid ms)) (sym (own_seen w run t)) next

      -- a thread in replay mode is wanted above the cut
      wanted_above : (t : ℕ) → t < started run → mode t ≡ true → is_above (p.want t (marks_of st t (seen run))) ≡ true
      wanted_above t lt e = stands_above (comes w run t) (p.want t (marks_of st t (seen run))) e (seen_above_there t lt (mode_here (comes w run t) e))

      -- what is seen before the Stops of the threads from k on: they did the same as in the run
      record IsSeenBefore (k : ℕ) (rs : List Mark) : Type 0 where
        parts : (t : ℕ) → k ≤ t → marks_of st t rs ≡ marks_of st t (seen run)
        events : (t : ℕ) → k ≤ t → events_with st (OfThread t) rs ≡ events_with st (OfThread t) run
        disciplined : IsReplayRun p st rs

      module _ (k : ℕ) (rs : List Mark) (before : IsSeenBefore k rs) where
        passed_over : IsSeenBefore (k + 1) rs
        passed_over = record { parts = λ t le. before.parts t (omega (arith, le)); events = λ t le. before.events t (omega (arith, le)); disciplined = before.disciplined }

        module _ (lt : k < started run) (e : mode k ≡ true) where
          comes_next : StopMayCome p st rs k
          comes_next =
              let same = before.parts k (omega arith) in
              let few = there.few in
              halts p st rs k (omega (arith, lt, few))
              (subst (λ ms. is_above (p.want k ms) ≡ true) (sym same) (wanted_above k lt e))
              (ap is_stopped same ∙ there.running k)

          it_is : comes_next.mark ≡ stop k
          it_is =
              one_stop p st rs comes_next.mark comes_next.allowed comes_next.stops ∙
              (ap (λ t. stop_with (events_with st (OfThread t) rs) (marks_of st t rs) t) comes_next.thread ∙
              (ap (λ es. stop_with es (marks_of st k rs) k) (before.events k (omega arith)) ∙
              ap (λ ms. stop_with (events_with st (OfThread k) run) ms k) (before.parts k (omega arith))))

          steps_on : Run (replay_rules p st) st (stop k ∷ rs)
          steps_on = (subst (Allowed (replay_rules p st) st rs) it_is comes_next.allowed, before.disciplined.steps)

          other : (A : Type 0) (x y : A) (t : ℕ) → k + 1 ≤ t → cond (eqb k t) x y ≡ y
          other A x y t le = go (eqb k t) refl
            where
              go : (b : Bool) → eqb k t ≡ b → cond b x y ≡ y
              go true z = let same = eqb-true k t z in absurd (omega (arith, le, same))
              go false z = refl

          stopped_too : IsSeenBefore (k + 1) (stop k ∷ rs)
          stopped_too = record {
            parts = λ t le. other (List Mark) (stop k ∷ marks_of st t rs) (marks_of st t rs) t le ∙ before.parts t (omega (arith, le));
            events = λ t le. other (List Mark) (stop k ∷ events_with st (OfThread t) rs) (events_with st (OfThread t) rs) t le ∙ before.events t (omega (arith, le));
            disciplined = record {
              steps = steps_on;
              race_free = race_free_more (replay_rules p st) st rs (stop k) steps_on before.disciplined.race_free (subst (NoRace rs) it_is comes_next.no_race);
              one_fault = let one = before.disciplined.one_fault in omega (arith, one);
            };
          }

      all_stopped : (n k : ℕ) (rs : List Mark) → IsSeenBefore k rs → k + n ≤ started run → IsReplayRun p st (stopped (filter mode (range_with_len k n)) rs)
      all_stopped zero k rs before le = before.disciplined
      all_stopped (suc n) k rs before le = go (mode k) refl (λ qs now. all_stopped n (k + 1) qs now (omega (arith, le)))
        where
          rest : List ℕ
          rest = filter mode (range_with_len (k + 1) n)

          go : (b : Bool) → mode k ≡ b → ((qs : List Mark) → IsSeenBefore (k + 1) qs → IsReplayRun p st (stopped rest qs)) → IsReplayRun p st (stopped (cond b (k ∷ rest) rest) rs)
          go true e on = subst (IsReplayRun p st) (sym (turned k rest rs)) (on (stop k ∷ rs) (stopped_too k rs before (omega (arith, le)) e))
          go false e on = on rs (passed_over k rs before)

      abbrev stopping : List ℕ
      stopping = filter mode (range_with_len 0 (started run))

      seen_with_stops : IsReplayRun p st (seen (stopped stopping run))
      seen_with_stops = subst (IsReplayRun p st) (sym (stops_seen stopping run))
          (all_stopped (started run) 0 (seen run) (record { parts = λ t le. refl; events = λ t le. sym (there.events (OfThread t)); disciplined = there.disciplined }) (omega arith))

      histories_with_stops : (t : ℕ) → history record_of st t (seen (stopped stopping run)) ≡ history record_of st t (stopped stopping run)
      histories_with_stops t = ap (map record_of) (ap (events_with st (OfThread t)) (stops_seen stopping run) ∙ sym (same_events (OfThread t) stopping run (seen run) (there.events (OfThread t))))

      pub seen_so : IsSeenAsRun w (stops w run ++ run)
      seen_so = record { disciplined = seen_with_stops; histories = histories_with_stops }

pub runs_seen : (w : World) → RunsAreSeenAsRuns w
runs_seen w fit run e is = subst (IsSeenAsRun w) (sym is.run_is) (seen_so w (is.last ++ is.past) fit (after_last w fit is.past is.follows is.last e is.ends))
