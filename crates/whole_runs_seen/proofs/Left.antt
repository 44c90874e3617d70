-- Where no thread is lost, none is left above the cut without a Stop.
use Rattle.std.proofs.Common.{◌≡◌, ◌⊎◌, ⊎_elim, ℕ, zero, suc, ◌+◌, ◌<◌, ◌≤◌, Bool, true, false, cond, eqb, ltb, List, [], ◌∷◌, ◌++◌, refl, sym, ap, ◌∙◌, subst, arith, eqb-true}
use Rattle.std.specs.Prelude.{filter}
use Rattle.std.specs.List.{range_with_len}
use Rattle.std.proofs.lemmas.Bool.{true≢false, ltb-true, ltb-false, eqb-false}
use Rattle.marks.specs.declared.side.Side.TheVariants.{Replay, System}
use Rattle.marks.specs.Marks.{Act, Turn, Load, Store, Enter, Leave, Step, Fault, Made, Mark, is_event}
use Rattle.marks.specs.Opens.{is_stop}
use Rattle.marks.specs.Wants.{Want, Outside, Turns, Loads, Stores, Enters, Leaves, Allocs, Frees, Calls, Below, Gives, Returns, CallsBack, UpReturns, Steps, Fails, is_above, is_below}
use Rattle.c_code.specs.MarkLists.{Next, Quiet, Wants, Ends, No, replay_part, want_above}
use Rattle.c_code.specs.Laws.{seen_above, IsSeenAbove}
use Rattle.replay_runs.specs.Runs.{Start, marks_of, EndsWithEvent, Trimmed}
use Rattle.replay_runs.specs.Interface.{Program}
use Rattle.replay_runs.specs.Threads.{is_stopped}
use Rattle.replay_runs.specs.Laws.{NoneLeft}
use Rattle.whole_runs.specs.World.{World, begin, program_of}
use Rattle.whole_runs.specs.Sides.{seen, own}
use Rattle.whole_runs.specs.Outcomes.{started}
use Rattle.whole_runs.specs.Threads.{comes, is_next_above}
use Rattle.whole_runs.specs.Ends.{stops}
use Rattle.whole_runs.specs.Fits.{IsFit}
use Rattle.whole_runs_seen.specs.Suits.{IsHere, SuitedAnswersLeaveNone}
use Rattle.whole_runs_seen.proofs.Wanted.{own_seen}
use Rattle.whole_runs_seen.proofs.BeforeStops.{IsBeforeStops, after_last, here_last}
use Rattle.whole_runs_seen.proofs.Stops.{stop, mode, stopped, turned, stops_seen, seen_above_there}
use Rattle.whole_runs_seen.proofs.Here.{lose_none}

-- ---- what isn't above the cut

not_both : (want : Want) → is_below want ≡ true → is_above want ≡ false
not_both Outside e = refl
not_both (Below f args) e = refl
not_both Turns e = absurd (true≢false (sym e))
not_both (Loads o at n) e = absurd (true≢false (sym e))
not_both (Stores o at bytes) e = absurd (true≢false (sym e))
not_both (Enters i f args bytes) e = absurd (true≢false (sym e))
not_both (Leaves at n) e = absurd (true≢false (sym e))
not_both (Allocs n) e = absurd (true≢false (sym e))
not_both (Frees at) e = absurd (true≢false (sym e))
not_both (Calls i f args) e = absurd (true≢false (sym e))
not_both (Gives f args) e = refl
not_both (Returns f args v) e = refl
not_both (CallsBack f args bytes) e = refl
not_both (UpReturns f v) e = absurd (true≢false (sym e))
not_both (Steps i f args) e = absurd (true≢false (sym e))
not_both (Fails k) e = absurd (true≢false (sym e))

same_below : (want : Want) → is_above want ≡ false → is_above (seen_above want) ≡ false
same_below (Gives f args) e = refl
same_below (Returns f args v) e = refl
same_below Outside e = e
same_below Turns e = e
same_below (Loads o at n) e = e
same_below (Stores o at bytes) e = e
same_below (Enters i f args bytes) e = e
same_below (Leaves at n) e = e
same_below (Allocs n) e = e
same_below (Frees at) e = e
same_below (Calls i f args) e = e
same_below (Below f args) e = e
same_below (CallsBack f args bytes) e = e
same_below (UpReturns f v) e = e
same_below (Steps i f args) e = e
same_below (Fails k) e = e

-- a thread that isn't in replay mode wants nothing above
stands_below : (n : Next) (above : Want) → is_next_above n ≡ false → IsHere n → IsSeenAbove n above → is_above above ≡ false
stands_below (Wants Replay want to) above e here h = ap is_above h ∙ same_below want e
stands_below (Wants System want to) above e here h = not_both above h
stands_below (Quiet c) above e here h = absurd here
stands_below (Ends v) above e here h = not_both above h
stands_below No above e here h = absurd here

false_or : (b : Bool) → (b ≡ true → ⊥) → b ≡ false
false_or true n = absurd (n refl)
false_or false n = refl

-- a Stop is an event
stop_ends : (mine : List Mark) → is_stopped mine ≡ true → EndsWithEvent mine
stop_ends [] e = tt
stop_ends (m ∷ mine) e = by m.act e
  where
    by : (a : Act) → is_stop a ≡ true → is_event a ≡ true
    by (Made ev) z = refl
    by Turn z = absurd (true≢false (sym z))
    by (Load o at bytes) z = absurd (true≢false (sym z))
    by (Store o at bytes) z = absurd (true≢false (sym z))
    by (Enter f args at bytes) z = absurd (true≢false (sym z))
    by (Leave at size) z = absurd (true≢false (sym z))
    by (Step f args v ins pieces freed) z = absurd (true≢false (sym z))
    by (Fault k c ins outs at) z = absurd (true≢false (sym z))

-- none of the threads is this one
abbrev AreOthers : ℕ → List ℕ → Type 0
AreOthers t [] = Unit {0}
AreOthers t (u ∷ us) = (eqb u t ≡ false) × AreOthers t us

module _ (w : World) (run : List Mark) where
  abbrev p : Program
  p = program_of w

  abbrev st : Start
  st = begin w

  abbrev after : List ℕ → List Mark → List Mark
  after ts rs = stopped w run ts rs

  abbrev stands : ℕ → Bool
  stands t = mode w run t

  abbrev from : (k n : ℕ) → List ℕ
  from k n = filter stands (range_with_len k n)

  -- ---- who gets a Stop

  stays_stopped : (ts : List ℕ) (rs : List Mark) (t : ℕ) → is_stopped (marks_of st t rs) ≡ true → is_stopped (marks_of st t (after ts rs)) ≡ true
  stays_stopped [] rs t h = h
  stays_stopped (u ∷ ts) rs t h = subst (λ ms. is_stopped (marks_of st t ms) ≡ true) (sym (turned w run u ts rs)) (stays_stopped ts (stop w run u ∷ rs) t (by (eqb u t)))
    where
      by : (b : Bool) → is_stopped (cond b (stop w run u ∷ marks_of st t rs) (marks_of st t rs)) ≡ true
      by true = refl
      by false = h

  gets_stop : (n k : ℕ) (rs : List Mark) (t : ℕ) → k ≤ t → t < k + n → stands t ≡ true → is_stopped (marks_of st t (after (from k n) rs)) ≡ true
  gets_stop zero k rs t le lt e = absurd (omega (arith, le, lt))
  gets_stop (suc n) k rs t le lt e = go (stands k) refl (eqb k t) refl (λ qs more. gets_stop n (k + 1) qs t more (omega (arith, lt)) e)
    where
      rest : List ℕ
      rest = from (k + 1) n

      later : eqb k t ≡ false → k + 1 ≤ t
      later z = let ne = eqb-false k t z in omega (arith, le, ne)

      go : (b : Bool) → stands k ≡ b → (c : Bool) → eqb k t ≡ c → ((qs : List Mark) → k + 1 ≤ t → is_stopped (marks_of st t (after rest qs)) ≡ true) → is_stopped (marks_of st t (after (cond b (k ∷ rest) rest) rs)) ≡ true
      go true z true y on =
          subst (λ ms. is_stopped (marks_of st t ms) ≡ true) (sym (turned w run k rest rs))
          (stays_stopped rest (stop w run k ∷ rs) t (subst (λ b. is_stopped (cond b (stop w run k ∷ marks_of st t rs) (marks_of st t rs)) ≡ true) (sym y) refl))
      go true z false y on = subst (λ ms. is_stopped (marks_of st t ms) ≡ true) (sym (turned w run k rest rs)) (on (stop w run k ∷ rs) (later y))
      go false z true y on = absurd (true≢false (sym e ∙ (sym (ap stands (eqb-true k t y)) ∙ z)))
      go false z false y on = on rs (later y)

  -- all others stay as they were
  gets_none : (ts : List ℕ) (rs : List Mark) (t : ℕ) → AreOthers t ts → marks_of st t (after ts rs) ≡ marks_of st t rs
  gets_none [] rs t h = refl
  gets_none (u ∷ ts) rs t h =
      ap (marks_of st t) (turned w run u ts rs) ∙ (gets_none ts (stop w run u ∷ rs) t h.1 ∙ ap (λ b. cond b (stop w run u ∷ marks_of st t rs) (marks_of st t rs)) h.0)

  not_in_range : (n k t : ℕ) → ((u : ℕ) → u < k + n → stands u ≡ true → eqb u t ≡ false) → AreOthers t (from k n)
  not_in_range zero k t h = tt
  not_in_range (suc n) k t h = go (stands k) refl (not_in_range n (k + 1) t (λ u lt. h u (omega (arith, lt))))
    where
      go : (b : Bool) → stands k ≡ b → AreOthers t (from (k + 1) n) → AreOthers t (cond b (k ∷ from (k + 1) n) (from (k + 1) n))
      go true e rest = (h k (omega arith) e, rest)
      go false e rest = rest

  module _ (fit : IsFit w) (there : IsBeforeStops w run) (here : (t : ℕ) → t < started run → IsHere (comes w run t)) where
    abbrev stopping : List ℕ
    stopping = from 0 (started run)

    -- a thread that wasn't started wants nothing above
    unstarted : (t : ℕ) → started run ≤ t → is_above (p.want t (marks_of st t (seen run))) ≡ false
    unstarted t le = ap (λ ms. is_above (want_above w.laid ms)) (own_seen w run t ∙ ap replay_part (there.silent t le))

    same_marks : (t : ℕ) → AreOthers t stopping → is_above (p.want t (marks_of st t (seen run))) ≡ false → is_above (p.want t (marks_of st t (after stopping (seen run)))) ≡ true → ⊥
    same_marks t others none above = true≢false (sym above ∙ (ap (λ ms. is_above (p.want t ms)) (gets_none stopping (seen run) t others) ∙ none))

    none_left_there : NoneLeft p st (after stopping (seen run))
    none_left_there t above = by (ltb t (started run)) refl (stands t) refl
      where
        by : (a : Bool) → ltb t (started run) ≡ a → (b : Bool) → stands t ≡ b → is_stopped (marks_of st t (after stopping (seen run))) ≡ true
        by true lt true e = gets_stop (started run) 0 (seen run) t (omega arith) (let z = ltb-true t (started run) lt in omega (arith, z)) e
        by true lt false e =
            let z : t < started run = ltb-true t (started run) lt in
            let others : AreOthers t stopping = not_in_range (started run) 0 t (λ u less on. false_or (eqb u t) (λ y. true≢false (sym on ∙ (ap stands (eqb-true u t y) ∙ e)))) in
            absurd (same_marks t others (stands_below (comes w run t) (p.want t (marks_of st t (seen run))) e (here t z) (seen_above_there w run fit there t z (here t z))) above)
        by false lt b e =
            let z : started run ≤ t = ltb-false t (started run) lt in
            let others : AreOthers t stopping = not_in_range (started run) 0 t (λ u less on. false_or (eqb u t) (λ y. let same = eqb-true u t y in omega (arith, less, z, same))) in
            absurd (same_marks t others (unstarted t z) above)

    -- the last mark of each thread is an event, if it was one before the Stops of those that stand in replay mode
    ends_there : ((t : ℕ) → t < started run → EndsWithEvent (replay_part (own w t run)) ⊎ (stands t ≡ true)) → Trimmed st (after stopping (seen run))
    ends_there each t = by (ltb t (started run)) refl (stands t) refl
      where
        as_before : AreOthers t stopping → EndsWithEvent (marks_of st t (seen run)) → EndsWithEvent (marks_of st t (after stopping (seen run)))
        as_before others h = subst EndsWithEvent (sym (gets_none stopping (seen run) t others)) h

        by : (a : Bool) → ltb t (started run) ≡ a → (b : Bool) → stands t ≡ b → EndsWithEvent (marks_of st t (after stopping (seen run)))
        by true lt true e = stop_ends (marks_of st t (after stopping (seen run))) (gets_stop (started run) 0 (seen run) t (omega arith) (let z = ltb-true t (started run) lt in omega (arith, z)) e)
        by true lt false e =
            let z : t < started run = ltb-true t (started run) lt in
            let others : AreOthers t stopping = not_in_range (started run) 0 t (λ u less on. false_or (eqb u t) (λ y. true≢false (sym on ∙ (ap stands (eqb-true u t y) ∙ e)))) in
            as_before others (subst EndsWithEvent (sym (own_seen w run t)) (⊎_elim (λ h. h) (λ h. absurd (true≢false (sym h ∙ e))) (each t z)))
        by false lt b e =
            let z : started run ≤ t = ltb-false t (started run) lt in
            let others : AreOthers t stopping = not_in_range (started run) 0 t (λ u less on. false_or (eqb u t) (λ y. let same = eqb-true u t y in omega (arith, less, z, same))) in
            as_before others (subst EndsWithEvent (sym (own_seen w run t ∙ ap replay_part (there.silent t z))) tt)

    pub ends_with_events : ((t : ℕ) → t < started run → EndsWithEvent (replay_part (own w t run)) ⊎ (stands t ≡ true)) → Trimmed st (seen (stops w run ++ run))
    ends_with_events each = subst (Trimmed st) (sym (stops_seen w run stopping run)) (ends_there each)

    pub none_left : NoneLeft p st (seen (stops w run ++ run))
    none_left = subst (NoneLeft p st) (sym (stops_seen w run stopping run)) none_left_there

pub leave_none : (w : World) → SuitedAnswersLeaveNone w
leave_none w fit suits run e is =
    subst (λ ms. NoneLeft (program_of w) (begin w) (seen ms)) (sym is.run_is)
    (none_left w (is.last ++ is.past) fit (after_last w fit is.past is.follows is.last e is.ends)
    (here_last w fit is.past is.follows (lose_none w fit suits is.past is.follows) is.last e is.ends))
