-- In a run, code above the cut stands in replay mode after each mark that makes no event.
use Rattle.std.proofs.Common.{◌≡◌, ◌⊎◌, inl, inr, ⊎_elim, ℕ, ◌<◌, Bool, true, false, ◌&&◌, cond, not, eqb, List, [], ◌∷◌, refl, sym, ap, ◌∙◌, subst}
use Rattle.std.specs.Prelude.{is_some}
use Rattle.std.proofs.lemmas.Bool.{true≢false}
use Rattle.marks.specs.declared.side.Side.{Side}
use Rattle.marks.specs.declared.side.Side.TheVariants.{Replay, System}
use Rattle.marks.specs.Marks.{Act, Turn, Load, Store, Enter, Leave, Step, Fault, Made, Mark, is_event, side_of}
use Rattle.marks.specs.Wants.{Want, Outside, Turns, Loads, Stores, Enters, Leaves, Allocs, Frees, Calls, Below, Gives, Returns, CallsBack, UpReturns, Steps, Fails, Stopped, answer_to, answer_if}
use Rattle.c_code.specs.Machine.{Laid, Config}
use Rattle.c_code.specs.MarkLists.{Split, Wants, same_side, replay_part, reply, moved, move, step, state}
use Rattle.c_code.proofs.Sides.{IsPlain}
use Rattle.c_code.proofs.Sides as sides
use Rattle.replay_runs.specs.Runs.{is_fault, EndsWithEvent}
use Rattle.whole_runs.specs.World.{World}
use Rattle.whole_runs.specs.Sides.{own}
use Rattle.whole_runs.specs.Outcomes.{started}
use Rattle.whole_runs.specs.Threads.{beginning, is_next_above}
use Rattle.whole_runs.specs.Steps.{Picked, IsMade}
use Rattle.whole_runs.specs.Ends.{Follows}
use Rattle.whole_runs.specs.Fits.{IsFit}
use Rattle.whole_runs_laws.proofs.PlainSteps.{side_is}
use Rattle.whole_runs_laws.proofs.Lasts.{answers_to}
use Rattle.whole_runs_laws.proofs.OneStep.{same_side_true, plain_side}
use Rattle.whole_runs_seen.specs.Suits.{IsHere, SuitedThreadsEndOrStand}
use Rattle.whole_runs_seen.proofs.Entries.{IsOwn}
use Rattle.whole_runs_seen.proofs.Stopping.{answers_lead}
use Rattle.whole_runs_seen.proofs.Threads.{AreThreads, kept_along, threads_known, begins_so, picked_started, own_want, answer_of, no_fault}
use Rattle.whole_runs_seen.proofs.Wanted.{own_seen}
use Rattle.whole_runs_seen.proofs.Here.{led, lose_none}
use Rattle.whole_runs_seen.proofs.Crossed.{HasSides}
use Rattle.whole_runs_seen.proofs.CrossedMarks.{mode_after}

frees_none : (b : Bool) → is_some (answer_if (b && false) Stopped) ≡ true → ⊥
frees_none true y = true≢false (sym y)
frees_none false y = true≢false (sym y)

module _ (l : Laid) where
  -- what such a mark answers above the cut asks for no event
  plain_want : (want : Want) (a : Act) → IsOwn l Replay want → is_event a ≡ false → is_fault a ≡ 0 → is_some (answer_to want a) ≡ true → IsPlain want
  unfolding answer_to
  plain_want Turns a own event fault z = tt
  plain_want (Loads o at n) a own event fault z = tt
  plain_want (Stores o at bytes) a own event fault z = tt
  plain_want (Enters i f args bytes) a own event fault z = tt
  plain_want (Leaves at n) a own event fault z = tt
  plain_want (Steps i f args) a own event fault z = tt
  plain_want (Fails k) a own event fault z = tt
  plain_want Outside Turn own event fault z = absurd (true≢false (sym z))
  plain_want Outside (Load p a' bytes) own event fault z = absurd (true≢false (sym z))
  plain_want Outside (Store p a' bytes) own event fault z = absurd (true≢false (sym z))
  plain_want Outside (Enter g bs a' b) own event fault z = absurd (true≢false (sym z))
  plain_want Outside (Leave a' size) own event fault z = absurd (true≢false (sym z))
  plain_want Outside (Step g bs u ins pieces freed) own event fault z = absurd (true≢false (sym z))
  plain_want Outside (Made ev) own event fault z = absurd (true≢false event)
  plain_want Outside (Fault k c ins outs a') own event fault z = absurd cc
  plain_want (Allocs n) Turn own event fault z = absurd (true≢false (sym z))
  plain_want (Allocs n) (Load p a' bytes) own event fault z = absurd (true≢false (sym z))
  plain_want (Allocs n) (Store p a' bytes) own event fault z = absurd (true≢false (sym z))
  plain_want (Allocs n) (Enter g bs a' b) own event fault z = absurd (true≢false (sym z))
  plain_want (Allocs n) (Leave a' size) own event fault z = absurd (true≢false (sym z))
  plain_want (Allocs n) (Step g bs u ins pieces freed) own event fault z = absurd (true≢false (sym z))
  plain_want (Allocs n) (Made ev) own event fault z = absurd (true≢false event)
  plain_want (Allocs n) (Fault k c ins outs a') own event fault z = absurd cc
  plain_want (Frees at) Turn own event fault z = absurd (frees_none (not (eqb at 0)) z)
  plain_want (Frees at) (Load p a' bytes) own event fault z = absurd (frees_none (not (eqb at 0)) z)
  plain_want (Frees at) (Store p a' bytes) own event fault z = absurd (frees_none (not (eqb at 0)) z)
  plain_want (Frees at) (Enter g bs a' b) own event fault z = absurd (frees_none (not (eqb at 0)) z)
  plain_want (Frees at) (Leave a' size) own event fault z = absurd (frees_none (not (eqb at 0)) z)
  plain_want (Frees at) (Step g bs u ins pieces freed) own event fault z = absurd (frees_none (not (eqb at 0)) z)
  plain_want (Frees at) (Made ev) own event fault z = absurd (true≢false event)
  plain_want (Frees at) (Fault k c ins outs a') own event fault z = absurd cc
  plain_want (Calls i f args) Turn own event fault z = absurd (true≢false (sym z))
  plain_want (Calls i f args) (Load p a' bytes) own event fault z = absurd (true≢false (sym z))
  plain_want (Calls i f args) (Store p a' bytes) own event fault z = absurd (true≢false (sym z))
  plain_want (Calls i f args) (Enter g bs a' b) own event fault z = absurd (true≢false (sym z))
  plain_want (Calls i f args) (Leave a' size) own event fault z = absurd (true≢false (sym z))
  plain_want (Calls i f args) (Step g bs u ins pieces freed) own event fault z = absurd (true≢false (sym z))
  plain_want (Calls i f args) (Made ev) own event fault z = absurd (true≢false event)
  plain_want (Calls i f args) (Fault k c ins outs a') own event fault z = absurd cc
  plain_want (Below f args) Turn own event fault z = absurd (true≢false (sym z))
  plain_want (Below f args) (Load p a' bytes) own event fault z = absurd (true≢false (sym z))
  plain_want (Below f args) (Store p a' bytes) own event fault z = absurd (true≢false (sym z))
  plain_want (Below f args) (Enter g bs a' b) own event fault z = absurd (true≢false (sym z))
  plain_want (Below f args) (Leave a' size) own event fault z = absurd (true≢false (sym z))
  plain_want (Below f args) (Step g bs u ins pieces freed) own event fault z = absurd (true≢false (sym z))
  plain_want (Below f args) (Made ev) own event fault z = absurd (true≢false event)
  plain_want (Below f args) (Fault k c ins outs a') own event fault z = absurd cc
  plain_want (Gives f args) Turn own event fault z = absurd (true≢false (sym z))
  plain_want (Gives f args) (Load p a' bytes) own event fault z = absurd (true≢false (sym z))
  plain_want (Gives f args) (Store p a' bytes) own event fault z = absurd (true≢false (sym z))
  plain_want (Gives f args) (Enter g bs a' b) own event fault z = absurd (true≢false (sym z))
  plain_want (Gives f args) (Leave a' size) own event fault z = absurd (true≢false (sym z))
  plain_want (Gives f args) (Step g bs u ins pieces freed) own event fault z = absurd (true≢false (sym z))
  plain_want (Gives f args) (Made ev) own event fault z = absurd (true≢false event)
  plain_want (Gives f args) (Fault k c ins outs a') own event fault z = absurd cc
  plain_want (Returns f args v) Turn own event fault z = absurd (true≢false (sym z))
  plain_want (Returns f args v) (Load p a' bytes) own event fault z = absurd (true≢false (sym z))
  plain_want (Returns f args v) (Store p a' bytes) own event fault z = absurd (true≢false (sym z))
  plain_want (Returns f args v) (Enter g bs a' b) own event fault z = absurd (true≢false (sym z))
  plain_want (Returns f args v) (Leave a' size) own event fault z = absurd (true≢false (sym z))
  plain_want (Returns f args v) (Step g bs u ins pieces freed) own event fault z = absurd (true≢false (sym z))
  plain_want (Returns f args v) (Made ev) own event fault z = absurd (true≢false event)
  plain_want (Returns f args v) (Fault k c ins outs a') own event fault z = absurd cc
  plain_want (UpReturns f v) Turn own event fault z = absurd (true≢false (sym z))
  plain_want (UpReturns f v) (Load p a' bytes) own event fault z = absurd (true≢false (sym z))
  plain_want (UpReturns f v) (Store p a' bytes) own event fault z = absurd (true≢false (sym z))
  plain_want (UpReturns f v) (Enter g bs a' b) own event fault z = absurd (true≢false (sym z))
  plain_want (UpReturns f v) (Leave a' size) own event fault z = absurd (true≢false (sym z))
  plain_want (UpReturns f v) (Step g bs u ins pieces freed) own event fault z = absurd (true≢false (sym z))
  plain_want (UpReturns f v) (Made ev) own event fault z = absurd (true≢false event)
  plain_want (UpReturns f v) (Fault k c ins outs a') own event fault z = absurd cc
  plain_want (CallsBack f args bytes) a own event fault z = absurd cc

-- the last mark above the cut is an event, or the code, if it isn't lost, stands in replay mode
abbrev EndsOrStands : Laid → Config → List Mark → Type 0
EndsOrStands l c mine = EndsWithEvent (replay_part mine) ⊎
    (IsHere (step Split l (state Split l c mine)) → is_next_above (step Split l (state Split l c mine)) ≡ true)

module _ (w : World) (fit : IsFit w) where
  module _ (past : List Mark) (m : Mark) (f : Follows w (m ∷ past)) where
    abbrev s : Picked w past
    s = f.0.step

    abbrev made : IsMade w past s m
    made = f.0.made

    abbrev first : Config
    first = beginning w past s.thread

    abbrev mine : List Mark
    mine = own w s.thread past

    known : AreThreads w past
    known = threads_known w fit.code past f.1

    no_fault_there : is_fault m.act ≡ 0
    no_fault_there = no_fault w fit.code past known s m made m.act made.agrees

    side_there : side_of s.side m.act ≡ m.side
    side_there = same_side_true (side_of s.side m.act) m.side (side_is s.side s.want m made.replies)

    begins_so_here : HasSides first
    begins_so_here = subst HasSides (sym (begins_so w past s.thread)) tt

    stands : m.side ≡ Replay → is_event m.act ≡ false → IsHere (step Split w.laid (state Split w.laid first (m ∷ mine))) → is_next_above (step Split w.laid (state Split w.laid first (m ∷ mine))) ≡ true
    stands above event here =
        let on : s.side ≡ Replay = sym (plain_side s.side m.act event) ∙ (side_there ∙ above) in
        let plain : IsPlain s.want = plain_want w.laid s.want m.act (subst (λ d. IsOwn w.laid d s.want) on (own_want w fit.code past known s)) event no_fault_there (answers_to s.side s.want m made.replies) in
        let x = answer_of w fit.code past known s m made (reply s.side s.want m) refl made.replies in
        let now : Config = state Split w.laid first mine in
        let goes = ap (λ n. move n m now) s.comes_is ∙ (ap (λ o. moved o s.to now) x.1 ∙ led x.0 s.to now (answers_lead s.side s.want m x.0 no_fault_there x.1)) in
        mode_after w.laid first begins_so_here mine m s.want s.to x.0 (subst (λ d. step Split w.laid now ≡ Wants d s.want s.to) on s.comes_is) plain goes here

    -- a mark below the cut follows one there, or an event
    stays_below : same_side m.side Replay ≡ false → EndsOrStands w.laid first mine → EndsOrStands w.laid first (m ∷ mine)
    stays_below e before = ⊎_elim
        (λ h. inl (subst (λ b. EndsWithEvent (cond b (m ∷ replay_part mine) (replay_part mine))) (sym e) h))
        (λ h. absurd (by s.side refl (h (subst IsHere (sym s.comes_is) tt))))
        before
      where
        by : (d : Side) → s.side ≡ d → is_next_above (step Split w.laid (state Split w.laid first mine)) ≡ true → ⊥
        by System z y = true≢false (sym y ∙ (ap is_next_above s.comes_is ∙ ap (λ d. is_next_above (Wants d s.want s.to)) z))
        by Replay z y =
            let here : m.side ≡ Replay = sym side_there ∙ (ap (λ d. side_of d m.act) z ∙ sides.above m.act) in
            true≢false (sym (ap (λ d. same_side d Replay) here) ∙ e)

    goes_on_so : EndsOrStands w.laid first mine → EndsOrStands w.laid first (m ∷ mine)
    goes_on_so before = go (same_side m.side Replay) refl (is_event m.act) refl
      where
        go : (a : Bool) → same_side m.side Replay ≡ a → (b : Bool) → is_event m.act ≡ b → EndsOrStands w.laid first (m ∷ mine)
        go true e true v = inl (subst (λ b. EndsWithEvent (cond b (m ∷ replay_part mine) (replay_part mine))) (sym e) v)
        go true e false v = inr (stands (same_side_true m.side Replay e) v)
        go false e b v = stays_below e before

  pub ends_or_stands : (past : List Mark) → Follows w past → (t : ℕ) → t < started past → EndsOrStands w.laid (beginning w past t) (own w t past)
  ends_or_stands [] f t lt = inl tt
  ends_or_stands (m ∷ past) f t lt =
      let before = ends_or_stands past f.1 in
      let known : AreThreads w past = threads_known w fit.code past f.1 in
      kept_along w fit.code past known f.0.step m f.0.made (EndsOrStands w.laid) before
      (goes_on_so past m f (before f.0.step.thread (picked_started w fit.code past known f.0.step))) (λ g args. inl tt) t lt

pub end_or_stand : (w : World) → SuitedThreadsEndOrStand w
end_or_stand w fit suits past f t lt = ⊎_elim
    (λ h. inl (subst EndsWithEvent (sym (own_seen w past t)) h))
    (λ h. inr (h (lose_none w fit suits past f t lt)))
    (ends_or_stands w fit past f t lt)
