-- The mark that is made for what is told is that of the step.
use Rattle.std.proofs.Common.{◌≡◌, ℕ, Bool, false, ◌||◌, eqb, List, Some, Result, Ok, Err, refl, sym, ap, ◌∙◌, subst}
use Rattle.std.specs.Prelude.{◌≢◌, IfOk}
use Rattle.marks.specs.declared.fault.FaultKind.{FaultKind}
use Rattle.marks.specs.declared.side.Side.{Side}
use Rattle.marks.specs.declared.side.Side.TheVariants.{Replay, System}
use Rattle.marks.specs.Places.{function_address}
use Rattle.marks.specs.Wants.{Want, Fails, Steps}
use Rattle.c_machine.specs.Moves.{ThreadState}
use Rattle.replay_runs.specs.Checks.{Passes}
use Rattle.replay_runs.specs.Pool.{is_registered}
use Rattle.whole_runs.specs.World.{World, begin, main_of}
use Rattle.whole_runs.specs.Sides.{seen}
use Rattle.whole_runs.specs.Below.{Given, ByPool, Says, NoMore}
use Rattle.whole_runs.specs.Tests.{is_back, tests}
use Rattle.recorder_threads.specs.declared.wants.Want.{Want as Told}
use Rattle.recorder_threads.specs.declared.wants.Want.TheVariants as told
use Rattle.recorder_answers.proofs.Faces.{gives_face}
use Rattle.recorder_answers.proofs.Given.{no_pool}
use Rattle.reference_recorder_marks.specs.declared.mark.Mark.{Mark as ToldMark}
use Rattle.reference_recorder_marks.specs.Marks.{past}
use Rattle.reference_recorder_threads.specs.Telling.{AreThreadsAfter, IsPast}
use Rattle.reference_recorder_rules.specs.Steps.{IsMadeAs, IsToMake}
use Rattle.reference_recorder_acts.specs.Acts.{IsNextFrame, IsStepMark, by_address}
use Rattle.reference_recorder_acts.proofs.Plain.{of_told}
use Rattle.reference_recorder_origins.proofs.Memory.{registered_seen}
use Rattle.reference_recorder_call_events.specs.Returns.{IsGiveNext, IsSaid}
use Rattle.reference_recorder_made.specs.Asking.{IsGivenTo, asked_func}
use Rattle.reference_recorder_made.proofs.Sides.{IsOn, on_side}

-- of each step of the thread for which its code wants what is told so, on the side, the result is the mark
abbrev pub Makes : {E : Type 0} → World → List ToldMark → (thread : ℕ) → Side → (args : List ℕ) → Told →
    Result ToldMark E → Type 0
Makes w marks t side args said r = (to : IsToMake w marks t side args said) → IfOk r (IsMadeAs w to.at.past.run to.at.step)

module _ {w : World} {marks : List ToldMark} {t : ℕ} {side : Side} {args : List ℕ} {want : Told} (to : IsToMake w marks t side args want)
    (said : Told) (is : want ≡ said) where
  -- ---- what the code wants is told so

  pub as_told : IsToMake w marks t side args said
  as_told = subst (IsToMake w marks t side args) is to

  pub told_makes : {E : Type 0} (r : Result ToldMark E) → Makes w marks t side args said r → Makes w marks t side args want r
  told_makes r h = subst (λ v. Makes w marks t side args v r) (sym is) h

  -- a mark for any arguments is one for these
  pub told_made : (m : ToldMark) → IsStepMark w marks t side said m →
      (next : IsToMake w marks t side args want) → IsMadeAs w next.at.past.run next.at.step m
  told_made m h = subst (λ v. (next : IsToMake w marks t side args v) → IsMadeAs w next.at.past.run next.at.step m) (sym is) (h args)

  pub told_makes_any : {E : Type 0} (r : Result ToldMark E) → IfOk r (IsStepMark w marks t side said) → Makes w marks t side args want r
  told_makes_any (Ok m) h = told_made m h
  told_makes_any (Err e) h = λ next. tt

  -- ---- and it is wanted on one side alone

  module _ (other : Side) (alone : IsOn said side → side ≡ other) where
    there : side ≡ other
    there = alone (on_side said as_told.at)

    pub as_alone : IsToMake w marks t other args said
    as_alone = subst (λ d. IsToMake w marks t d args said) there as_told

    pub alone_makes : {E : Type 0} (r : Result ToldMark E) → Makes w marks t other args said r → Makes w marks t side args want r
    alone_makes r h = told_makes r (subst (λ d. Makes w marks t d args said r) (sym there) h)

    pub alone_makes_any : {E : Type 0} (r : Result ToldMark E) → IfOk r (IsStepMark w marks t other said) → Makes w marks t side args want r
    alone_makes_any r h = told_makes_any r (subst (λ d. IfOk r (IsStepMark w marks t d said)) (sym there) h)

-- ---- what no step does whose tests pass

module _ {w : World} {marks : List ToldMark} {t : ℕ} {side : Side} {args : List ℕ} where
  passed : {said : Told} (to : IsToMake w marks t side args said) (v : Want) → to.at.step.want ≡ v → Passes (tests w to.at.past.run t side v)
  passed {said} to v is = of_told w marks t side args said to.at v is (λ u d x. Passes (tests w to.at.past.run u d x)) to.passes

  -- code above the cut comes to no Step
  pub step_below : (i : Bool) (f : ℕ) → IsToMake w marks t side args (told.Step i f) → side ≡ System
  step_below i f to = by side (passed to (Steps i f args) to.at.told)
    where
      by : (d : Side) → Passes (tests w to.at.past.run t d (Steps i f args)) → d ≡ System
      by Replay p = absurd (p.0 (function_address f) refl)
      by System p = refl

  -- and none to what it can't go on with
  pub no_fault : (n : ℕ) → IsToMake w marks t side args (told.Fault n) → ⊥
  no_fault n to = by side to.at.told.0 (passed to (Fails to.at.told.0) to.at.told.1)
    where
      by : (d : Side) (kind : FaultKind) → Passes (tests w to.at.past.run t d (Fails kind)) → ⊥
      by Replay kind p = p.0 0 tt
      by System kind p = p.0 0 tt

-- ---- results that code waits for

-- what is given, where the code waits for the result of this one
pub given_so : (w : World) (marks : List ToldMark) (t : ℕ) (args : List ℕ) (want said : Told) (g : Given) → want ≡ said →
    IsGivenTo w marks t args (asked_func want) g → IsGivenTo w marks t args (asked_func said) g
given_so w marks t args want said g is h = subst (λ v. IsGivenTo w marks t args (asked_func v) g) is h

pub is_said : (g : Given) → (g ≡ ByPool → ⊥) → g ≢ NoMore → IsSaid g
is_said ByPool pool more = absurd (pool refl)
is_said (Says v pieces) pool more = tt
is_said NoMore pool more = absurd (more refl)

module _ {w : World} {marks : List ToldMark} {t f : ℕ} {args : List ℕ} where
  -- of the calls of the interface the pool says none
  abbrev pub gives_next : (threads : List ThreadState) → AreThreadsAfter w marks threads → (g : Given) → IsGivenTo w marks t args (Some f) g →
      IsToMake w marks t Replay args (told.Give f) → IsGiveNext w marks t f args g
  gives_next threads are g gives to = record {
    next = to;
    given_is = gives.0 to.at.past;
    said = is_said g
        (λ e. no_pool w to.at.past.fit to.at.past.run f args
        (gives_face w to.at.past.fit to.at.past.run to.at.past.follows to.at.step f args threads (are to.at.past) to.at.told) t
        (sym (gives.0 to.at.past) ∙ e))
        gives.1;
  }

-- ---- calls back

pub back_is : {w : World} {marks : List ToldMark} (p : IsPast w marks) (f : ℕ) → is_back w (past marks) f ≡ is_back w p.run f
back_is {w} p f =
    ap (λ b. eqb f (main_of w.laid.code) || b) (ap (λ ms. is_registered (begin w) f (seen ms)) (sym p.same) ∙ registered_seen w f p.run)

-- a function that isn't called back gets a frame
abbrev pub frame_next : {w : World} {marks : List ToldMark} {t f : ℕ} {args : List ℕ} (size : ℕ) → is_back w (past marks) f ≡ false →
    IsToMake w marks t System args (told.CallBack f size) → IsNextFrame w marks t System f args
frame_next {f = f} size stays to = record {
  said = told.CallBack f size;
  to = to;
  frame = by_address size (sym (back_is to.at.past f) ∙ stays);
}
