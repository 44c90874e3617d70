-- An UpRet.
use Rattle.std.proofs.Common.{◌≡◌, ℕ, ◌<◌, arith, length, get_or, ◌&&◌, eqb, List, [], ◌∷◌, Some, refl, sym, ap, ◌∙◌, subst, eq-eqb}
use Rattle.std.specs.Prelude.{is_some}
use Rattle.run_events.specs.declared.key.Class.{Class}
use Rattle.run_events.specs.declared.key.Class.TheVariants.{Mutex, User, Callback, Thread, Pool, Out, Async}
use Rattle.marks.specs.declared.side.Side.TheVariants.{Replay}
use Rattle.marks.specs.Marks.{UpRet, Mark}
use Rattle.marks.specs.Opens.{open_ups}
use Rattle.marks.specs.Wants.{UpReturns, Go, answer_if, event_answer}
use Rattle.c_code.specs.Opens.{EndsInnermost, IsFirst, opens_by}
use Rattle.replay_runs.specs.Runs.{OfKey, new_events}
use Rattle.replay_runs.specs.Rules.{ClosesUp, SharedEvent}
use Rattle.whole_runs.specs.World.{World, begin, interface}
use Rattle.whole_runs.specs.Sides.{own, seen}
use Rattle.whole_runs.specs.Steps.{Picked}
use Rattle.whole_runs_memory.proofs.Ends as innermost
use Rattle.whole_runs_memory.proofs.Seen.{own_seen}
use Rattle.recorder_threads.specs.declared.wants.Want.TheVariants as told
use Rattle.recorder_events.specs.Making.{CanBe, own_above}
use Rattle.reference_recorder_marks.specs.declared.mark.Mark.{Mark as Told}
use Rattle.reference_recorder_marks.specs.Marks.{past}
use Rattle.reference_recorder_rules.specs.Steps.{IsToMake}
use Rattle.reference_recorder_events.proofs.Numbered.{ups_are}

closes_first : (fs : List ℕ) (f : ℕ) → IsFirst f fs → ClosesUp fs f
closes_first [] f h = absurd h
closes_first (g ∷ fs) f h = h

some_first : (ups : List ℕ) (f : ℕ) → ClosesUp ups f → 0 < length ups
some_first [] f h = absurd h
some_first (g ∷ ups) f h = omega arith

first_is : (ups : List ℕ) (f d : ℕ) → ClosesUp ups f → get_or ups 0 d ≡ f
first_is [] f d h = absurd h
first_is (g ∷ ups) f d h = sym h

-- no rule of a key asks anything of it
shared_none : (w : World) (c : Class) (value : ℕ) (ms : List Mark) (f v : ℕ) → SharedEvent (interface w) (begin w) c value ms (UpRet f v)
shared_none w Mutex value ms f v = tt
shared_none w User value ms f v = tt
shared_none w Callback value ms f v = tt
shared_none w Thread value ms f v = tt
shared_none w Pool value ms f v = tt
shared_none w Out value ms f v = tt
shared_none w Async value ms f v = tt

module _ (w : World) (marks : List Told) (t v : ℕ) (args : List ℕ) (h : IsToMake w marks t Replay args (told.UpReturn v)) where
  abbrev run : List Mark
  run = h.at.past.run

  abbrev s : Picked w run
  s = h.at.step

  abbrev func : ℕ
  func = h.at.told.0

  -- it is the end of the call back that is open last
  ends_up : EndsInnermost Replay (UpReturns func v) (opens_by (own w s.thread run))
  ends_up = subst (λ d. EndsInnermost d (UpReturns func v) (opens_by (own w s.thread run))) h.at.on_side
      (subst (λ z. EndsInnermost s.side z (opens_by (own w s.thread run))) h.at.told.1 (innermost.ends w h.at.past.fit run h.at.past.follows s))

  closes : ClosesUp (open_ups (own_above w s.thread run)) func
  closes = subst (λ ms. ClosesUp (open_ups ms) func) (sym (own_seen w s.thread run)) (closes_first (opens_by (own w s.thread run)).ups func ends_up)

  closes_last : (ups : List ℕ) → ups ≡ open_ups (own_above w t (past marks)) → ClosesUp ups func
  closes_last ups are = subst (λ us. ClosesUp us func) (ap (λ u. open_ups (own_above w u run)) h.at.of_thread ∙ (sym (ups_are w marks h.at.past t) ∙ sym are)) closes

  answer : event_answer s.want (UpRet func v) ≡ Some Go
  answer = ap (λ z. event_answer z (UpRet func v)) h.at.told.1 ∙ (ap (λ b. answer_if (b && eqb v v) Go) (eq-eqb func func refl) ∙ ap (λ b. answer_if b Go) (eq-eqb v v refl))

  can_be : CanBe w run s (UpRet func v)
  can_be = record {
    answers = ap is_some answer;
    agrees = tt;
    carries = closes;
    shared = λ k among. shared_none w k.class k.value (new_events (OfKey k) (seen run)) func v;
    bytes = λ x. tt;
    passes = h.passes;
  }

  can_be_up_return : (f : ℕ) → f ≡ func → CanBe w run s (UpRet f v)
  can_be_up_return f is = subst (λ g. CanBe w run s (UpRet g v)) (sym is) can_be

  -- the first of those that are open is the one that returns
  module _ (ups : List ℕ) (are : ups ≡ open_ups (own_above w t (past marks))) where
    pub is_open : 0 < length ups
    is_open = some_first ups func (closes_last ups are)

    pub can_be_first : (f d : ℕ) → f ≡ get_or ups 0 d → CanBe w run s (UpRet f v)
    can_be_first f d is = can_be_up_return f (is ∙ first_is ups func d (closes_last ups are))
