-- The builtin or external whose result code waits for.
use Rattle.std.proofs.Common.{◌≡◌, ℕ, List, Option, Some, None, refl, sym, ap, ◌∙◌, subst}
use Rattle.marks.specs.declared.side.Side.{Side}
use Rattle.marks.specs.Ranges.{range}
use Rattle.marks.specs.Marks.{Mark}
use Rattle.marks.specs.Wants.{Want}
use Rattle.c_code.specs.Machine.{Laid}
use Rattle.stub_meaning.specs.Meaning.{first_of}
use Rattle.whole_runs.specs.World.{World}
use Rattle.whole_runs.specs.Sides.{frames_on}
use Rattle.whole_runs.specs.Picks.{Asked, asked}
use Rattle.whole_runs.specs.Below.{Given, ByPool, Says, NoMore, given}
use Rattle.whole_runs_memory.proofs.Ends.{leaves}
use Rattle.recorder_threads.specs.declared.wants.Want.{Want as Told}
use Rattle.recorder_threads.specs.declared.wants.Want.TheVariants as told
use Rattle.recorder_threads.specs.Wants.{IsTold}
use Rattle.reference_recorder_made.specs.Asking.{IsGivenTo, asked_func}
use Rattle.reference_recorder_marks.specs.declared.mark.Mark.{Mark as ToldMark}
use Rattle.reference_recorder_given.specs.declared.gives.Given.{Given as ToldGiven}
use Rattle.reference_recorder_given.specs.Given.{shown}
use Rattle.reference_recorder_checks.specs.Asked.{IsAsked}
use Rattle.reference_recorder_threads.specs.Telling.{IsPast}
use Rattle.reference_recorder_rules.specs.Steps.{IsAtStep}
use Rattle.reference_recorder.specs.Steps.{IsGivenFor, lacks}

abbrev number_in : ℕ → Option ℕ → ℕ
number_in d (Some n) = n
number_in d None = d

same : (f g : ℕ) → ◌≡◌ {A = Option ℕ} (Some g) (Some f) → g ≡ f
same f g e = ap (number_in g) e

-- what is told of a want that waits for a result says so
pub asked_so : (l : Laid) (args : List ℕ) (said : Told) (want : Want) → IsTold l args said want → (f : ℕ) → asked_func said ≡ Some f → asked want ≡ Some (record { func = f; args = args })
asked_so l args (told.Give g) want is f e = ap asked is ∙ ap (λ k. let a : Asked = record { func = k; args = args } in Some a) (same f g e)
asked_so l args (told.Step i g) want is f e = ap asked is ∙ ap (λ k. let a : Asked = record { func = k; args = args } in Some a) (same f g e)
asked_so l args told.Turn want is f e = absurd cc
asked_so l args (told.Load at k) want is f e = absurd cc
asked_so l args (told.Store at k v) want is f e = absurd cc
asked_so l args (told.Enter i g size) want is f e = absurd cc
asked_so l args told.Leave want is f e = absurd cc
asked_so l args (told.Alloc k) want is f e = absurd cc
asked_so l args (told.Free at) want is f e = absurd cc
asked_so l args (told.Call i g) want is f e = absurd cc
asked_so l args (told.Return g v) want is f e = absurd cc
asked_so l args (told.CallBack g size) want is f e = absurd cc
asked_so l args (told.UpReturn v) want is f e = absurd cc
asked_so l args (told.Fault k) want is f e = absurd cc

abbrev func_in : Option Asked → ℕ
func_in None = 0
func_in (Some a) = a.func

-- and of no other
asked_back : (l : Laid) (args : List ℕ) (said : Told) (want : Want) → IsTold l args said want → (f : ℕ) (xs : List ℕ) → asked want ≡ Some (record { func = f; args = xs }) → asked_func said ≡ Some f
asked_back l args (told.Give g) want is f xs e = ap (λ a. Some (func_in a)) (sym (ap asked is) ∙ e)
asked_back l args (told.Step i g) want is f xs e = ap (λ a. Some (func_in a)) (sym (ap asked is) ∙ e)
asked_back l args told.Turn want is f xs e = let none = sym (ap asked is) ∙ e in absurd cc
asked_back l args (told.Load at k) want is f xs e = let none = sym (ap asked is.1) ∙ e in absurd cc
asked_back l args (told.Store at k v) want is f xs e = let none = sym (ap asked is.1) ∙ e in absurd cc
asked_back l args (told.Enter i g size) want is f xs e = let none = sym (ap asked is.0) ∙ e in absurd cc
asked_back l args told.Leave want is f xs e = let none = sym (ap asked is.2) ∙ e in absurd cc
asked_back l args (told.Alloc k) want is f xs e = let none = sym (ap asked is) ∙ e in absurd cc
asked_back l args (told.Free at) want is f xs e = let none = sym (ap asked is) ∙ e in absurd cc
asked_back l args (told.Call i g) want is f xs e = let none = sym (ap asked is) ∙ e in absurd cc
asked_back l args (told.Return g v) want is f xs e = let none = sym (ap asked is) ∙ e in absurd cc
asked_back l args (told.CallBack g size) want is f xs e = let none = sym (ap asked is.0) ∙ e in absurd cc
asked_back l args (told.UpReturn v) want is f xs e = let none = sym (ap asked is.1) ∙ e in absurd cc
asked_back l args (told.Fault k) want is f xs e = let none = sym (ap asked is.1) ∙ e in absurd cc

given_where : (w : World) (past : List Mark) (t : ℕ) (args : List ℕ) (o : Option ℕ) (g : Given) (f : ℕ) → o ≡ Some f → IsGivenFor w past t args o g → g ≡ given w past t f args
given_where w past t args o g f e h = subst (λ q. IsGivenFor w past t args q g) e h

-- what the tests of a step are asked
module _ (w : World) (marks : List ToldMark) (t : ℕ) (side : Side) (args : List ℕ) (said : Told) (gave : ToldGiven) where
  pub is_asked : (at : IsAtStep w marks t side args said) → IsGivenFor w at.past.run t args (asked_func said) (shown gave) → IsAsked w at.past.run t side args said gave at.step.want
  is_asked at h = subst (λ d. IsAsked w at.past.run t d args said gave at.step.want) at.on_side (record {
    told = at.told;
    gives = λ f e. given_where w at.past.run t args (asked_func said) (shown gave) f (asked_back w.laid args said at.step.want at.told f args (ap asked e)) h;
    steps = λ i f e. given_where w at.past.run t args (asked_func said) (shown gave) f (asked_back w.laid args said at.step.want at.told f args (ap asked e)) h;
    leaves = λ x size e. subst (λ u. first_of (frames_on w at.step.side u at.past.run) ≡ Some (range x size)) at.of_thread (leaves w at.past.fit at.past.run at.past.follows at.step x size e);
  })

-- ---- an answer that is lacking

pub lacks_none : (o : Option ℕ) (f : ℕ) (g : Given) → lacks o g ≡ Some f → (o ≡ Some f) × (g ≡ NoMore)
lacks_none o f ByPool e = absurd cc
lacks_none o f (Says v pieces) e = absurd cc
lacks_none o f NoMore e = (e, refl)

pub has_more : (o : Option ℕ) (f : ℕ) (g : Given) → o ≡ Some f → lacks o g ≡ None → g ≡ NoMore → ⊥
has_more o f ByPool e n z = absurd cc
has_more o f (Says v pieces) e n z = absurd cc
has_more o f NoMore e n z = let both : ◌≡◌ {A = Option ℕ} (Some f) None = sym e ∙ n in absurd cc

pub given_to : (w : World) (marks : List ToldMark) (t : ℕ) (args : List ℕ) (o : Option ℕ) (g : Given) → ((p : IsPast w marks) → IsGivenFor w p.run t args o g) → lacks o g ≡ None → IsGivenTo w marks t args o g
given_to w marks t args None g h n = tt
given_to w marks t args (Some f) g h n = (λ p. h p, λ z. has_more (Some f) f g refl n z)
