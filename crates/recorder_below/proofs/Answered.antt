-- Steps of externals.
use Rattle.std.proofs.Common.{◌≡◌, ℕ, zero, suc, ◌<◌, List, [], ◌∷◌, length, Some, refl, sym, ap, ◌∙◌, subst, arith}
use Rattle.std.specs.Prelude.{slice_get}
use Rattle.std.specs.Option.{option_or}
use Rattle.std.proofs.lemmas.List.{length-map}
use Rattle.marks.specs.declared.side.Side.TheVariants.{System}
use Rattle.marks.specs.Ranges.{Prepared}
use Rattle.marks.specs.Marks.{Mark}
use Rattle.marks.specs.Wants.{Steps, Value}
use Rattle.replay_runs.specs.Checks.{Passes}
use Rattle.steps_above_memory.specs.declared.refusal.StepRefusal.{StepRefusal}
use Rattle.whole_runs.specs.World.{World, interface_on}
use Rattle.whole_runs.specs.Picks.{asked}
use Rattle.system_side.specs.declared.file.Scripted.{Scripted}
use Rattle.whole_runs.specs.Below.{NoMore, Says, given, last_under, pieces_for, prepared_below}
use Rattle.whole_runs.specs.Below as below
use Rattle.whole_runs.specs.Tests.{external_checks, step_checks, tests}
use Rattle.recorder_memory.specs.declared.memory.Memory.{Memory}
use Rattle.recorder_memory.specs.declared.target.PieceTarget.{PieceTarget}
use Rattle.recorder_memory.specs.Steps.{ComesTo}
use Rattle.recorder_memory.specs.Below.{Answers, ComesToExternal, LeavesSeen, RefusesAnswer, target_of, targets_of}
use Rattle.recorder_memory.proofs.Modes.{step_passes}
use Rattle.recorder_system.specs.declared.given.Given.{Given}
use Rattle.recorder_system.specs.declared.given.Given.TheVariants as shown
use Rattle.recorder_system.specs.Calls.{IsGiven, TellsGiven}
use Rattle.recorder_threads.specs.declared.wants.Want.TheVariants as told
use Rattle.recorder_threads.specs.Threads.{args_at}
use Rattle.recorder_state.specs.declared.state.RunState.{RunState}
use Rattle.recorder_state.specs.declared.prepared.PreparedBelow.{PreparedBelow}
use Rattle.recorder_state.specs.declared.stop.Stop.{Stop}
use Rattle.recorder_state.specs.Prepared.{Prepares}
use Rattle.recorder_state.specs.Ends.{IsStopped, LacksAnswer}
use Rattle.recorder_state.specs.Plain.{IsResultStep}
use Rattle.recorder_plain.proofs.Steps.{comes, stops}
use Rattle.recorder_below.specs.Externals.{AreTargets, IsAtAnswer, IsAtExternal}
use Rattle.recorder_below.proofs.Called.{gives, prints_nothing}
use Rattle.recorder_below.proofs.Made.{EndsBy}
use Rattle.recorder_below.proofs.Scripted.{never_pool, pieces_count}

got_below : {A : Type 0} (xs : List A) (k : ℕ) (x : A) → slice_get xs k ≡ Some x → k < length xs
got_below [] k x e = absurd cc
got_below (y ∷ xs) zero x e = omega arith
got_below (y ∷ xs) (suc k) x e = let lt = got_below xs k x e in omega (arith, lt)

module _ (w : World) (s : RunState) (t f : ℕ) (e : IsAtExternal w s t f) where
  abbrev pub args : List ℕ
  args = args_at s.threads t

  abbrev pub past : List Mark
  past = e.at.reached.past

  abbrev pub to : ComesTo w past s.memory t System (Steps e.indirect f args)
  to = comes w s t System (told.Step e.indirect f) e.at (Steps e.indirect f args) e.at.told e.may

  -- its tests pass, but the file has no more answers
  pub lacks : given w past t f args ≡ NoMore → LacksAnswer w s t System f
  lacks none = record {
    at = record {
      fit = e.at.reached.fit;
      past = past;
      follows = e.at.reached.follows;
      seen = e.at.reached.memory.above;
      shown = e.at.reached.around.shown;
      step = e.at.step;
      thread = e.at.thread;
      side_is = e.at.side_is;
    };
    passes = subst (λ v. Passes (tests w past t System v)) (sym e.at.told) (step_passes w past t f args e.indirect e.may (subst (λ o. Passes (step_checks w past t f args o)) (sym e.external) (subst (λ g. Passes (external_checks w past t f args g)) (sym none) tt)));
    lacks = record {
      args = args;
      asks = ap asked e.at.told;
      none = subst (λ u. given w past u f args ≡ NoMore) (sym e.at.thread) none;
    };
  }

module _ (w : World) (s : RunState) (t f v : ℕ) (ps : List (List ℕ)) (h : IsAtAnswer w s t f v ps) (xs : List PieceTarget) (are : AreTargets w s f (args_at s.threads t) v xs) where
  abbrev e : IsAtExternal w s t f
  e = h.to

  abbrev bs : List ℕ
  bs = args_at s.threads t

  abbrev before : List Mark
  before = h.to.at.reached.past

  abbrev places : ComesToExternal w before s.memory t e.indirect f bs v (targets_of xs) ps
  places = record {
    to = to w s t f e;
    external = e.external;
    says = h.says;
    places_are = sym (are before e.at.reached.memory e.at.reached.around.prepared);
  }

  -- there is a piece for each target
  pub as_many : length ps ≡ length xs
  as_many =
      pieces_count w e.at.reached.fit before t f bs v ps e.external h.says
      ∙ ap length (sym (are before e.at.reached.memory e.at.reached.around.prepared))
      ∙ length-map xs target_of

  pub answer_stops : (r : StepRefusal) (end : Stop) (new : Memory) → EndsBy t r end → RefusesAnswer s.memory t (targets_of xs) ps r → LeavesSeen s.memory new → IsStopped w (record s { memory = new }) end
  answer_stops r end new ends refuses leaves =
      stops w s t System (told.Step e.indirect f) e.at (Steps e.indirect f bs) e.at.told r end new ends (refuses w before e.indirect f bs v places) (leaves w before e.at.reached.memory)

  pub answer_gives : (prepares : List Prepared) → prepares ≡ (interface_on w System f).prepares f bs → (new : Memory) (regions : PreparedBelow) → Answers s.memory t (targets_of xs) ps new → Prepares prepares s.prepared regions → IsResultStep w (record s { memory = new; prepared = regions }) t f v (Value v)
  answer_gives prepares same new regions answers noted =
      gives w s t e.indirect f e.at v [] (pieces_for (targets_of xs) ps) [] new regions (record s { memory = new; prepared = regions }) refl
      (λ k. noted k ∙ ap (option_or (last_under k prepares)) (e.at.reached.around.prepared k) ∙ ap (λ qs. option_or (last_under k qs) (prepared_below w k before)) same)
      (prints_nothing s.system_output.items f)
      (answers w before e.indirect f bs v places)

-- ---- what the system says that it is given

module _ (w : World) (s : RunState) (t f : ℕ) (e : IsAtExternal w s t f) (g : Given) (tells : TellsGiven t f (args_at s.threads t) s.system g) where
  abbrev called : below.Given
  called = given w e.at.reached.past t f (args_at s.threads t)

  given_so : IsGiven w called g
  given_so = tells w e.at.reached.past e.at.reached.around.system

  of_answer : (p : ℕ) → g ≡ shown.Answer p → (a : Scripted) × (slice_get w.file.answers p ≡ Some a) × (called ≡ Says a.result a.pieces)
  of_answer p is = subst (IsGiven w called) is given_so

  pub place_there : (p : ℕ) → g ≡ shown.Answer p → p < length w.file.answers
  place_there p is = let a = of_answer p is in got_below w.file.answers p a.0 a.1

  pub answer_is : (p : ℕ) → g ≡ shown.Answer p → (a : Scripted) → slice_get w.file.answers p ≡ Some a → IsAtAnswer w s t f a.result a.pieces
  answer_is p is a there =
      let b = of_answer p is in
      let same : b.0 ≡ a = some_same b.0 a (sym b.1 ∙ there) in
      record { to = e; says = b.2 ∙ ap (λ (c : Scripted). Says c.result c.pieces) same }
    where
      some_same : (x y : Scripted) → Some x ≡ Some y → x ≡ y
      some_same x y z = cc

  pub value_is : (v : ℕ) → g ≡ shown.Value v → IsAtAnswer w s t f v []
  value_is v is = record { to = e; says = subst (IsGiven w called) is given_so }

  pub no_more : g ≡ shown.NoMore → LacksAnswer w s t System f
  no_more is = lacks w s t f e (subst (IsGiven w called) is given_so)

  pub not_by_pool : g ≡ shown.ByPool → ⊥
  not_by_pool is = never_pool w e.at.reached.past t f (args_at s.threads t) e.external (subst (IsGiven w called) is given_so)
