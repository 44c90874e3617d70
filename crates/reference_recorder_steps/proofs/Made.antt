-- The mark of a step is that which the run makes.
use Rattle.std.proofs.Common.{◌≡◌, ℕ, Bool, eqb, List, [], ◌∷◌, ◌++◌, map, Option, Some, None, refl, sym, ap, ◌∙◌, subst}
use Rattle.std.specs.Prelude.{◌≢◌, filter, slice_get}
use Rattle.std.specs.Option.{option_or}
use Rattle.marks.specs.declared.side.Side.TheVariants.{System}
use Rattle.marks.specs.declared.range.Range.{Range}
use Rattle.marks.specs.Ranges.{Piece}
use Rattle.marks.specs.Places.{system_pool}
use Rattle.marks.specs.Marks.{Mark, Step}
use Rattle.marks.specs.Wants.{Steps}
use Rattle.c_builtins.specs.declared.builtin.Builtin.{Builtin}
use Rattle.c_builtins.specs.declared.builtin.Builtin.TheVariants as builtins
use Rattle.c_code.specs.Machine.{first}
use Rattle.replay_runs.specs.Interface.{Committing}
use Rattle.replay_runs.specs.Pool.{IsPlace, in_use}
use Rattle.system_side.specs.declared.file.Scripted.{Scripted}
use Rattle.whole_runs.specs.World.{World, begin, interface_on}
use Rattle.whole_runs.specs.Sides.{seen}
use Rattle.whole_runs.specs.Outcomes.{builtin_of, used}
use Rattle.whole_runs.specs.Memory.{HasAll, real}
use Rattle.whole_runs.specs.Below.{Given, ByPool, Says, NoMore, Target, To, commit_target, given, given_by, next_answer, pieces_for, prepared_below, target_at, target_used, targets}
use Rattle.whole_runs.specs.Steps.{GivesStep, IsAllocation, IsRelease, IsStep, StepOf, read_by}
use Rattle.recorder_memory.proofs.Replies.{step_answers}
use Rattle.recorder_threads.specs.declared.wants.Want.TheVariants as told
use Rattle.reference_recorder_marks.specs.declared.mark.Act.{Act}
use Rattle.reference_recorder_marks.specs.declared.mark.Mark.{Mark as Told}
use Rattle.reference_recorder_marks.specs.Marks.{past, without_origins}
use Rattle.reference_recorder_origins.proofs.Memory.{blocks_below, in_use_seen, prepared_without, real_without}
use Rattle.reference_recorder_rules.specs.Steps.{IsMadeAs, IsToMake}
use Rattle.reference_recorder_acts.specs.Acts.{next_after}
use Rattle.reference_recorder_acts.proofs.Plain.{made_as}
use Rattle.reference_recorder_steps.specs.Carried.{IsAnswered, IsResult, IsStepGiven, act_with}
use Rattle.reference_recorder_steps.specs.Reads.{AreRead}

-- ---- what a call is given

result_next : (o : Option Scripted) → next_answer o ≢ NoMore → IsResult (next_answer o)
result_next None more = absurd (more refl)
result_next (Some a) more = tt

-- but of the pool, each call is given a result where the file has one more answer
answered : (w : World) (run : List Mark) (t f : ℕ) (args : List ℕ) (o : Option Builtin) → given_by w run t f args o ≢ NoMore →
    IsAnswered o (given_by w run t f args o)
answered w run t f args (Some builtins.Malloc) more = tt
answered w run t f args (Some builtins.Free) more = tt
answered w run t f args (Some builtins.Spawn) more = tt
answered w run t f args (Some builtins.Join) more = tt
answered w run t f args (Some builtins.Lock) more = tt
answered w run t f args (Some builtins.Unlock) more = tt
answered w run t f args (Some builtins.Print) more = tt
answered w run t f args None more =
    result_next (slice_get (filter (λ (a : Scripted). eqb a.func f) w.file.answers) (used f run)) more

pub answered_so : (w : World) (run : List Mark) (t f : ℕ) (args : List ℕ) (g : Given) → g ≡ given w run t f args → g ≢ NoMore →
    IsAnswered (builtin_of f) g
answered_so w run t f args g is more =
    subst (IsAnswered (builtin_of f)) (sym is) (answered w run t f args (builtin_of f) (λ e. more (is ∙ e)))

-- one that is given a result, with what it reads and writes
pub result_given : (w : World) (marks : List Told) (s : StepOf) (g : Given) (v : ℕ) (pieces : List (List ℕ)) → g ≡ Says v pieces → s.result ≡ v →
    AreRead w marks (read_by w s.func s.args (builtin_of s.func)) s.ins → s.pieces ≡ pieces_for (targets w System (past marks) s.func s.args v) pieces → s.freed ≡ [] →
    GivesStep w (past marks) s g
result_given w marks s g v pieces is result read written freed = subst (GivesStep w (past marks) s) (sym is) (record {
  result_is = result;
  ins = read.ranges_are;
  whole = read.whole;
  read = read.read;
  pieces_are = written ∙ ap (λ u. pieces_for (targets w System (past marks) s.func s.args u) pieces) (sym result);
  freed = freed;
})

-- ---- marks without origins

module _ (w : World) (run : List Mark) where
  abbrev blank : List Mark
  blank = without_origins run

  target_without : (k : ℕ) (n : Option ℕ) → target_used w System k blank n ≡ target_used w System k run n
  target_without k None = refl
  target_without k (Some n) =
      ap (λ r. target_at (option_or r (prepared_below w k blank))) (in_use_seen w k run)
      ∙ ap (λ r. target_at (option_or (in_use (begin w) k (seen run)) r)) (prepared_without w k run)

  commit_without : (o : Option Committing) → commit_target w System blank o ≡ commit_target w System run o
  commit_without None = refl
  commit_without (Some c) = ap (λ (x : Target). x ∷ []) (target_without c.key c.used)

  targets_without : (f : ℕ) (args : List ℕ) (v : ℕ) → targets w System blank f args v ≡ targets w System run f args v
  targets_without f args v =
      ap (λ xs. map To ((interface_on w System f).outs f args) ++ xs) (commit_without ((interface_on w System f).commits f args v))

  has_without : (ps : List Piece) → HasAll (real w blank) ps → HasAll (real w run) ps
  has_without [] all = tt
  has_without (p ∷ ps) all = ((λ x e. sym (real_without w x run) ∙ all.0 x e), has_without ps all.1)

  allocates : (s : StepOf) → IsAllocation blank s → IsAllocation run s
  allocates s a = record {
    place = subst (λ bs. IsPlace system_pool bs (first s.args) s.result) (blocks_below run) a.place;
    ins = a.ins;
    pieces = a.pieces;
    freed = a.freed;
  }

  releases : (s : StepOf) → IsRelease blank s → IsRelease run s
  releases s r = record {
    result = r.result;
    ins = r.ins;
    pieces = r.pieces;
    freed = r.freed ∙ ap (filter (λ (b : Range). eqb b.addr (first s.args))) (blocks_below run);
  }

  gives : (s : StepOf) (g : Given) → GivesStep w blank s g → GivesStep w run s g
  gives s ByPool h = h
  gives s (Says v pieces) h = record {
    result_is = h.result_is;
    ins = h.ins;
    whole = h.whole;
    read = has_without s.ins h.read;
    pieces_are = h.pieces_are ∙ ap (λ xs. pieces_for xs pieces) (targets_without s.func s.args s.result);
    freed = h.freed;
  }
  gives s NoMore h = h

  -- so the step of a call that is given this is that of the run
  step_without : (t : ℕ) (s : StepOf) (o : Option Builtin) → IsStepGiven w blank s (given w run t s.func s.args) o → IsStep w run t s o
  step_without t s (Some builtins.Malloc) h = allocates s h
  step_without t s (Some builtins.Free) h = releases s h
  step_without t s (Some builtins.Spawn) h = gives s (given w run t s.func s.args) h
  step_without t s (Some builtins.Join) h = gives s (given w run t s.func s.args) h
  step_without t s (Some builtins.Lock) h = gives s (given w run t s.func s.args) h
  step_without t s (Some builtins.Unlock) h = gives s (given w run t s.func s.args) h
  step_without t s (Some builtins.Print) h = gives s (given w run t s.func s.args) h
  step_without t s None h = gives s (given w run t s.func s.args) h

-- ---- the mark

module _ (w : World) (marks : List Told) (thread : ℕ) (i : Bool) (s : StepOf) (to : IsToMake w marks thread System s.args (told.Step i s.func)) where
  abbrev ran : List Mark
  ran = to.at.past.run

  step_is : (g : Given) → g ≡ given w ran thread s.func s.args → IsStepGiven w (past marks) s g (builtin_of s.func) →
      IsStep w ran thread s (builtin_of s.func)
  step_is g is h =
      step_without w ran thread s (builtin_of s.func)
      (subst (λ q. IsStepGiven w q s (given w ran thread s.func s.args) (builtin_of s.func)) (sym to.at.past.same)
      (subst (λ z. IsStepGiven w (past marks) s z (builtin_of s.func)) is h))

  -- the mark that carries the step is that of the run
  pub made : (g : Given) → g ≡ given w ran thread s.func s.args → IsStepGiven w (past marks) s g (builtin_of s.func) → (act : Act) (m : Told) →
      act ≡ act_with s → m ≡ next_after marks thread System act → IsMadeAs w ran to.at.step m
  made g gives_is h act m act_is is =
      made_as w marks thread System s.args (told.Step i s.func) to.at (Steps i s.func s.args) to.at.told to.passes
      (Step s.func s.args s.result s.ins s.pieces s.freed) (act_with s) refl refl
      (step_answers i s.func s.args s.result s.ins s.pieces s.freed) (step_is g gives_is h)
      (λ e. absurd cc) (λ e. absurd cc) m (is ∙ ap (next_after marks thread System) act_is)
