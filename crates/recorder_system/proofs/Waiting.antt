-- What a try of a thread whose call may have to wait does.
use Rattle.std.proofs.Common.{◌≡◌, inl, inr, ℕ, ◌<◌, ◌≤◌, ℤ, Bool, true, false, cond, not, List, length, set, Option, Some, None, refl, sym, ap, ◌∙◌, subst, arith}
use Rattle.std.specs.Prelude.{is_some, slice_get}
use Rattle.std.proofs.lemmas.Bool.{cases_eq}
use Rattle.std.proofs.lemmas.Option.{slice_get_within}
use Rattle.marks.specs.Marks.{Mark}
use Rattle.c_builtins.specs.declared.builtin.Builtin.{Builtin}
use Rattle.c_builtins.specs.declared.builtin.Builtin.TheVariants.{Malloc, Free, Spawn, Join, Lock, Unlock, Print}
use Rattle.c_builtins.specs.Table.{number_of}
use Rattle.c_code.specs.Machine.{first}
use Rattle.system_side.specs.declared.threads.Wait.{Wait}
use Rattle.system_side.specs.declared.threads.Wait.TheVariants.{Mutex, Thread}
use Rattle.system_side.specs.declared.threads.Standing.{Standing}
use Rattle.system_side.specs.declared.threads.Standing.TheVariants.{Ready, Waits, Ended}
use Rattle.system_side.specs.Threads.{has_not_ended, is_ready, is_running, joined, may_step}
use Rattle.system_side.specs.System.{SystemState}
use Rattle.system_side.specs.System as system
use Rattle.whole_runs.specs.World.{World}
use Rattle.whole_runs.specs.Outcomes.{builtin_of, holder}
use Rattle.whole_runs.specs.Threads.{comes, result_of}
use Rattle.whole_runs.specs.Picks.{is_free}
use Rattle.recorder_system.specs.Stands.{Awaits, IsSound, IsSystemOf, StandsAs, asked_by, call_of, int_of, ready_in}
use Rattle.recorder_system.specs.Calls.{HasInt, KeepsRuns, TakesInt, TellsWait}
use Rattle.recorder_system.specs.Shown.{wait_for}
use Rattle.recorder_system.proofs.Lists.{count_less, count_same, get_set_other, get_set_same, length_set}
use Rattle.recorder_system.proofs.Standing.{asks_on, can_by, may_by, ready_there, running_there}
use Rattle.recorder_system.proofs.Joins.{Joins, answered_if_free, joins, running_one}
use Rattle.recorder_system.proofs.Numbers.{number_is}

not_not : (b : Bool) → not (not b) ≡ b
not_not true = refl
not_not false = refl

some_of_cond : (b : Bool) (x : Wait) → is_some (cond b (Some x) None) ≡ b
some_of_cond true x = refl
some_of_cond false x = refl

none_of_cond : (b : Bool) (x : Wait) → is_some (cond b None (Some x)) ≡ not b
none_of_cond true x = refl
none_of_cond false x = refl

-- ---- the answer

module _ (w : World) (past : List Mark) (s : SystemState) (h : IsSystemOf w past s) (few : length s.threads ≤ 32) (t : ℕ) (args : List ℕ) where
  free_by : (o : Option Builtin) → TakesInt o (first args) → is_some (wait_for s t (int_of (first args)) o) ≡ not (is_free w past t args o)
  free_by (Some Malloc) int = refl
  free_by (Some Free) int = refl
  free_by (Some Spawn) int = refl
  free_by (Some Join) int =
      none_of_cond (is_some (joined s.threads t (int_of (first args)))) (Thread (int_of (first args)))
      ∙ ap not (answered_if_free w past t (first args) _ (joins w past s h few t (first args) int))
  free_by (Some Lock) int =
      some_of_cond (is_some (system.holder s.held (int_of (first args)))) (Mutex (int_of (first args)))
      ∙ (ap is_some (h.mutexes (first args) int) ∙ sym (not_not (is_some (holder (first args) past))))
  free_by (Some Unlock) int = refl
  free_by (Some Print) int = refl
  free_by None int = refl

pub tells : (s : SystemState) (t f : ℕ) (args : List ℕ) → length s.threads ≤ 32 → is_ready s.threads t ≡ true → HasInt f args → TellsWait t f args s (is_some (wait_for s t (int_of (first args)) (builtin_of f)))
tells s t f args few ready int w past h asked =
    let lt : t < length s.threads = slice_get_within s.threads t _ (ready_there s.threads t ready) in
    let count = h.count in
    free_by w past s h few t args (builtin_of f) int
    ∙ ap not (sym (can_by w past t (omega (arith, lt, count)) ∙ may_by w past t (comes w past t) (call_of f args) asked))

-- ---- what the call waits for, where it waits

abbrev or_this : Wait → Option Wait → Wait
or_this wait None = wait
or_this wait (Some x) = x

module _ (w : World) (past : List Mark) (s : SystemState) (h : IsSystemOf w past s) (few : length s.threads ≤ 32) (t : ℕ) (args : List ℕ) where
  abbrev Calls : Builtin → Type 0
  Calls b = asked_by w past t ≡ Some (call_of (number_of b) args)

  awaits_by : (b : Builtin) (wait : Wait) → TakesInt (Some b) (first args) → Calls b → wait_for s t (int_of (first args)) (Some b) ≡ Some wait → Awaits w past (result_of w past) t wait
  awaits_by Malloc wait int asked e = absurd cc
  awaits_by Free wait int asked e = absurd cc
  awaits_by Spawn wait int asked e = absurd cc
  awaits_by Join wait int asked e = by (joined s.threads t (int_of (first args))) refl e
    where
      by : (o : Option ℤ) → joined s.threads t (int_of (first args)) ≡ o → cond (is_some o) None (Some (Thread (int_of (first args)))) ≡ Some wait → Awaits w past (result_of w past) t wait
      by (Some v) j k = absurd cc
      by None j k =
          let one = running_one w past t (first args) (subst (λ (o : Option ℤ). Joins w past t (first args) o) j (joins w past s h few t (first args) int)) in
          subst (Awaits w past (result_of w past) t) (ap (or_this wait) k) (record {
            other = first args;
            number = one.1;
            asks = record { args = args; call = asked; first_is = refl };
            is_another = one.0;
            runs = one.2;
          })
  awaits_by Lock wait int asked e = by (is_some (system.holder s.held (int_of (first args)))) refl e
    where
      by : (b : Bool) → is_some (system.holder s.held (int_of (first args))) ≡ b → cond b (Some (Mutex (int_of (first args)))) None ≡ Some wait → Awaits w past (result_of w past) t wait
      by false j k = absurd cc
      by true j k = subst (Awaits w past (result_of w past) t) (ap (or_this wait) k) (record {
        mutex = first args;
        is_int = int;
        number = refl;
        asks = record { args = args; call = asked; first_is = refl };
        held = ap is_some (sym (h.mutexes (first args) int)) ∙ j;
      })
  awaits_by Unlock wait int asked e = absurd cc
  awaits_by Print wait int asked e = absurd cc

  -- then the thread may be blocked
  blocks : (wait : Wait) → is_ready s.threads t ≡ true → result_of w past t ≡ None → Awaits w past (result_of w past) t wait → IsSystemOf w past (record s { threads = set s.threads t (Waits wait) })
  blocks wait ready on awaits = record {
    schedule = h.schedule;
    count = length_set s.threads t (Waits wait) ∙ h.count;
    threads = λ u at e. elim (cases_eq u t) [
      | inl same ↦ here u at same e
      | inr ne ↦ h.threads u at (sym (get_set_other s.threads t u (Waits wait) ne) ∙ e)
    ];
    mutexes = h.mutexes;
    answers = h.answers;
    silent = h.silent;
  }
    where
      stands : (at : Standing) → Some (Waits wait) ≡ Some at → StandsAs w past (result_of w past) t at
      stands Ready e = absurd cc
      stands (Waits x) e = subst (StandsAs w past (result_of w past) t) (ap or_waits e) (on, awaits)
        where
          or_waits : Option Standing → Standing
          or_waits None = Waits wait
          or_waits (Some y) = y
      stands (Ended v) e = absurd cc

      here : (u : ℕ) (at : Standing) → u ≡ t → slice_get (set s.threads t (Waits wait)) u ≡ Some at → StandsAs w past (result_of w past) u at
      here u at same e =
          let lt : t < length s.threads = slice_get_within s.threads t _ (ready_there s.threads t ready) in
          let it : Some (Waits wait) ≡ Some at = sym (get_set_same s.threads t (Waits wait) lt) ∙ (ap (slice_get (set s.threads t (Waits wait))) (sym same) ∙ e) in
          subst (λ v. StandsAs w past (result_of w past) v at) (sym same) (stands at it)

pub keeps : (s : SystemState) (t f : ℕ) (args : List ℕ) (wait : Wait) → length s.threads ≤ 32 → is_ready s.threads t ≡ true → HasInt f args → wait_for s t (int_of (first args)) (builtin_of f) ≡ Some wait →
    KeepsRuns t f args s (record s { threads = set s.threads t (Waits wait) })
keeps s t f args wait few ready int is w past h asked = by (builtin_of f) refl int is
  where
    by : (o : Option Builtin) → builtin_of f ≡ o → TakesInt o (first args) → wait_for s t (int_of (first args)) o ≡ Some wait → IsSystemOf w past (record s { threads = set s.threads t (Waits wait) })
    by None e i k = absurd cc
    by (Some b) e i k =
        let number : f ≡ number_of b = number_is f b e in
        blocks w past s h few t args wait ready (asks_on (comes w past t) (call_of f args) asked)
        (awaits_by w past s h few t args b wait i (subst (λ g. asked_by w past t ≡ Some (call_of g args)) number asked) k)

-- ---- what is counted

pub fewer : (threads : List Standing) (t : ℕ) (wait : Wait) → is_ready threads t ≡ true → ready_in (set threads t (Waits wait)) < ready_in threads
fewer threads t wait ready = let k = count_less may_step threads t Ready (Waits wait) (ready_there threads t ready) refl refl in omega (arith, k)

pub still_sound : (running : ℕ) (s : SystemState) (t : ℕ) (wait : Wait) → has_not_ended s.threads t ≡ true → IsSound running s → IsSound running (record s { threads = set s.threads t (Waits wait) })
still_sound running s t wait is h =
    let x = running_there s.threads t is in
    let k = length_set s.threads t (Waits wait) in
    let few = h.few in
    record {
      few = omega (arith, k, few);
      running_is = h.running_is ∙ sym (count_same is_running s.threads t x.0 (Waits wait) x.1 (sym x.2));
    }
