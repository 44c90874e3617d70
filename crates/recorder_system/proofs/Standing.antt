-- What a thread that stands somewhere can do.
use Rattle.std.proofs.Common.{◌≡◌, ℕ, ◌<◌, Bool, true, false, ◌&&◌, ◌||◌, not, ltb, List, length, get_or, Option, Some, None, refl, sym, ap, ◌∙◌, arith}
use Rattle.std.specs.Prelude.{is_some, slice_get}
use Rattle.std.proofs.lemmas.Bool.{and_parts, true≢false, ltb-true, lt-ltb}
use Rattle.std.proofs.lemmas.Option.{slice_get-get_or, slice_get_within}
use Rattle.marks.specs.Marks.{Mark}
use Rattle.c_builtins.specs.declared.builtin.Builtin.TheVariants.{Join, Lock}
use Rattle.c_builtins.specs.Table.{number_of}
use Rattle.c_code.specs.Values.{written}
use Rattle.c_code.specs.MarkLists.{Next, Quiet, Wants, Ends, No}
use Rattle.system_side.specs.declared.threads.Wait.{Wait}
use Rattle.system_side.specs.declared.threads.Wait.TheVariants.{Mutex, Thread}
use Rattle.system_side.specs.declared.threads.Standing.{Standing}
use Rattle.system_side.specs.declared.threads.Standing.TheVariants.{Ready, Waits, Ended}
use Rattle.system_side.specs.Threads.{holds_of, is_ready, is_running, may_step, has_not_ended}
use Rattle.system_side.specs.System.{SystemState}
use Rattle.whole_runs.specs.World.{World}
use Rattle.whole_runs.specs.Outcomes.{builtin_of, holder, started}
use Rattle.whole_runs.specs.Threads.{comes, ended_with, has_ended, result_of}
use Rattle.whole_runs.specs.Picks.{Asked, can_step, is_free, is_other, is_unblocked, may_go_on}
use Rattle.recorder_system.specs.Stands.{Awaits, IsSystemOf, asked_by, call_of, next_asked}

-- ---- by what the code comes to

-- a thread whose call waits for its result goes on where the call is free
pub may_by : (w : World) (past : List Mark) (t : ℕ) (n : Next) (a : Asked) → next_asked n ≡ Some a → may_go_on w past t n ≡ is_free w past t a.args (builtin_of a.func)
may_by w past t (Quiet c) a e = absurd cc
may_by w past t (Wants side want to) a e = ap (is_unblocked w past t) e
may_by w past t (Ends v) a e = absurd cc
may_by w past t No a e = absurd cc

-- it hasn't ended
pub asks_on : (n : Next) (a : Asked) → next_asked n ≡ Some a → ended_with n ≡ None
asks_on (Quiet c) a e = refl
asks_on (Wants side want to) a e = refl
asks_on (Ends v) a e = absurd cc
asks_on No a e = refl

ended_stays : (w : World) (past : List Mark) (t : ℕ) (n : Next) (v : ℕ) → ended_with n ≡ Some v → may_go_on w past t n ≡ false
ended_stays w past t (Quiet c) v e = refl
ended_stays w past t (Wants side want to) v e = absurd cc
ended_stays w past t (Ends u) v e = refl
ended_stays w past t No v e = refl

can_parts : (w : World) (past : List Mark) (t : ℕ) → can_step w past t ≡ true → (t < started past) × (may_go_on w past t (comes w past t) ≡ true)
can_parts w past t can =
    let parts = and_parts (ltb t (started past)) (may_go_on w past t (comes w past t)) can in
    (ltb-true t (started past) parts.0, parts.1)

pub can_started : (w : World) (past : List Mark) (t : ℕ) → can_step w past t ≡ true → t < started past
can_started w past t can = (can_parts w past t can).0

pub can_by : (w : World) (past : List Mark) (t : ℕ) → t < started past → can_step w past t ≡ may_go_on w past t (comes w past t)
can_by w past t lt = ap (λ b. b && may_go_on w past t (comes w past t)) (lt-ltb t (started past) lt)

-- ---- by where it stands

-- what the call of a thread that waits is
call_is : (w : World) (past : List Mark) (t f : ℕ) (args : List ℕ) → asked_by w past t ≡ Some (call_of f args) → may_go_on w past t (comes w past t) ≡ is_free w past t args (builtin_of f)
call_is w past t f args e = may_by w past t (comes w past t) (call_of f args) e

blocked : (w : World) (past : List Mark) (t : ℕ) (wait : Wait) → Awaits w past (result_of w past) t wait → may_go_on w past t (comes w past t) ≡ false
blocked w past t (Mutex m) h =
    call_is w past t (number_of Lock) h.asks.args h.asks.call
    ∙ (ap (λ k. not (is_some (holder k past))) h.asks.first_is ∙ ap not h.held)
blocked w past t (Thread m) h =
    call_is w past t (number_of Join) h.asks.args h.asks.call
    ∙ (ap (λ k. not (is_other past t k) || has_ended w past k) h.asks.first_is
    ∙ (ap (λ b. not b || has_ended w past h.other) h.is_another ∙ ap is_some h.runs))

module _ (w : World) (past : List Mark) (s : SystemState) (h : IsSystemOf w past s) where
  pub can_is_ready : (t : ℕ) → can_step w past t ≡ true → is_ready s.threads t ≡ true
  can_is_ready t can =
      let parts = can_parts w past t can in
      let count = h.count in
      by (get_or s.threads t Ready) (slice_get-get_or s.threads t Ready (omega (arith, parts.0, count))) parts.1
    where
      by : (at : Standing) → slice_get s.threads t ≡ Some at → may_go_on w past t (comes w past t) ≡ true → is_ready s.threads t ≡ true
      by Ready e may = ap (holds_of may_step) e
      by (Waits wait) e may = absurd (true≢false (sym may ∙ blocked w past t wait (h.threads t (Waits wait) e).1))
      by (Ended v) e may = absurd (true≢false (sym may ∙ ended_stays w past t (comes w past t) (written v) (h.threads t (Ended v) e)))

-- ---- ready and running threads

pub ready_is : (threads : List Standing) (t : ℕ) (at : Standing) → slice_get threads t ≡ Some at → is_ready threads t ≡ true → at ≡ Ready
ready_is threads t Ready e is = refl
ready_is threads t (Waits wait) e is = absurd (true≢false (sym is ∙ ap (holds_of may_step) e))
ready_is threads t (Ended v) e is = absurd (true≢false (sym is ∙ ap (holds_of may_step) e))

there : (p : Standing → Bool) (o : Option Standing) → holds_of p o ≡ true → (at : Standing) × (o ≡ Some at) × (p at ≡ true)
there p None is = absurd (true≢false (sym is))
there p (Some at) is = (at, refl, is)

pub ready_there : (threads : List Standing) (t : ℕ) → is_ready threads t ≡ true → slice_get threads t ≡ Some Ready
ready_there threads t is = let x = there may_step (slice_get threads t) is in x.1 ∙ ap Some (ready_is threads t x.0 x.1 is)

pub running_there : (threads : List Standing) (t : ℕ) → has_not_ended threads t ≡ true → (at : Standing) × (slice_get threads t ≡ Some at) × (is_running at ≡ true)
running_there threads t is = there is_running (slice_get threads t) is

pub within : (threads : List Standing) (t : ℕ) → has_not_ended threads t ≡ true → t < length threads
within threads t is = let x = running_there threads t is in slice_get_within threads t x.0 x.1

pub ready_runs : (threads : List Standing) (t : ℕ) → is_ready threads t ≡ true → has_not_ended threads t ≡ true
ready_runs threads t is = ap (holds_of is_running) (ready_there threads t is)
