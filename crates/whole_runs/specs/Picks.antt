-- Which thread makes the next step.
use Rattle.std.specs.Prelude.{ℕ, Bool, true, false, ◌&&◌, ◌||◌, not, ◌==◌, ltb, List, length, find, Option, Some, None, is_some}
use Rattle.std.specs.List.{list_all, range_with_len}
use Rattle.marks.specs.Marks.{Mark}
use Rattle.marks.specs.Wants.{Want, Outside, Turns, Loads, Stores, Enters, Leaves, Allocs, Frees, Calls, Below, Gives, Returns, CallsBack, UpReturns, Steps, Fails}
use Rattle.c_builtins.specs.declared.builtin.Builtin.{Builtin}
use Rattle.c_builtins.specs.declared.builtin.Builtin.TheVariants.{Malloc, Free, Spawn, Join, Lock, Unlock, Print}
use Rattle.c_code.specs.Machine.{first}
use Rattle.c_code.specs.MarkLists.{Next, Quiet, Wants, Ends, No}
use Rattle.system_side.specs.Schedule.{wish_at}
use Rattle.system_side.specs.Threads.{order_of}
use Rattle.whole_runs.specs.World.{World}
use Rattle.whole_runs.specs.Outcomes.{builtin_of, holder, started}
use Rattle.whole_runs.specs.Threads.{comes, has_ended}

-- a call of a builtin or external that waits for its result
pub record Asked : Type 0 where
  pub func : ℕ
  pub args : List ℕ

abbrev pub asked : Want → Option Asked
asked Outside = None
asked Turns = None
asked (Loads origin at width) = None
asked (Stores origin at bytes) = None
asked (Enters indirect f args bytes) = None
asked (Leaves at size) = None
asked (Allocs size) = None
asked (Frees at) = None
asked (Calls indirect f args) = None
asked (Below f args) = None
asked (Gives f args) = Some (record { func = f; args = args })
asked (Returns f args result) = None
asked (CallsBack f args bytes) = None
asked (UpReturns f result) = None
asked (Steps indirect f args) = Some (record { func = f; args = args })
asked (Fails kind) = None

-- k is a started thread other than t
abbrev pub is_other : List Mark → (t k : ℕ) → Bool
is_other past t k = ltb k (started past) && not (k == t)

-- no thread, the one that asks neither, gets a mutex that is held; and a thread that hasn't ended can't
-- be joined
abbrev pub is_free : World → List Mark → (thread : ℕ) → (args : List ℕ) → Option Builtin → Bool
is_free w past t args (Some Malloc) = true
is_free w past t args (Some Free) = true
is_free w past t args (Some Spawn) = true
is_free w past t args (Some Join) = not (is_other past t (first args)) || has_ended w past (first args)
is_free w past t args (Some Lock) = not (is_some (holder (first args) past))
is_free w past t args (Some Unlock) = true
is_free w past t args (Some Print) = true
is_free w past t args None = true

abbrev pub is_unblocked : World → List Mark → (thread : ℕ) → Option Asked → Bool
is_unblocked w past t None = true
is_unblocked w past t (Some a) = is_free w past t a.args (builtin_of a.func)

abbrev pub may_go_on : World → List Mark → (thread : ℕ) → Next → Bool
may_go_on w past t (Quiet c) = false
may_go_on w past t (Wants side want to) = is_unblocked w past t (asked want)
may_go_on w past t (Ends v) = false
may_go_on w past t No = false

-- the thread was started, hasn't ended and isn't blocked
abbrev pub can_step : World → List Mark → (thread : ℕ) → Bool
can_step w past t = ltb t (started past) && may_go_on w past t (comes w past t)

-- the thread that makes the next step: the first that can, from the one that the schedule wishes for on.
-- Steps are numbered from 0, so that the number is how many there were
abbrev pub stepping : World → List Mark → Option ℕ
stepping w past = find (can_step w past) (order_of (wish_at w.file.schedule (length past)))

abbrev pub all_ended : World → List Mark → Bool
all_ended w past = list_all (has_ended w past) (range_with_len 0 (started past))
