-- What each thread does next.
use Rattle.std.specs.Prelude.{ℕ, zero, suc, Bool, false, List, [], Option, Some, None, is_some}
use Rattle.marks.specs.declared.side.Side.TheVariants.{Replay, System}
use Rattle.marks.specs.Marks.{Mark}
use Rattle.marks.specs.Opens.{tail}
use Rattle.marks.specs.Wants.{is_above}
use Rattle.c_code.specs.Machine.{Config, Starting, callee, first}
use Rattle.c_code.specs.MarkLists.{Next, Quiet, Wants, Ends, No, Split, step, state}
use Rattle.c_code.specs.Valid.{start_sig}
use Rattle.whole_runs.specs.World.{World, main_of}
use Rattle.whole_runs.specs.Sides.{own}
use Rattle.whole_runs.specs.Outcomes.{started_with}

-- thread 0 begins with `main`, each other one with the function at the address that it was started with,
-- which must be of the type of thread functions
abbrev pub beginning : World → List Mark → (thread : ℕ) → Config
beginning w past zero = Starting (Some (main_of w.laid.code)) []
beginning w past (suc t) = Starting (callee w.laid start_sig (first (started_with (suc t) past)))
    (tail (started_with (suc t) past))

-- what the code of a thread comes to after the thread's marks on both sides
abbrev pub comes : World → List Mark → (thread : ℕ) → Next
comes w past t = step Split w.laid (state Split w.laid (beginning w past t) (own w t past))

abbrev pub ended_with : Next → Option ℕ
ended_with (Quiet c) = None
ended_with (Wants side want to) = None
ended_with (Ends v) = Some v
ended_with No = None

-- what the thread's first function returned; none before that
abbrev pub result_of : World → List Mark → (thread : ℕ) → Option ℕ
result_of w past t = ended_with (comes w past t)

abbrev pub has_ended : World → List Mark → (thread : ℕ) → Bool
has_ended w past t = is_some (result_of w past t)

abbrev pub is_next_above : Next → Bool
is_next_above (Quiet c) = false
is_next_above (Wants Replay want to) = is_above want
is_next_above (Wants System want to) = false
is_next_above (Ends v) = false
is_next_above No = false

-- the thread stands in replay mode: not between a Call and its Ret, but before an UpRet
abbrev pub in_replay_mode : World → List Mark → (thread : ℕ) → Bool
in_replay_mode w past t = is_next_above (comes w past t)
