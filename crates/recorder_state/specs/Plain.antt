-- Steps that were made in memory, and what the rest of the state is told of them.
use Rattle.std.specs.Prelude.{◌≡◌, ℕ, ◌+◌, Bool, false, true, List, [], ◌∷◌, length, Some, None}
use Rattle.marks.specs.declared.side.Side.{Side}
use Rattle.marks.specs.Places.{builtin_count}
use Rattle.marks.specs.Marks.{Act, Mark, is_event}
use Rattle.marks.specs.Wants.{Answer, Go, Value}
use Rattle.c_code.specs.Machine.{Laid}
use Rattle.c_code.specs.MarkLists.{reply}
use Rattle.c_code.specs.Typed.{AreArguments}
use Rattle.c_machine.specs.Moves.{ThreadState}
use Rattle.steps_above_stamps.specs.Stamps.{AreStampsOf}
use Rattle.steps_above_interface.specs.Stands as functions
use Rattle.system_side.specs.Threads.{has_not_ended}
use Rattle.whole_runs.specs.World.{World, interface}
use Rattle.whole_runs.specs.Sides.{seen}
use Rattle.whole_runs.specs.Outcomes.{act_outcome, is_start, outcome}
use Rattle.whole_runs.specs.Log.{replay_output, system_output}
use Rattle.whole_runs.specs.Steps.{Picked, IsMade}
use Rattle.whole_runs.specs.Ends.{Follows, HasRoomFor}
use Rattle.whole_runs.specs.Fits.{IsFit}
use Rattle.recorder_memory.specs.Stands.{StandsForRun, placed}
use Rattle.recorder_memory.specs.Steps.{next_mark}
use Rattle.recorder_threads.specs.Threads.{AreThreadsOf, args_at}
use Rattle.recorder_threads.specs.Answers.{IsAnswered, IsNoCall}
use Rattle.recorder_system.specs.Stands.{IsSystemBut, IsSystemOf}
use Rattle.recorder_book.specs.Book.{IsBookOf}
use Rattle.recorder_state.specs.declared.state.RunState.{RunState}
use Rattle.recorder_state.specs.Prepared.{ArePreparedBelow}
use Rattle.recorder_state.specs.Stands.{IsAroundAfter}

-- ---- steps that are no event, and in which no call comes to its result

-- a run comes to a step in which its thread does this; memory was told of it, and nothing else was
pub record IsDone (w : World) (s : RunState) (t : ℕ) (side : Side) (act : Act) : Type 0 where
  pub fit : IsFit w
  pub past : List Mark
  pub follows : Follows w past
  pub steps : s.steps ≡ length past
  pub around : IsAroundAfter w past s
  pub step : Picked w past
  pub thread : step.thread ≡ t
  pub side_is : step.side ≡ side
  pub made : IsMade w past step (next_mark w past t side act)
  pub memory : StandsForRun w (next_mark w past t side act ∷ past) s.memory

-- that is no event, gives what the code wants this answer, and no call comes to its result
pub record IsPlainStep (w : World) (s : RunState) (t : ℕ) (side : Side) (x : Answer) : Type 0 where
  pub act : Act
  pub is_done : IsDone w s t side act
  pub plain : is_event act ≡ false
  pub no_outcome : act_outcome t act ≡ None
  pub answers : reply side is_done.step.want (next_mark w is_done.past t side act) ≡ Some x

-- ---- any step

-- what has nothing to do with threads and the system stands for the run with its last mark
pub record AreOthersAfter (w : World) (past : List Mark) (s : RunState) : Type 0 where
  pub memory : StandsForRun w past s.memory
  pub stamps : AreStampsOf (placed w) (seen past) s.stamps
  pub book : IsBookOf w past s.book
  pub output : s.output.items ≡ replay_output w past
  pub system_output : s.system_output.items ≡ system_output past
  pub interface : functions.IsStateOf (interface w) (placed w) (seen past) s.interface
  pub functions : length s.interface.registered ≡ builtin_count + length w.laid.code.sources
  pub prepared : ArePreparedBelow w past s.prepared

-- a run comes to a step and makes this mark, which was not counted yet
pub record IsMarkedStep (w : World) (s : RunState) (t : ℕ) : Type 0 where
  pub fit : IsFit w
  pub past : List Mark
  pub follows : Follows w past
  pub steps : s.steps ≡ length past
  pub step : Picked w past
  pub thread : step.thread ≡ t
  pub mark : Mark
  pub made : IsMade w past step mark
  pub room : HasRoomFor past mark
  pub others : AreOthersAfter w (mark ∷ past) s

-- the threads were told of it, and the system of all but that the thread may have ended with it
pub record IsStepTold (w : World) (s : RunState) (t : ℕ) : Type 0 where
  pub marked : IsMarkedStep w s t
  pub threads : AreThreadsOf w (marked.mark ∷ marked.past) s.threads
  pub system : IsSystemBut t w (marked.mark ∷ marked.past) s.system
  pub running : has_not_ended s.system.threads t ≡ true

-- neither threads nor system were told of the mark, in which the thread's call of the function comes to this
-- result, and which gives its code this answer
pub record IsResultStep (w : World) (s : RunState) (t func result : ℕ) (x : Answer) : Type 0 where
  pub marked : IsMarkedStep w s t
  pub threads : AreThreadsOf w marked.past s.threads
  pub system : IsSystemOf w marked.past s.system
  pub outcome_is : act_outcome t marked.mark.act ≡ Some (outcome t func (args_at s.threads t) result)
  pub answers : reply marked.step.side marked.step.want marked.mark ≡ Some x

-- a function with a body returns to code above the cut
abbrev pub IsReturnStep : World → RunState → (thread func : ℕ) → Type 0
IsReturnStep w s t func = (result : ℕ) × IsResultStep w s t func result Go

-- a call of the function that comes to this result starts a thread
abbrev pub starts_thread : (func result : ℕ) → Bool
starts_thread f v = is_start (outcome 0 f [] v)

-- a mark gives the code of a thread the result of its call, which may start one more thread
pub record IsResult (l : Laid) (threads : List ThreadState) (t func result : ℕ) : Type 0 where
  pub next : IsAnswered l threads t IsNoCall (Value result)
  pub comes : act_outcome next.mark.thread next.mark.act ≡ Some (outcome t func (args_at threads t) result)
  pub values : AreArguments l func (args_at threads t)
