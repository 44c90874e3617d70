-- Which runs the state of a recording stands for.
use Rattle.std.specs.Prelude.{◌≡◌, ℕ, ◌+◌, ◌<◌, List, length, Option, Some, None}
use Rattle.marks.specs.Places.{builtin_count}
use Rattle.marks.specs.Marks.{Mark}
use Rattle.steps_above_stamps.specs.Stamps.{AreStampsOf}
use Rattle.steps_above_interface.specs.Stands as functions
use Rattle.whole_runs.specs.World.{World, interface}
use Rattle.whole_runs.specs.Sides.{seen}
use Rattle.whole_runs.specs.Log.{replay_output, system_output}
use Rattle.whole_runs.specs.Ends.{Follows}
use Rattle.whole_runs.specs.Fits.{IsFit}
use Rattle.recorder_memory.specs.Stands.{StandsForRun, placed}
use Rattle.recorder_threads.specs.declared.wants.Next.{Next}
use Rattle.recorder_threads.specs.declared.wants.Next.TheVariants as next
use Rattle.recorder_threads.specs.Threads.{AreThreadsOf, IsNextOf}
use Rattle.c_code.specs.Machine.{Laid}
use Rattle.c_machine.specs.Moves.{ThreadState}
use Rattle.system_side.specs.System.{SystemState}
use Rattle.recorder_system.specs.Stands.{IsSystemOf}
use Rattle.recorder_book.specs.Book.{IsBookOf}
use Rattle.recorder_state.specs.declared.known.Known.{Known}
use Rattle.recorder_state.specs.declared.state.RunState.{RunState}
use Rattle.recorder_state.specs.Prepared.{ArePreparedBelow}

-- what is shown of the run after these marks, and what the Stops follow from that end it
pub record IsShownAfter (w : World) (past : List Mark) (s : RunState) : Type 0 where
  pub threads : AreThreadsOf w past s.threads
  pub stamps : AreStampsOf (placed w) (seen past) s.stamps
  pub book : IsBookOf w past s.book
  pub output : s.output.items ≡ replay_output w past
  pub system_output : s.system_output.items ≡ system_output past

-- all that is kept beside memory
pub record IsAroundAfter (w : World) (past : List Mark) (s : RunState) : Type 0 where
  pub shown : IsShownAfter w past s
  pub system : IsSystemOf w past s.system
  pub interface : functions.IsStateOf (interface w) (placed w) (seen past) s.interface
  -- of each function of the code
  pub functions : length s.interface.registered ≡ builtin_count + length w.laid.code.sources
  pub prepared : ArePreparedBelow w past s.prepared

-- the thread was started, and its code comes to this
abbrev pub IsKnown : Laid → List ThreadState → Option Known → Type 0
IsKnown l threads None = Unit {0}
IsKnown l threads (Some k) = (k.thread < length threads) × IsNextOf l threads k.thread k.next

-- a run of a world that fits comes to the state
pub record IsReached (w : World) (s : RunState) : Type 0 where
  pub fit : IsFit w
  pub past : List Mark
  pub follows : Follows w past
  pub steps : s.steps ≡ length past
  pub memory : StandsForRun w past s.memory
  pub around : IsAroundAfter w past s
  pub known : IsKnown w.laid s.threads s.known

-- so it does with a step of this thread, whose code comes to that then
pub record IsGoneOn (w : World) (s : RunState) (t : ℕ) (n : Next) : Type 0 where
  pub reached : IsReached w s
  pub started : t < length s.threads
  pub next : IsNextOf w.laid s.threads t n

-- where the thread's code goes on, the system is as it was
abbrev pub KeepsSystem : Next → (old new : SystemState) → Type 0
KeepsSystem (next.Ended v) old new = Unit {0}
KeepsSystem (next.Wants side want) old new = new ≡ old
