-- What memory that stands for a run has, and steps that leave it as it is.
use Rattle.std.specs.Prelude.{◌≡◌, ℕ, ◌<◌, ◌≤◌, List, length, map, Some, slice_index}
use Rattle.marks.specs.declared.side.Side.{Side}
use Rattle.marks.specs.declared.side.Side.TheVariants.{Replay, System}
use Rattle.marks.specs.Places.{thread_count}
use Rattle.marks.specs.declared.range.Range.{Range}
use Rattle.marks.specs.Ranges.{range}
use Rattle.marks.specs.Marks.{Turn, Mark}
use Rattle.marks.specs.Wants.{Turns, Leaves}
use Rattle.replay_runs.specs.Runs.{marks_of}
use Rattle.replay_runs.specs.Threads.{open_calls}
use Rattle.replay_runs.specs.Rules.{Closes}
use Rattle.space_memory.specs.Sides.{frames_of, top_of}
use Rattle.space_memory.specs.Spaces.{side_of}
use Rattle.whole_runs.specs.World.{World, begin}
use Rattle.whole_runs.specs.Sides.{seen}
use Rattle.whole_runs.specs.Steps.{Picked}
use Rattle.whole_runs.specs.Ends.{Follows, most_events}
use Rattle.whole_runs.specs.Fits.{IsFit}
use Rattle.recorder_memory.specs.declared.memory.Memory.{Memory}
use Rattle.recorder_memory.specs.Stands.{StandsForSeen, StandsForRun}
use Rattle.recorder_memory.specs.Answers.{regions_of}
use Rattle.recorder_memory.specs.Steps.{Makes}

-- the thread of a step is one of those that there may be
abbrev pub ThreadsThatStepAreFew : World → Type 0
ThreadsThatStepAreFew w = IsFit w → (past : List Mark) (s : Picked w past) → s.thread < thread_count

-- each of these has a stack on either side
abbrev pub ThreadsHaveStacks : Type 0
ThreadsHaveStacks = (w : World) (past : List Mark) (memory : Memory) (side : Side) (t : ℕ) →
    StandsForRun w past memory → t < thread_count →
    t < length (side_of memory.above.spaces.sides side).stacks

-- the frame that code ends is the innermost one of its thread in memory
pub record IsThere (w : World) (past : List Mark) (memory : Memory) (s : Picked w past) (at size : ℕ) :
    Type 0 where
  pub some : 0 < length (frames_of (side_of memory.above.spaces.sides s.side) s.thread)
  pub top : top_of (side_of memory.above.spaces.sides s.side) s.thread ≡ Some (range at size)

abbrev pub FramesThatEndAreThere : Type 0
FramesThatEndAreThere = (w : World) (past : List Mark) (memory : Memory) → IsFit w → Follows w past →
    StandsForRun w past memory → (s : Picked w past) (at size : ℕ) → s.want ≡ Leaves at size →
    IsThere w past memory s at size

-- a Turn changes nothing
abbrev pub TurnsAboveLeaveMemory : Type 0
TurnsAboveLeaveMemory = (memory : Memory) (t : ℕ) → t < thread_count →
    Makes memory t Replay Turns Turn memory

abbrev pub TurnsBelowLeaveMemory : Type 0
TurnsBelowLeaveMemory = (memory : Memory) (t : ℕ) → Makes memory t System Turns Turn memory

-- the watch was told of no more events than a run makes
abbrev pub EventsAreFew : World → Type 0
EventsAreFew w = (past : List Mark) (memory : Memory) → Follows w past → StandsForRun w past memory →
    memory.above.watch.events ≤ most_events

-- memory knows the thread's innermost call, and which regions it holds to be written
pub record HoldsCall (memory : Memory) (t : ℕ) (outs : List Range) : Type 0 where
  pub depth : 1 ≤ slice_index memory.above.spaces.held.depths t
  pub regions : map (λ r. r.range) (regions_of memory.above.spaces t) ≡ outs

-- so it does of the call that a Ret ends, also after the pieces of its answer
abbrev pub CallsAreHeld : Type 0
CallsAreHeld = (w : World) (past : List Mark) (memory : Memory) (t func : ℕ) (args : List ℕ)
    (outs : List Range) → StandsForSeen w past memory → t < thread_count →
    Closes (open_calls (marks_of (begin w) t (seen past))) func args outs → HoldsCall memory t outs
