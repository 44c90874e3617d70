-- Runs that leave the same memory, each from a start of its own; the start that a run leaves, as a
-- checkpoint has it.
use Rattle.std.specs.Prelude.{◌≡◌, ◌↔◌, ℕ, ◌+◌, false, List, ◌++◌}
use Rattle.marks.specs.Places.{is_system}
use Rattle.marks.specs.Marks.{Mark}
use Rattle.replay_runs.specs.Runs.{Start, marks_of, events_with, byte, fault_count}
use Rattle.replay_runs.specs.Threads.{frames, open_calls, last_return}
use Rattle.replay_runs.specs.Pool.{blocks, in_use, is_registered}
use Rattle.replay_runs.specs.Records.{output}
use Rattle.space_memory.specs.Spaces.{SpaceState}
use Rattle.space_memory_laws.specs.StandsFor.{StandsFor}

-- two runs, each from a start of its own, leave the same: each byte above the cut, the frames and the open
-- Calls of each thread, the live blocks, and the region of each key in use
pub record LeaveTheSame (s : Start) (past : List Mark) (c : Start) (run : List Mark) : Type 0 where
  pub bytes : (x : ℕ) → is_system x ≡ false → byte s x past ≡ byte c x run
  pub stacks : (t : ℕ) → frames (marks_of s t past) ≡ frames (marks_of c t run)
  pub calls : (t : ℕ) → open_calls (marks_of s t past) ≡ open_calls (marks_of c t run)
  pub pool : blocks s past ≡ blocks c run
  pub keys : (k : ℕ) → in_use s k past ≡ in_use c k run

-- memory that stands for one of them stands for the other: what was built by the calls of one run is the
-- memory of each start with the same bytes, frames, Calls, blocks and keys in use
abbrev pub LikeRunsShareMemory : Type 0
LikeRunsShareMemory =
    (s c : Start) (past run : List Mark) (memory : SpaceState) → LeaveTheSame s past c run →
    StandsFor s past memory → StandsFor c run memory

-- with the same marks after them they leave the same again
abbrev pub LikeRunsGoOnAlike : Type 0
LikeRunsGoOnAlike =
    (s c : Start) (past run later : List Mark) → LeaveTheSame s past c run →
    LeaveTheSame s (later ++ past) c (later ++ run)

-- the start that a run leaves: all that it did, and for each thread the marks in whose midst it is
abbrev pub start_after : Start → List Mark → (ℕ → List Mark) → Start
start_after s past parts =
    record {
      parts = parts;
      events = λ l. events_with s l past;
      memory = λ x. byte s x past;
      faults = s.faults + fault_count past;
      output = output s past;
      blocks = blocks s past;
      registered = λ f. is_registered s f past;
      in_use = λ k. in_use s k past;
      returned = λ t f. last_return (s.returned t f) f (marks_of s t past);
    }

-- in these marks of each thread all that is open after the run was opened
pub record HoldWhatIsOpen (s : Start) (past : List Mark) (parts : ℕ → List Mark) : Type 0 where
  pub stacks : (t : ℕ) → frames (parts t) ≡ frames (marks_of s t past)
  pub calls : (t : ℕ) → open_calls (parts t) ≡ open_calls (marks_of s t past)

-- memory stands for a run that goes on from the start which another one leaves exactly where it stands for
-- both as one run; so, before any later mark, the memory that stands for a run is that of the start which
-- the run leaves
abbrev pub CheckpointsShareMemory : Type 0
CheckpointsShareMemory =
    (s : Start) (past : List Mark) (parts : ℕ → List Mark) → HoldWhatIsOpen s past parts →
    (later : List Mark) (memory : SpaceState) →
    StandsFor s (later ++ past) memory ↔ StandsFor (start_after s past parts) later memory
