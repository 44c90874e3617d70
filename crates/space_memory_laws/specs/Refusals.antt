-- What the checks of a run find where memory refuses a call.
use Rattle.std.specs.Prelude.{◌≡◌, ◌↔◌, ℕ, ◌^◌, ◌<◌, ◌≤◌, Bool, true, List, [], Some, None}
use Rattle.marks.specs.declared.side.Side.TheVariants.{Replay}
use Rattle.marks.specs.declared.fault.FaultKind.TheVariants as fault
use Rattle.marks.specs.declared.breach.BreachKind.TheVariants as breach
use Rattle.marks.specs.Places.{thread_count}
use Rattle.marks.specs.declared.range.Range.{Range}
use Rattle.marks.specs.Ranges.{range}
use Rattle.marks.specs.Marks.{Mark}
use Rattle.marks.specs.Wants.{Frees}
use Rattle.space_memory.specs.StackFrames.{stack_of}
use Rattle.space_memory_access.specs.declared.access.Access.{Access}
use Rattle.space_memory_access.specs.declared.refusal.Refusal.{Refusal}
use Rattle.space_memory_access.specs.declared.refusal.Refusal.TheVariants.{NotLive, Pending, OtherSpace, ReadOnly, StackFull, KeyInUse, NoKey, Size}
use Rattle.space_memory_access.specs.Accesses.{IsAllowed, IsRefused}
use Rattle.replay_runs.specs.Runs.{Start, marks_of, byte}
use Rattle.replay_runs.specs.Interface.{Interface}
use Rattle.replay_runs.specs.Threads.{HasRoom}
use Rattle.replay_runs.specs.Checks.{Finding, FaultFound, BreachFound, Done, Passes, Finds, race_check, range_checks, freed_range, checks}
use Rattle.space_memory.specs.Sides.{top_of}
use Rattle.space_memory.specs.Spaces.{SpaceState, side_of}
use Rattle.space_memory.specs.Frames.{IsEnterRefused, IsLeaveRefused}
use Rattle.space_memory.specs.Blocks.{IsFreeRefused}
use Rattle.replay_runs.specs.Passing.{Unraced}
use Rattle.space_memory_laws.specs.StandsFor.{StandsFor}

-- the fault or breach that a refusal is
abbrev pub finding_of : Refusal → Finding
finding_of (NotLive x) = FaultFound fault.NotLive
finding_of (Pending x) = BreachFound breach.Pending x None
finding_of (OtherSpace x) = BreachFound breach.OtherSpace x None
finding_of (ReadOnly x) = FaultFound fault.ReadOnly
finding_of (StackFull x) = FaultFound fault.StackFull
finding_of (KeyInUse key) = BreachFound breach.KeyInUse key None
finding_of (NoKey key) = BreachFound breach.NoKey key None
finding_of (Size x) = BreachFound breach.Size x None

-- code of a thread above the cut reads or writes so many bytes from an address on
abbrev pub access : ℕ → ℕ → ℕ → Bool → Access
access thread addr len write = record {
  side = Replay;
  thread = thread;
  range =
      record { addr = addr; len = len };
  write = write;
}

-- the checks of a range find what memory refuses, and nothing else
pub record FindsWhatIsRefused (s : Start) (past : List Mark) (memory : SpaceState) (t addr len : ℕ)
    (write : Bool) : Type 0 where
  pub refused : (r : Refusal) → IsRefused memory.bytes memory.held.regions (access t addr len write) r →
      Finds (range_checks s past t write [] (range addr len) Done) (finding_of r)
  pub found : (f : Finding) → Finds (range_checks s past t write [] (range addr len) Done) f →
      (r : Refusal) × IsRefused memory.bytes memory.held.regions (access t addr len write) r ×
      (f ≡ finding_of r)
  pub passes : Passes (range_checks s past t write [] (range addr len) Done) ↔ IsAllowed memory.bytes
      memory.held.regions (access t addr len write)

-- without a race the checks of a range find exactly what memory refuses, and pass exactly where it allows
-- the access
abbrev pub RefusalsAreFindings : Type 0
RefusalsAreFindings =
    (s : Start) (past : List Mark) (memory : SpaceState) (t addr len : ℕ) (write : Bool) →
    StandsFor s past memory →
    addr < 2 ^ 64 →
    Unraced past t write (range addr len) →
    FindsWhatIsRefused s past memory t addr len write

-- a race comes after the other side's memory, and before all else
pub record RacesComeSecond (s : Start) (past : List Mark) (memory : SpaceState) (t addr len : ℕ) (write :
    Bool) : Type 0 where
  pub other_space : (x : ℕ) → IsRefused memory.bytes memory.held.regions (access t addr len write)
      (OtherSpace x) → Finds (range_checks s past t write [] (range addr len) Done)
      (BreachFound breach.OtherSpace x None)
  pub race : (f : Finding) → ((x : ℕ) → ¬ IsRefused memory.bytes memory.held.regions
      (access t addr len write) (OtherSpace x)) → Finds (race_check past t write (range addr len) Done) f →
      Finds (range_checks s past t write [] (range addr len) Done) f

abbrev pub OtherSpaceComesFirst : Type 0
OtherSpaceComesFirst = (s : Start) (past : List Mark) (memory : SpaceState) (t addr len : ℕ) (write :
    Bool) → addr < 2 ^ 64 → RacesComeSecond s past memory t addr len write

-- a frame isn't entered exactly where the thread has no room for it
abbrev pub FullStacksAreFound : Type 0
FullStacksAreFound =
    (s : Start) (past : List Mark) (memory : SpaceState) (t size : ℕ) →
    StandsFor s past memory →
    t < thread_count →
    ((r : Refusal) × IsEnterRefused (stack_of (side_of memory.sides Replay).stacks t) size r) ↔
    (HasRoom t (marks_of s t past) size → ⊥)

-- a frame isn't left for a cause exactly where its write is refused for it
abbrev pub LeavesAreRefusedAsWrites : Type 0
LeavesAreRefusedAsWrites =
    (s : Start) (past : List Mark) (memory : SpaceState) (t : ℕ) (frame : Range) →
    StandsFor s past memory →
    t < thread_count →
    top_of (side_of memory.sides Replay) t ≡ Some frame →
    (r : Refusal) → IsLeaveRefused Replay memory.held.regions (top_of (side_of memory.sides Replay) t) r ↔
    IsRefused memory.bytes memory.held.regions (access t frame.addr frame.len true) r

-- a free that is refused is what the checks of the Free find, where no race comes
abbrev pub RefusedFreesAreFound : Type 0
RefusedFreesAreFound =
    (i : Interface) (s : Start) (past : List Mark) (memory : SpaceState) (t addr : ℕ) →
    StandsFor s past memory →
    1 ≤ addr →
    Unraced past t true (freed_range addr (byte s addr past).block) →
    (r : Refusal) → IsFreeRefused Replay (side_of memory.sides Replay).pool.blocks memory.held.regions addr
    r → Finds (checks i s past t (Frees addr)) (finding_of r)

-- what the checks of a Free find is what memory refuses it for; they pass exactly where memory refuses it
-- for nothing
pub record FreesFind (i : Interface) (s : Start) (past : List Mark) (memory : SpaceState) (t addr : ℕ) :
    Type 0 where
  pub found : (f : Finding) → Finds (checks i s past t (Frees addr)) f → (r : Refusal) ×
      IsFreeRefused Replay (side_of memory.sides Replay).pool.blocks memory.held.regions addr r ×
      (f ≡ finding_of r)
  pub passes : Passes (checks i s past t (Frees addr)) ↔ ((r : Refusal) →
      ¬ IsFreeRefused Replay (side_of memory.sides Replay).pool.blocks memory.held.regions addr r)

-- what the checks of a Free find is refused, where no race comes
abbrev pub FoundFreesAreRefused : Type 0
FoundFreesAreRefused =
    (i : Interface) (s : Start) (past : List Mark) (memory : SpaceState) (t addr : ℕ) →
    StandsFor s past memory → 1 ≤ addr → Unraced past t true
    (freed_range addr (byte s addr past).block) → FreesFind i s past memory t addr
