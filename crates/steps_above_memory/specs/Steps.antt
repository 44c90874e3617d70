-- What it says that a step is made, or refused.
use Rattle.std.specs.Prelude.{◌≡◌, ℕ, Bool, false, List, [], ◌∷◌, length}
use Rattle.marks.specs.declared.side.Side.TheVariants.{Replay}
use Rattle.marks.specs.declared.range.Range.{Range}
use Rattle.marks.specs.Ranges.{range}
use Rattle.marks.specs.Marks.{Act, Mark}
use Rattle.marks.specs.Bytes.{Byte}
use Rattle.marks.specs.Wants.{Want}
use Rattle.space_memory_access.specs.declared.refusal.Refusal.{Refusal}
use Rattle.space_memory_access.specs.Accesses.{IsRefused}
use Rattle.space_memory_laws.specs.Refusals.{access}
use Rattle.replay_runs.specs.Runs.{OfThread, marks_of, events_with}
use Rattle.replay_runs.specs.Known.{NoRace}
use Rattle.replay_runs.specs.Interface.{Program}
use Rattle.replay_runs.specs.Threads.{is_stopped}
use Rattle.replay_runs.specs.Rules.{KeepsModes}
use Rattle.replay_runs.specs.Checks.{Done, Passes, checks, range_checks}
use Rattle.replay_runs.specs.Laws.{fresh}
use Rattle.steps_above_memory.specs.declared.above.MemoryAbove.{MemoryAbove}
use Rattle.steps_above_memory.specs.declared.refusal.StepRefusal.{StepRefusal}
use Rattle.steps_above_memory.specs.declared.refusal.StepRefusal.TheVariants.{Fault, Breach, Memory}
use Rattle.steps_above_memory.specs.Above.{StandsForAbove}
use Rattle.steps_above_memory.specs.Refusals.{IsFound}

-- the mark that a thread makes next where it does this
abbrev pub next_mark : (ℕ → Byte) → List Mark → (thread : ℕ) → Act → Mark
next_mark memory past t act = record {
  thread = t;
  side = Replay;
  index = length (events_with (fresh memory) (OfThread t) past);
  act = act;
}

-- the thread's code wants this next, and the thread has not stopped
pub record IsWanted (program : Program) (memory : ℕ → Byte) (past : List Mark) (t : ℕ)
    (want : Want) : Type 0 where
  pub wants : program.want t (marks_of (fresh memory) t past) ≡ want
  pub running : is_stopped (marks_of (fresh memory) t past) ≡ false

-- a step is made: no check finds anything, its mark races with nothing, and memory and watch stand for
-- the run with the mark
-- where the code wants it
pub record IsMade (program : Program) (memory : ℕ → Byte) (past : List Mark) (t : ℕ) (want : Want)
    (act : Act) (new : MemoryAbove) : Type 0 where
  pub passes : Passes (checks program.interface (fresh memory) past t want)
  pub no_race : NoRace past (next_mark memory past t act)
  pub stands : IsWanted program memory past t want → StandsForAbove program memory
      (next_mark memory past t act ∷ past) new

-- whatever run memory and watch stand for, the step is made. The modes of functions are tested before it
abbrev pub Makes : MemoryAbove → (thread : ℕ) → Want → Act → MemoryAbove → Type 0
Makes old t want act new = (program : Program) (memory : ℕ → Byte) (past : List Mark) →
    StandsForAbove program memory past old → KeepsModes program.interface want →
    IsMade program memory past t want act new

-- whatever run they stand for, no check of the step finds anything
abbrev pub Takes : MemoryAbove → (thread : ℕ) → Want → Type 0
Takes above t want = (program : Program) (memory : ℕ → Byte) (past : List Mark) →
    StandsForAbove program memory past above → KeepsModes program.interface want →
    Passes (checks program.interface (fresh memory) past t want)

-- whatever run they stand for, the checks of the step find why it is refused
abbrev pub Refuses : MemoryAbove → (thread : ℕ) → Want → StepRefusal → Type 0
Refuses above t want refusal = (program : Program) (memory : ℕ → Byte) (past : List Mark) →
    StandsForAbove program memory past above → KeepsModes program.interface want →
    IsFound (checks program.interface (fresh memory) past t want) refusal

-- the checks of one range find this where memory refuses the access
abbrev pub FindsRefusal : MemoryAbove → (thread : ℕ) → (write : Bool) → Range → Refusal → StepRefusal →
    Type 0
FindsRefusal above t write r refused refusal = (program : Program) (memory : ℕ → Byte)
    (past : List Mark) →
    StandsForAbove program memory past above →
    IsRefused above.spaces.bytes above.spaces.held.regions (access t r.addr r.len write) refused →
    IsFound (range_checks (fresh memory) past t write [] (range r.addr r.len) Done) refusal

-- a check finds it, so it isn't want of memory
abbrev pub HasCause : StepRefusal → Type 0
HasCause (Fault kind) = Unit {0}
HasCause (Breach kind addr other) = Unit {0}
HasCause Memory = ⊥
