-- What the tests of a step find, as a refusal.
use Rattle.std.specs.Prelude.{Some, None}
use Rattle.marks.specs.declared.fault.FaultKind.TheVariants as fault
use Rattle.marks.specs.declared.breach.BreachKind.TheVariants as breach
use Rattle.space_memory_access.specs.declared.refusal.Refusal.{Refusal}
use Rattle.space_memory_access.specs.declared.refusal.Refusal.TheVariants.{NotLive, Pending, OtherSpace, ReadOnly, StackFull, KeyInUse, NoKey, Size}
use Rattle.race_watch.specs.declared.error.WatchError.{WatchError}
use Rattle.race_watch.specs.declared.error.WatchError.TheVariants as watch
use Rattle.replay_runs.specs.Checks.{Checks, FaultFound, BreachFound, Finds}
use Rattle.steps_above_memory.specs.declared.refusal.StepRefusal.{StepRefusal}
use Rattle.steps_above_memory.specs.declared.refusal.StepRefusal.TheVariants.{Fault, Breach, Memory}

-- the checks find the cause that is given; want of memory has none
abbrev pub IsFound : Checks → StepRefusal → Type 0
IsFound cs (Fault kind) = Finds cs (FaultFound kind)
IsFound cs (Breach kind addr other) = Finds cs (BreachFound kind addr other)
IsFound cs Memory = Unit {0}

-- what a refusal of memory is to a step
abbrev pub refusal_of : Refusal → StepRefusal
refusal_of (NotLive x) = Fault fault.NotLive
refusal_of (Pending x) = Breach breach.Pending x None
refusal_of (OtherSpace x) = Breach breach.OtherSpace x None
refusal_of (ReadOnly x) = Fault fault.ReadOnly
refusal_of (StackFull x) = Fault fault.StackFull
refusal_of (KeyInUse key) = Breach breach.KeyInUse key None
refusal_of (NoKey key) = Breach breach.NoKey key None
refusal_of (Size x) = Breach breach.Size x None

-- what a refusal by the watch is
abbrev pub refusal_by : WatchError → StepRefusal
refusal_by (watch.Race other addr) = Breach breach.Race addr (Some other)
refusal_by watch.Memory = Memory
