-- What it is to a step that bytes aren't copied.
use Rattle.space_memory.specs.declared.error.HoldError.{HoldError}
use Rattle.space_memory.specs.declared.error.HoldError.TheVariants as hold
use Rattle.steps_above_memory.specs.declared.refusal.StepRefusal.{StepRefusal}
use Rattle.steps_above_memory.specs.declared.refusal.StepRefusal.TheVariants as step
use Rattle.steps_above_memory.specs.Refusals.{refusal_of}

abbrev pub refusal_to_hold : HoldError → StepRefusal
refusal_to_hold (hold.Refused r) = refusal_of r
refusal_to_hold hold.Memory = step.Memory
