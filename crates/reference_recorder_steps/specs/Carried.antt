-- What the mark of a step carries, as a value of this crate says it, and what the call is given.
use Rattle.std.specs.Prelude.{ℕ, List, Option, Some, None}
use Rattle.marks.specs.Marks.{Mark}
use Rattle.c_builtins.specs.declared.builtin.Builtin.{Builtin}
use Rattle.c_builtins.specs.declared.builtin.Builtin.TheVariants as builtins
use Rattle.whole_runs.specs.World.{World}
use Rattle.whole_runs.specs.Below.{Given, ByPool, Says, NoMore}
use Rattle.whole_runs.specs.Steps.{GivesStep, IsAllocation, IsRelease, StepOf}
use Rattle.reference_recorder_marks.specs.declared.mark.Act.{Act}
use Rattle.reference_recorder_marks.specs.declared.mark.Act.TheVariants as act
use Rattle.reference_recorder_steps.specs.declared.carried.Carried.{Carried}

abbrev pub step_of : (func : ℕ) → (args : List ℕ) → Carried → StepOf
step_of f args c = record {
  func = f;
  args = args;
  result = c.result;
  ins = c.ins;
  pieces = c.pieces;
  freed = c.freed;
}

abbrev pub act_with : StepOf → Act
act_with s = act.Step s.func s.args s.result s.ins s.pieces s.freed

-- ---- what a call is given

-- a result and pieces
abbrev pub IsResult : Given → Type 0
IsResult ByPool = ⊥
IsResult (Says result pieces) = Unit {0}
IsResult NoMore = ⊥

-- a call that isn't of the pool is given a result
abbrev pub IsAnswered : Option Builtin → Given → Type 0
IsAnswered (Some builtins.Malloc) g = Unit {0}
IsAnswered (Some builtins.Free) g = Unit {0}
IsAnswered (Some builtins.Spawn) g = IsResult g
IsAnswered (Some builtins.Join) g = IsResult g
IsAnswered (Some builtins.Lock) g = IsResult g
IsAnswered (Some builtins.Unlock) g = IsResult g
IsAnswered (Some builtins.Print) g = IsResult g
IsAnswered None g = IsResult g

-- the step of a call that is given this
abbrev pub IsStepGiven : World → List Mark → StepOf → Given → Option Builtin → Type 0
IsStepGiven w past s g (Some builtins.Malloc) = IsAllocation past s
IsStepGiven w past s g (Some builtins.Free) = IsRelease past s
IsStepGiven w past s g (Some builtins.Spawn) = GivesStep w past s g
IsStepGiven w past s g (Some builtins.Join) = GivesStep w past s g
IsStepGiven w past s g (Some builtins.Lock) = GivesStep w past s g
IsStepGiven w past s g (Some builtins.Unlock) = GivesStep w past s g
IsStepGiven w past s g (Some builtins.Print) = GivesStep w past s g
IsStepGiven w past s g None = GivesStep w past s g
