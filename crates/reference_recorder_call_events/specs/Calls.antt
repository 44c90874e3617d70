-- What the mark of a Call comes from.
use Rattle.std.specs.Prelude.{◌≡◌, ℕ, Bool, List, map, Option}
use Rattle.marks.specs.declared.side.Side.TheVariants.{Replay}
use Rattle.marks.specs.declared.range.Range.{Range}
use Rattle.marks.specs.Ranges.{Piece}
use Rattle.marks.specs.Marks.{EventKind, Call}
use Rattle.stub_meaning.specs.Calls.{Done}
use Rattle.whole_runs.specs.World.{World}
use Rattle.recorder_threads.specs.declared.wants.Want.TheVariants as told
use Rattle.recorder_state.specs.Inputs.{world_of}
use Rattle.reference_recorder_marks.specs.declared.mark.Mark.{Mark as Told}
use Rattle.reference_recorder_marks.specs.Marks.{past}
use Rattle.reference_recorder_targets.specs.Said.{done_on}
use Rattle.reference_recorder_rules.specs.Steps.{IsToMake}
use Rattle.reference_recorder_events.specs.Events.{IsEventOf}
use Rattle.reference_recorder_call_events.specs.declared.memory.Memory.{Memory}
use Rattle.reference_recorder_call_events.specs.Memory.{AreRead, memory_of}

-- code above the cut calls this function of the interface next
pub record IsCallNext (w : World) (marks : List Told) (thread func : ℕ) (args : List ℕ) : Type 0 where
  pub indirect : Bool
  pub next : IsToMake w marks thread Replay args (told.Call indirect func)

-- the Call of the function, in which this is done
pub record IsCallDone (memory : ℕ → Option ℕ) (func : ℕ) (args : List ℕ) (done : Done) (kind : EventKind) :
    Type 0 where
  pub ins : List Piece
  pub read : AreRead memory done.ins (map (λ (r : Range). r.len) done.ins) ins
  pub kind_is : kind ≡ Call func args ins done.outs done.prepares

-- and the mark of it
pub record IsCallOf (m : Memory) (thread func : ℕ) (args : List ℕ) (marked : Told) : Type 0 where
  pub done : Done
  pub done_is : done ≡ done_on (world_of m.inputs) Replay func args 0
  pub kind : EventKind
  pub call : IsCallDone (memory_of m) func args done kind
  pub event : IsEventOf (past m.marks.now) thread kind done marked
