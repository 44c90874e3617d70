-- Steps below the cut whose act depends on the run: frames, the pool, what is printed, and externals.
use Rattle.std.specs.Prelude.{◌≡◌, ℕ, Bool, List, [], ◌∷◌, ◌++◌, map, Some, None}
use Rattle.marks.specs.declared.side.Side.TheVariants.{System}
use Rattle.marks.specs.declared.range.Range.{Range}
use Rattle.marks.specs.Ranges.{Piece}
use Rattle.marks.specs.Marks.{Step, Mark}
use Rattle.marks.specs.Bytes.{granted}
use Rattle.marks.specs.Wants.{Want, Enters, CallsBack, Steps}
use Rattle.c_builtins.specs.declared.builtin.Builtin.{Builtin}
use Rattle.c_builtins.specs.declared.builtin.Builtin.TheVariants as builtins
use Rattle.c_code.specs.Machine.{first}
use Rattle.replay_runs.specs.Records.{pieces_in_a_row}
use Rattle.steps_above_memory.specs.declared.refusal.StepRefusal.{StepRefusal}
use Rattle.steps_above_memory.specs.Refusals.{IsFound}
use Rattle.whole_runs.specs.World.{World, interface_on}
use Rattle.whole_runs.specs.Outcomes.{builtin_of}
use Rattle.whole_runs.specs.Below.{Target, To, Nowhere, Missing, Says, block_at, given, targets, pieces_for}
use Rattle.whole_runs.specs.Tests.{piece_checks, tests}
use Rattle.whole_runs.specs.Steps.{zeros}
use Rattle.whole_runs_memory.specs.Refusals.{IsAtPiece}
use Rattle.recorder_memory.specs.declared.memory.Memory.{Memory}
use Rattle.recorder_memory.specs.declared.target.PieceTarget.{PieceTarget}
use Rattle.recorder_memory.specs.declared.target.PieceTarget.TheVariants as target
use Rattle.recorder_memory.specs.Stands.{StandsForSeen, StandsForRun}
use Rattle.recorder_memory.specs.Steps.{ComesTo, IsMarked}

-- ---- frames

-- how a function gets a frame below the cut: by a call that can call nothing back, or by one through a
-- pointer that could have
pub data Calling : Type 0 where
  Plainly : (indirect : Bool) → Calling
  ThroughPointer : Calling

abbrev pub frame_want : Calling → (func : ℕ) → (args bytes : List ℕ) → Want
frame_want (Plainly indirect) f args bytes = Enters indirect f args bytes
frame_want ThroughPointer f args bytes = CallsBack f args bytes

-- ---- builtins

-- a run comes to a step of the builtin
pub record ComesToBuiltin (w : World) (past : List Mark) (memory : Memory) (t : ℕ) (indirect : Bool)
    (func : ℕ) (args : List ℕ) (b : Builtin) : Type 0 where
  pub to : ComesTo w past memory t System (Steps indirect func args)
  pub builtin : builtin_of func ≡ Some b

-- of `r2_malloc` for so many bytes it gives this address, or 0
abbrev pub GivesBlock : Memory → (size addr : ℕ) → Memory → Type 0
GivesBlock old size addr new = (w : World) (past : List Mark) (t : ℕ) (indirect : Bool) (func : ℕ)
    (args : List ℕ) → (b : ComesToBuiltin w past old t indirect func args builtins.Malloc) →
    first args ≡ size →
    IsMarked w past b.to.step (Step func args addr [] (zeros addr (granted addr size)) []) new

-- of `r2_free` at the address it frees the block that begins there, or none at 0
abbrev pub FreesBlock : Memory → (addr : ℕ) → Memory → Type 0
FreesBlock old addr new = (w : World) (past : List Mark) (t : ℕ) (indirect : Bool) (func : ℕ)
    (args : List ℕ) → (b : ComesToBuiltin w past old t indirect func args builtins.Free) →
    first args ≡ addr → IsMarked w past b.to.step (Step func args 0 [] [] (block_at addr past)) new

abbrev pub RefusesFree : Memory → (addr : ℕ) → StepRefusal → Type 0
RefusesFree old addr refusal = (w : World) (past : List Mark) (t : ℕ) (indirect : Bool) (func : ℕ)
    (args : List ℕ) → ComesToBuiltin w past old t indirect func args builtins.Free →
    first args ≡ addr → IsFound (tests w past t System (Steps indirect func args)) refusal

-- these pieces have the bytes in a row, and the step of `r2_print` reads them
pub record IsPrinted (w : World) (past : List Mark) (memory : Memory) (t : ℕ) (indirect : Bool)
    (func : ℕ) (args : List ℕ) (to : ComesTo w past memory t System (Steps indirect func args))
    (bytes : List ℕ) : Type 0 where
  pub ins : List Piece
  pub bytes_are : pieces_in_a_row ins ≡ bytes
  pub marked : IsMarked w past to.step (Step func args 0 ins [] []) memory

-- of `r2_print` of these ranges it prints these bytes
abbrev pub Prints : Memory → (thread : ℕ) → List Range → (bytes : List ℕ) → Type 0
Prints memory t ranges bytes = (w : World) (past : List Mark) (indirect : Bool) (func : ℕ)
    (args : List ℕ) → (b : ComesToBuiltin w past memory t indirect func args builtins.Print) →
    (interface_on w System func).ins func args ≡ ranges →
    IsPrinted w past memory t indirect func args b.to bytes

abbrev pub RefusesPrint : Memory → (thread : ℕ) → List Range → StepRefusal → Type 0
RefusesPrint memory t ranges refusal = (w : World) (past : List Mark) (indirect : Bool) (func : ℕ)
    (args : List ℕ) → ComesToBuiltin w past memory t indirect func args builtins.Print →
    (interface_on w System func).ins func args ≡ ranges →
    IsFound (tests w past t System (Steps indirect func args)) refusal

-- the builtin has nothing to do with memory
abbrev pub IsForThreads : Builtin → Type 0
IsForThreads builtins.Malloc = ⊥
IsForThreads builtins.Free = ⊥
IsForThreads builtins.Spawn = Unit {0}
IsForThreads builtins.Join = Unit {0}
IsForThreads builtins.Lock = Unit {0}
IsForThreads builtins.Unlock = Unit {0}
IsForThreads builtins.Print = ⊥

-- the step of such a one leaves memory as it is
abbrev pub StepsOfThreadsLeaveMemory : Type 0
StepsOfThreadsLeaveMemory = (memory : Memory) (w : World) (past : List Mark) (t : ℕ) (indirect : Bool)
    (func : ℕ) (args : List ℕ) (b : Builtin) (result : ℕ) →
    (c : ComesToBuiltin w past memory t indirect func args b) →
    IsForThreads b → given w past t func args ≡ Says result [] →
    IsMarked w past c.to.step (Step func args result [] [] []) memory

-- ---- externals

-- where a piece goes, as the recorder has it
abbrev pub target_of : PieceTarget → Target
target_of (target.Region range) = To range
target_of target.Nowhere = Nowhere
target_of target.Missing = Missing

abbrev pub targets_of : List PieceTarget → List Target
targets_of xs = map target_of xs

-- a run comes to a step of an external that gives this result and these pieces, which go there
pub record ComesToExternal (w : World) (past : List Mark) (memory : Memory) (t : ℕ) (indirect : Bool)
    (func : ℕ) (args : List ℕ) (result : ℕ) (places : List Target) (pieces : List (List ℕ)) : Type 0 where
  pub to : ComesTo w past memory t System (Steps indirect func args)
  pub external : builtin_of func ≡ None
  pub says : given w past t func args ≡ Says result pieces
  pub places_are : targets w System past func args result ≡ places

-- then all its pieces are written
abbrev pub Answers : Memory → (thread : ℕ) → List Target → List (List ℕ) → Memory → Type 0
Answers old t places pieces new = (w : World) (past : List Mark) (indirect : Bool) (func : ℕ)
    (args : List ℕ) (result : ℕ) →
    (e : ComesToExternal w past old t indirect func args result places pieces) →
    IsMarked w past e.to.step (Step func args result [] (pieces_for places pieces) []) new

abbrev pub RefusesAnswer : Memory → (thread : ℕ) → List Target → List (List ℕ) → StepRefusal → Type 0
RefusesAnswer old t places pieces refusal = (w : World) (past : List Mark) (indirect : Bool) (func : ℕ)
    (args : List ℕ) (result : ℕ) →
    ComesToExternal w past old t indirect func args result places pieces →
    IsFound (tests w past t System (Steps indirect func args)) refusal

-- a step that was broken off leaves memory above the cut to what a replay sees
abbrev pub LeavesSeen : Memory → Memory → Type 0
LeavesSeen old new = (w : World) (past : List Mark) → StandsForRun w past old → StandsForSeen w past new

-- of the pieces so far none was refused, and they were written
pub record IsWriting (w : World) (past : List Mark) (t : ℕ) (places : List Target) (pieces : List (List ℕ))
    (memory : Memory) : Type 0 where
  pub at : IsAtPiece w past t places pieces (pieces_for places pieces) memory.above.spaces
  pub above : StandsForSeen w past memory

-- one more piece was written, whichever came before it
abbrev pub WritesPiece : Memory → (thread : ℕ) → Target → List ℕ → Memory → Type 0
WritesPiece old t place bytes new = (w : World) (past : List Mark) (places : List Target)
    (pieces : List (List ℕ)) →
    IsWriting w past t places pieces old →
    IsWriting w past t (places ++ place ∷ []) (pieces ++ bytes ∷ []) new

-- or the tests of the pieces find why it is refused, whichever come after it
abbrev pub RefusesPiece : Memory → (thread : ℕ) → Target → List ℕ → StepRefusal → Type 0
RefusesPiece old t place bytes refusal = (w : World) (past : List Mark) (places more : List Target)
    (pieces rest : List (List ℕ)) →
    IsWriting w past t places pieces old →
    IsFound (piece_checks w past t (places ++ place ∷ more) (pieces ++ bytes ∷ rest)) refusal

-- all of these were written
abbrev pub WritesAll : Memory → (thread : ℕ) → List Target → List (List ℕ) → Memory → Type 0
WritesAll old t places pieces new = (w : World) (past : List Mark) → StandsForRun w past old →
    IsWriting w past t places pieces new
