-- One step: the thread that makes it, the mark that it makes, and the mark of a fault in its place.
use Rattle.std.specs.Prelude.{◌≡◌, ℕ, ◌<◌, Bool, true, false, List, [], ◌∷◌, ◌++◌, length, replicate, Option, Some, None, is_some}
use Rattle.marks.specs.declared.side.Side.{Side}
use Rattle.marks.specs.declared.side.Side.TheVariants.{Replay, System}
use Rattle.marks.specs.declared.fault.FaultKind.{FaultKind}
use Rattle.marks.specs.Places.{is_constant, system_pool}
use Rattle.marks.specs.declared.range.Range.{Range}
use Rattle.marks.specs.Ranges.{Piece, range, piece_ranges}
use Rattle.marks.specs.Marks.{EventKind, Call, Ret, Up, UpRet, Alloc, Free, Stop, Act, Turn, Load, Store, Enter, Leave, Step, Fault, Made, Mark, Access, Nowhere, Reading, Freeing, released}
use Rattle.marks.specs.Bytes.{granted, writes}
use Rattle.marks.specs.Wants.{Want, Outside, Turns, Loads, Stores, Enters, Leaves, Allocs, Frees, Calls, Below, Gives, Returns, CallsBack, UpReturns, Steps, Fails, Answer, Stopped}
use Rattle.c_builtins.specs.declared.builtin.Builtin.{Builtin}
use Rattle.c_builtins.specs.declared.builtin.Builtin.TheVariants as builtins
use Rattle.c_code.specs.Machine.{Config, first}
use Rattle.c_code.specs.MarkLists.{Wants, reply}
use Rattle.replay_runs.specs.Runs.{Start, Rules, Allowed}
use Rattle.replay_runs.specs.Interface.{Interface}
use Rattle.replay_runs.specs.Threads.{act_fault}
use Rattle.replay_runs.specs.Pool.{IsPlace}
use Rattle.replay_runs.specs.Rules.{AreWhole, HasKeys, Carries, SharedRules}
use Rattle.replay_runs.specs.Checks.{Passes}
use Rattle.whole_runs.specs.World.{World, begin, interface, interface_on}
use Rattle.whole_runs.specs.Sides.{seen, events_by, place_on}
use Rattle.whole_runs.specs.Outcomes.{builtin_of}
use Rattle.whole_runs.specs.Threads.{comes}
use Rattle.whole_runs.specs.Picks.{stepping, all_ended}
use Rattle.whole_runs.specs.Memory.{real, Has, HasAll}
use Rattle.whole_runs.specs.Below.{Given, ByPool, Says, NoMore, given, system_blocks, block_at, targets, pieces_for}
use Rattle.whole_runs.specs.Tests.{with_answer, is_back, tests}

-- ---- who makes it

-- a thread hasn't ended, and the budget has a step left
pub record GoesOn (w : World) (past : List Mark) : Type 0 where
  pub running : all_ended w past ≡ false
  pub in_budget : length past < w.file.budget

-- the thread that makes the next step, and what its code wants on which side
pub record Picked (w : World) (past : List Mark) : Type 0 where
  pub goes_on : GoesOn w past
  pub thread : ℕ
  pub picked : stepping w past ≡ Some thread
  pub side : Side
  pub want : Want
  pub to : Answer → Config
  pub comes_is : comes w past thread ≡ Wants side want to

-- ---- what it agrees with

-- an indirect call below the cut, by the function that it calls
abbrev pub called_below : Want → Option ℕ
called_below Outside = None
called_below Turns = None
called_below (Loads origin at width) = None
called_below (Stores origin at bytes) = None
called_below (Enters indirect f args bytes) = None
called_below (Leaves at size) = None
called_below (Allocs size) = None
called_below (Frees at) = None
called_below (Calls indirect f args) = None
called_below (Below f args) = None
called_below (Gives f args) = None
called_below (Returns f args v) = None
called_below (CallsBack f args bytes) = Some f
called_below (UpReturns f v) = None
called_below (Steps indirect f args) = None
called_below (Fails kind) = None

abbrev pub calls_back : World → List Mark → Option ℕ → Bool
calls_back w past None = false
calls_back w past (Some f) = is_back w past f

-- what is wanted is an Up, and not the frame of the function
abbrev pub goes_up : World → List Mark → Want → Bool
goes_up w past want = calls_back w past (called_below want)

-- what a Step carries
pub record StepOf : Type 0 where
  pub func : ℕ
  pub args : List ℕ
  pub result : ℕ
  pub ins : List Piece
  pub pieces : List Piece
  pub freed : List Range

-- a piece of so many zeros
abbrev pub zeros : (at size : ℕ) → List Piece
zeros at size = record { range = range at size; bytes = replicate size 0 } ∷ []

-- `r2_malloc` below the cut: a block of zeros, at the least place that there is
pub record IsAllocation (past : List Mark) (s : StepOf) : Type 0 where
  pub place : IsPlace system_pool (system_blocks past) (first s.args) s.result
  pub ins : s.ins ≡ []
  pub pieces : s.pieces ≡ zeros s.result (granted s.result (first s.args))
  pub freed : s.freed ≡ []

-- `r2_free` below the cut: the block that begins there
pub record IsRelease (past : List Mark) (s : StepOf) : Type 0 where
  pub result : s.result ≡ 0
  pub ins : s.ins ≡ []
  pub pieces : s.pieces ≡ []
  pub freed : s.freed ≡ block_at (first s.args) past

-- below the cut `r2_print` alone reads what its caller names
abbrev pub read_by : World → (func : ℕ) → (args : List ℕ) → Option Builtin → List Range
read_by w f args (Some builtins.Malloc) = []
read_by w f args (Some builtins.Free) = []
read_by w f args (Some builtins.Spawn) = []
read_by w f args (Some builtins.Join) = []
read_by w f args (Some builtins.Lock) = []
read_by w f args (Some builtins.Unlock) = []
read_by w f args (Some builtins.Print) = (interface_on w System f).ins f args
read_by w f args None = []

-- any other one: the result and the pieces are those that it is given
pub record IsGiven (w : World) (past : List Mark) (s : StepOf) (result : ℕ) (pieces : List (List ℕ)) :
    Type 0 where
  pub result_is : s.result ≡ result
  pub ins : piece_ranges s.ins ≡ read_by w s.func s.args (builtin_of s.func)
  pub whole : AreWhole s.ins
  pub read : HasAll (real w past) s.ins
  pub pieces_are : s.pieces ≡ pieces_for (targets w System past s.func s.args s.result) pieces
  pub freed : s.freed ≡ []

abbrev pub GivesStep : World → List Mark → StepOf → Given → Type 0
GivesStep w past s ByPool = ⊥
GivesStep w past s (Says result pieces) = IsGiven w past s result pieces
GivesStep w past s NoMore = ⊥

abbrev pub IsOtherStep : World → List Mark → (thread : ℕ) → StepOf → Type 0
IsOtherStep w past t s = GivesStep w past s (given w past t s.func s.args)

-- the one step of a builtin or external below the cut
abbrev pub IsStep : World → List Mark → (thread : ℕ) → StepOf → Option Builtin → Type 0
IsStep w past t s (Some builtins.Malloc) = IsAllocation past s
IsStep w past t s (Some builtins.Free) = IsRelease past s
IsStep w past t s (Some builtins.Spawn) = IsOtherStep w past t s
IsStep w past t s (Some builtins.Join) = IsOtherStep w past t s
IsStep w past t s (Some builtins.Lock) = IsOtherStep w past t s
IsStep w past t s (Some builtins.Unlock) = IsOtherStep w past t s
IsStep w past t s (Some builtins.Print) = IsOtherStep w past t s
IsStep w past t s None = IsOtherStep w past t s

-- what a Ret brings up stands in memory once the pieces of the answer do
abbrev pub BringsGiven : World → List Mark → (func : ℕ) → (args : List ℕ) → (result : ℕ) → (up : List Piece) →
    Given → Type 0
BringsGiven w past f args v up ByPool = ⊥
BringsGiven w past f args v up (Says result pieces) = (v ≡ result) ×
    HasAll (with_answer w past f args v pieces) up
BringsGiven w past f args v up NoMore = ⊥

-- a Ret ends the call of a function with a body, and memory stays as it is, or of a builtin or external
abbrev pub Brings : World → List Mark → (thread : ℕ) → Want → (result : ℕ) → (up : List Piece) → Type 0
Brings w past t Outside v up = ⊥
Brings w past t Turns v up = ⊥
Brings w past t (Loads origin at width) v up = ⊥
Brings w past t (Stores origin at bytes) v up = ⊥
Brings w past t (Enters indirect f args bytes) v up = ⊥
Brings w past t (Leaves at size) v up = ⊥
Brings w past t (Allocs size) v up = ⊥
Brings w past t (Frees at) v up = ⊥
Brings w past t (Calls indirect f args) v up = ⊥
Brings w past t (Below f args) v up = ⊥
Brings w past t (Gives f args) v up = BringsGiven w past f args v up (given w past t f args)
Brings w past t (Returns f args result) v up = HasAll (real w past) up
Brings w past t (CallsBack f args bytes) v up = ⊥
Brings w past t (UpReturns f result) v up = ⊥
Brings w past t (Steps indirect f args) v up = ⊥
Brings w past t (Fails kind) v up = ⊥

abbrev pub EventAgrees : World → List Mark → (thread : ℕ) → Want → EventKind → Type 0
EventAgrees w past t want (Call f args ins outs prepared) = Unit {0}
EventAgrees w past t want (Ret f args v same outs commit) = Brings w past t want v (outs ++ released commit)
EventAgrees w past t want (Up f args) = goes_up w past want ≡ true
EventAgrees w past t want (UpRet f v) = Unit {0}
EventAgrees w past t want (Alloc at size) = Unit {0}
EventAgrees w past t want (Free at size) = Unit {0}
EventAgrees w past t want (Stop fault) = ⊥

-- what memory of both sides, the other threads and the system file say of a step, besides what the code wants
abbrev pub Agrees : World → List Mark → (thread : ℕ) → Side → Want → Act → Type 0
Agrees w past t side want Turn = Unit {0}
Agrees w past t side want (Load origin at bytes) = Has (real w past) at bytes
Agrees w past t side want (Store origin at bytes) = Unit {0}
Agrees w past t side want (Enter f args at bytes) = (goes_up w past want ≡ false) ×
    (at ≡ place_on w side t past)
Agrees w past t side want (Leave at size) = Unit {0}
Agrees w past t side want (Step f args v ins pieces freed) = IsStep w past t (record {
  func = f;
  args = args;
  result = v;
  ins = ins;
  pieces = pieces;
  freed = freed;
}) (builtin_of f)
Agrees w past t side want (Fault kind crosses ins outs access) = ⊥
Agrees w past t side want (Made e) = EventAgrees w past t want e.kind

-- ---- the mark

-- what the rules of replay runs ask of a mark above the cut whose code wants this: its keys, and what it
-- carries. That it answers the want and passes the checks is said here for both sides
abbrev pub rules_above : Interface → Start → Want → Rules
rules_above i s want = record {
  Own = λ mine m. HasKeys i m.thread mine m.act × Carries i s m.thread mine want m.act;
  Shared = SharedRules i s;
}

-- a mark of the picked thread, which has the number of the thread's events before it. Above the cut it
-- has the steps, tickets and clock that it must have after the marks there, and agrees with the memory
-- there
pub record IsMark (w : World) (past : List Mark) (s : Picked w past) (m : Mark) : Type 0 where
  pub of_thread : m.thread ≡ s.thread
  pub index : m.index ≡ events_by w m.thread past
  pub above : m.side ≡ Replay → Allowed (rules_above (interface w) (begin w) s.want) (begin w) (seen past) m

-- the mark is the step that the thread makes: it answers what the code wants, and no test fails
pub record IsMade (w : World) (past : List Mark) (s : Picked w past) (m : Mark) : Type 0 where
  pub mark : IsMark w past s m
  pub replies : is_some (reply s.side s.want m) ≡ true
  pub agrees : Agrees w past s.thread s.side s.want m.act
  pub passes : Passes (tests w past s.thread s.side s.want)

-- ---- a fault

abbrev pub first_read : List Range → Access
first_read [] = Nowhere
first_read (r ∷ rs) = Reading r

-- the fault of a builtin or external below the cut: at the block that is freed, at what is printed, or at
-- a piece, which crosses the cut. The others meet none
abbrev pub fault_below : World → FaultKind → (func : ℕ) → (args : List ℕ) → Option Builtin → Act
fault_below w kind f args (Some builtins.Malloc) = Fault kind false [] [] Nowhere
fault_below w kind f args (Some builtins.Free) = Fault kind false [] [] (Freeing (first args))
fault_below w kind f args (Some builtins.Spawn) = Fault kind false [] [] Nowhere
fault_below w kind f args (Some builtins.Join) = Fault kind false [] [] Nowhere
fault_below w kind f args (Some builtins.Lock) = Fault kind false [] [] Nowhere
fault_below w kind f args (Some builtins.Unlock) = Fault kind false [] [] Nowhere
fault_below w kind f args (Some builtins.Print) =
    Fault kind false [] [] (first_read ((interface_on w System f).ins f args))
fault_below w kind f args None = Fault kind true [] [] Nowhere

-- the mark is a fault of this kind, in place of what the code wants. It writes no constant: a Call is
-- stopped at the first one that it would hold
pub record IsFault (w : World) (past : List Mark) (s : Picked w past) (kind : FaultKind) (m : Mark) :
    Type 0 where
  pub mark : IsMark w past s m
  pub stops : reply s.side s.want m ≡ Some Stopped
  pub kind_is : act_fault m.act None ≡ Some kind
  pub read_only : (x : ℕ) → writes m.act x ≡ true → is_constant x ≡ false
  pub below : m.side ≡ System → (indirect : Bool) (f : ℕ) (args : List ℕ) → s.want ≡ Steps indirect f args →
      m.act ≡ fault_below w kind f args (builtin_of f)
