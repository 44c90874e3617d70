-- What an accepted cut is good for, while pointers keep to the modes.
use Rattle.std.specs.Prelude.{◌≡◌, ℕ, Bool, true, false, List, Option, Some, None, is_some}
use Rattle.marks.specs.declared.side.Side.{Side}
use Rattle.marks.specs.declared.side.Side.TheVariants.{Replay, System}
use Rattle.marks.specs.Marks.{Mark}
use Rattle.marks.specs.Wants.{Want, Outside, Turns, Loads, Stores, Enters, Leaves, Allocs, Frees, Calls, Below, Gives, Returns, CallsBack, UpReturns, Steps, Fails, Answer, Value}
use Rattle.c_code.specs.MarkLists.{Expects}
use Rattle.c_types_model.specs.Types.{CType}
use Rattle.c_builtins.specs.declared.builtin.Builtin.{Builtin}
use Rattle.c_builtins.specs.Table.{in_interface, number_of}
use Rattle.c_semantics.specs.Reading.{Marks}
use Rattle.c_semantics.specs.Context.{Source, body_of, is_face}
use Rattle.c_semantics.specs.Calls.{thread_above, thread_behaviour}
use Rattle.c_semantics.specs.Arguments.{is_known}
use Rattle.cut_graph_rules.specs.declared.mention.Mention.TheVariants.{Written}
use Rattle.cut_graph_rules.specs.Findings.{Cut, IsGlobal, IsTouching, May, Mentions}
use Rattle.cut_graph_reached.specs.Reached.{Reach}
use Rattle.cut_graph_reached.specs.Answers.{IsAnswered, IsReached, ModesKept, ReachesKept}
use Rattle.cut_graph_laws.specs.Granted.{Permits, WantGranted}

-- the cut is one of the source: of the same program, with the same interface, in which builtins are as the
-- table says; the run begins with a function that has a body
pub record IsCutOf (s : Source) (c : Cut) : Type 0 where
  pub program : c.program ≡ s.program
  pub faces : (f : ℕ) → c.face f ≡ is_face s f
  pub builtins : (b : Builtin) → c.face (number_of b) ≡ in_interface b
  pub main : is_some (body_of s c.main) ≡ true

-- ---- what a cut permits

-- a function that may run on the side writes the global by its name
pub record IsWriting (c : Cut) (side : Side) (place f : ℕ) : Type 0 where
  pub runs : May c side f
  pub writes : Mentions c f (Written place)

-- what is known may run where the cut lets it run, and there it touches and writes what it mentions
abbrev pub permits : Source → Cut → Permits
permits s c = record {
  may = λ side f. is_known s f ≡ true → May c side f;
  touches = λ side g. (f : ℕ) × IsTouching c side g f;
  writes = λ side g. (f : ℕ) × IsWriting c side g f;
}

-- ---- what threads do

-- the threads of a source: of its function at an address, or above the cut alone
pub data IsThread (s : Source) : Marks → Type 0 where
  of_function : (t : CType) (address : ℕ) (args : List ℕ) → IsThread s (thread_behaviour s t address args)
  above_alone : IsThread s (thread_above s)

-- marks that a thread may have made, while pointers keep to the modes of the cut
pub record Part (c : Cut) (Threads : Marks → Type 0) : Type 0 where
  pub behaviour : Marks
  pub thread : Threads behaviour
  pub marks : List Mark
  pub kept : ModesKept (May c) behaviour marks

-- the global that is loaded or stored, by a path that begins with its name
abbrev pub accessed : Want → Option ℕ
accessed (Loads origin at width) = origin
accessed (Stores origin at bytes) = origin
accessed Outside = None
accessed Turns = None
accessed (Enters indirect f args bytes) = None
accessed (Leaves at size) = None
accessed (Allocs size) = None
accessed (Frees at) = None
accessed (Calls indirect f args) = None
accessed (Below f args) = None
accessed (Gives f args) = None
accessed (Returns f args result) = None
accessed (CallsBack f args bytes) = None
accessed (UpReturns f result) = None
accessed (Steps indirect f args) = None
accessed (Fails kind) = None

abbrev pub is_store : Want → Bool
is_store (Stores origin at bytes) = true
is_store (Loads origin at width) = false
is_store Outside = false
is_store Turns = false
is_store (Enters indirect f args bytes) = false
is_store (Leaves at size) = false
is_store (Allocs size) = false
is_store (Frees at) = false
is_store (Calls indirect f args) = false
is_store (Below f args) = false
is_store (Gives f args) = false
is_store (Returns f args result) = false
is_store (CallsBack f args bytes) = false
is_store (UpReturns f result) = false
is_store (Steps indirect f args) = false
is_store (Fails kind) = false

-- the thread loaded or stored the global on this side, or a fault stopped it there
pub record Touches (c : Cut) (Threads : Marks → Type 0) (d : Part c Threads) (side : Side) (g : ℕ) :
    Type 0 where
  pub want : Want
  pub answer : Answer
  pub answered : IsAnswered d.behaviour d.marks side want answer
  pub global : accessed want ≡ Some g

-- it stored the global, on some side
pub record Writes (c : Cut) (Threads : Marks → Type 0) (d : Part c Threads) (g : ℕ) : Type 0 where
  pub side : Side
  pub touches : Touches c Threads d side g
  pub stores : is_store touches.want ≡ true

-- it met the builtin or external above the cut, which made no event
pub record MeetsAbove (c : Cut) (Threads : Marks → Type 0) (d : Part c Threads) (f : ℕ) : Type 0 where
  pub indirect : Bool
  pub args : List ℕ
  pub value : ℕ
  pub answered : IsAnswered d.behaviour d.marks Replay (Steps indirect f args) (Value value)

-- the cut is sound: while pointers keep to its modes,
pub record SoundCut (s : Source) (c : Cut) (Threads : Marks → Type 0) : Type 0 where
  -- no function is reached on a side on which it may not run;
  pub reaches : (d : Part c Threads) (r : Reach) → IsReached d.behaviour d.marks r →
      is_known s r.func ≡ true → May c r.side r.func
  -- no global is touched on both sides and written;
  pub globals : (d e w : Part c Threads) (g : ℕ) (name : List ℕ) → IsGlobal c.program g name →
      Touches c Threads d Replay g → Touches c Threads e System g → Writes c Threads w g → ⊥
  -- and no builtin or external is met above it but by an event
  pub externals : (d : Part c Threads) (f : ℕ) → is_known s f ≡ true → MeetsAbove c Threads d f → ⊥
  -- what comes next is granted as well
  pub wants : (d : Part c Threads) (side : Side) (want : Want) → d.behaviour d.marks ≡ Expects side want →
      WantGranted s (permits s c) side want

-- a thread of a source that passes values of its types stays within the cut, while pointers keep to its
-- modes: it reaches functions only on sides on which they may run, and no builtin or external above the cut
-- but by an event
pub record StaysWithin (c : Cut) (behaviour : Marks) : Type 0 where
  pub reaches : (ms : List Mark) → ModesKept (May c) behaviour ms → ReachesKept (May c) behaviour ms
  pub steps : (ms : List Mark) → ModesKept (May c) behaviour ms → (indirect : Bool) (f : ℕ)
      (args : List ℕ) (v : ℕ) → IsAnswered behaviour ms Replay (Steps indirect f args) (Value v) → ⊥
