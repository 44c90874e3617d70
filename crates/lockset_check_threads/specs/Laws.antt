-- Threads of a source without findings keep their locks.
use Rattle.std.specs.Prelude.{◌≡◌, ◌≢◌, ℕ, ◌<◌, Bool, true, false, List, [], ◌∷◌, Some, reverse}
use Rattle.std.specs.List.{All}
use Rattle.r2_num.specs.declared.kinds.IntKind.TheVariants.{I32}
use Rattle.r2_num.specs.Kinds.{IsValue}
use Rattle.marks.specs.declared.side.Side.{Side}
use Rattle.marks.specs.Marks.{Mark}
use Rattle.marks.specs.Bytes.{place}
use Rattle.replay_runs.specs.Runs.{OfThread, In}
use Rattle.replay_runs.specs.Known.{known}
use Rattle.marks.specs.Wants.{Want, Answer}
use Rattle.c_code.specs.Machine.{Flat}
use Rattle.c_code.specs.MarkLists.{Expects, reply, thread_lists}
use Rattle.c_types_model.specs.Types.{CType}
use Rattle.c_types_rules.specs.TypedTree.{Body}
use Rattle.c_semantics.specs.Reading.{Marks}
use Rattle.c_semantics.specs.Context.{Source, body_of, is_face}
use Rattle.c_lower_placement.specs.Laws.{laid}
use Rattle.c_lower_placement.specs.Placement.{IsSigOf}
use Rattle.cut_graph_reached.specs.Answers.{ModesKept, ReachesKept}
use Rattle.lockset_check_rules.specs.Guards.{Guarded}
use Rattle.lockset_check_rules.specs.Sources.{is_any_guarded}
use Rattle.lockset_check_laws.specs.Locks.{own}
use Rattle.lockset_check_laws.specs.Order.{AtEach, IsExclusive, IsHeld, IsKeyed, Rises, TakesFree, Touches}
use Rattle.lockset_check_threads.specs.Wants.{KeepsLocks, calls, guard_of}
use Rattle.lockset_check_threads.specs.Typed.{InStatement, IsConstantCall, IsPlainCall}

-- each call by name in a source is plain, and `break` and `continue` stand in loops
abbrev pub CallsArePlain : Source → Type 0
CallsArePlain s = (f : ℕ) (b : Body) → body_of s f ≡ Some b → InStatement IsPlainCall false b.statements

-- in the arguments of what locks and unlocks, integer constants are of their kinds
abbrev pub ConstantsAreOfKinds : Source → Type 0
ConstantsAreOfKinds s = (f : ℕ) (b : Body) → body_of s f ≡ Some b →
    InStatement IsConstantCall true b.statements

-- what is said of mutexes is said of this source: one with guards, whose bodies keep the rules of types, and
-- where what is called across the cut holds nothing
pub record IsGuarded (r : Guarded) (s : Source) : Type 0 where
  pub guards : is_any_guarded r 0 r.globals ≡ true
  pub functions : r.functions ≡ s.program.functions
  pub plain : CallsArePlain s
  pub constants : ConstantsAreOfKinds s
  pub faces : (f : ℕ) → is_face s f ≡ true → r.holds f ≡ []
  -- calls of these are events above the cut
  pub lock : is_face s calls.lock ≡ true
  pub unlock : is_face s calls.unlock ≡ true
  -- a mutex is a value of int
  pub mutexes : (f : ℕ) → All (IsValue I32) (r.holds f)

-- what a thread did so far: each function that it reached may run, no pointer and no call from below the cut
-- reached one whose callers hold a mutex, and it locked only what it hadn't locked
pub record RunsWell (r : Guarded) (runs : ℕ → Bool) (p : Marks) (past : List Mark) : Type 0 where
  pub reaches : ReachesKept (λ side f. runs f ≡ true) p past
  pub pointers : ModesKept (λ side f. r.holds f ≡ []) p past
  pub locks : TakesFree calls (reverse past)

-- whatever the thread may do next keeps its locks
abbrev pub LocksAreKept : Guarded → (runs : ℕ → Bool) → Marks → Type 0
LocksAreKept r runs p =
    (past : List Mark) (side : Side) (want : Want) → p past ≡ Expects side want → RunsWell r runs p past →
    KeepsLocks r side (reverse past) want

-- ---- code, and marks of many threads

-- the same of each thread of code
abbrev pub CodeKeepsLocks : Guarded → (runs : ℕ → Bool) → Source → Flat → Type 0
CodeKeepsLocks r runs s code = (t : CType) (sig address : ℕ) (args : List ℕ) → IsSigOf s code t sig →
    LocksAreKept r runs (thread_lists (laid s code) sig address args)

-- a mark after these of the thread, the newest first, answers what the thread wants, which reached so far what
-- may run, and by no pointer a function whose callers hold a mutex
pub record IsMade (r : Guarded) (runs : ℕ → Bool) (p : Marks) (mine : List Mark) (m : Mark) : Type 0 where
  pub side : Side
  pub want : Want
  pub answer : Answer
  pub wanted : p (reverse mine) ≡ Expects side want
  pub answers : reply side want m ≡ Some answer
  pub reaches : ReachesKept (λ side f. runs f ≡ true) p (reverse mine)
  pub pointers : ModesKept (λ side f. r.holds f ≡ []) p (reverse mine)

-- marks of all threads, the newest first, where each thread behaves so
abbrev pub AreMade : Guarded → (runs : ℕ → Bool) → (behaviours : ℕ → Marks) → List Mark → Type 0
AreMade r runs behaviours past =
    AtEach (λ before m. IsMade r runs (behaviours m.thread) (own m.thread before) m) past

-- where mutexes are taken only while no thread holds them, each thread touches what is guarded only with the
-- mutex, and gives back below the cut only what it took there: what ordered accesses ask of each thread
abbrev pub GuardsAreHeld : Guarded → (runs : ℕ → Bool) → (behaviours : ℕ → Marks) → Type 0
GuardsAreHeld r runs behaviours =
    (past : List Mark) → AreMade r runs behaviours past → AtEach (IsExclusive calls) past →
    AtEach (IsKeyed calls) past → AtEach (IsHeld calls (guard_of r)) past

-- so of two accesses above the cut of one guarded global by two threads, the later one's thread knows the
-- earlier one
abbrev pub AccessesAreOrdered : Guarded → (runs : ℕ → Bool) → (behaviours : ℕ → Marks) → Type 0
AccessesAreOrdered r runs behaviours =
    (past : List Mark) (m : Mark) → AreMade r runs behaviours (m ∷ past) →
    AtEach (IsExclusive calls) (m ∷ past) → AtEach (IsKeyed calls) (m ∷ past) → AtEach Rises (m ∷ past) →
    (a : Mark) → In a past → (o k : ℕ) → Touches a o → Touches m o → guard_of r o ≡ Some k →
    m.thread ≢ a.thread → place a < known past (OfThread m.thread) a.thread
