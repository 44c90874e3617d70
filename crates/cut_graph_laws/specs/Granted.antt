-- What the functions of a source may do on each side of the cut, and the wants that this grants.
use Rattle.std.specs.Prelude.{◌≡◌, ℕ, Bool, true, false, if◌then◌else◌, List, Some, None}
use Rattle.std.specs.List.{Contains}
use Rattle.marks.specs.declared.side.Side.{Side}
use Rattle.marks.specs.declared.side.Side.TheVariants.{Replay, System}
use Rattle.marks.specs.Marks.{Mark}
use Rattle.marks.specs.Wants.{Want, Outside, Turns, Loads, Stores, Enters, Leaves, Allocs, Frees, Calls, Below, Gives, Returns, CallsBack, UpReturns, Steps, Fails}
use Rattle.c_code.specs.MarkLists.{Expects}
use Rattle.c_types_rules.specs.TypedTree.{Body}
use Rattle.c_semantics.specs.Reading.{Marks}
use Rattle.c_semantics.specs.Context.{Source, body_of, is_face}
use Rattle.c_semantics.specs.Calls.{is_pool}
use Rattle.c_semantics.specs.Arguments.{is_known}
use Rattle.cut_graph_rules.specs.declared.mention.Mention.TheVariants.{Function, Global, Written}
use Rattle.cut_graph_rules.specs.Mentions.{statement_mentions}
use Rattle.cut_graph_reached.specs.Answers.{ModesKept}

-- where functions may run, and on which sides they touch globals and write them by their names
pub record Permits : Type 1 where
  pub may : Side → (func : ℕ) → Type 0
  pub touches : Side → (global : ℕ) → Type 0
  pub writes : Side → (global : ℕ) → Type 0

-- by flags
abbrev pub flagged : (may touches writes : Side → ℕ → Bool) → Permits
flagged may touches writes = record {
  may = λ side f. may side f ≡ true;
  touches = λ side g. touches side g ≡ true;
  writes = λ side g. writes side g ≡ true;
}

-- the side on which a function runs that code on this side calls: replay code calls the interface below the
-- cut
abbrev pub called_side : Side → (face : Bool) → Side
called_side Replay face = if face then System else Replay
called_side System face = System

-- what may run on a side may do there what its body mentions. What may run above the cut and has no body is
-- of the interface, or of the pool
pub record Grants (s : Source) (p : Permits) : Type 0 where
  pub names : (side : Side) (f : ℕ) (b : Body) → body_of s f ≡ Some b → p.may side f →
      (h : ℕ) → Contains (statement_mentions b.statements) (Function h) →
      p.may (called_side side (is_face s h)) h
  pub touched : (side : Side) (f : ℕ) (b : Body) → body_of s f ≡ Some b → p.may side f →
      (g : ℕ) → Contains (statement_mentions b.statements) (Global g) → p.touches side g
  pub written : (side : Side) (f : ℕ) (b : Body) → body_of s f ≡ Some b → p.may side f →
      (g : ℕ) → Contains (statement_mentions b.statements) (Written g) → p.writes side g
  pub externals : (f : ℕ) → is_known s f ≡ true → p.may Replay f → body_of s f ≡ None →
      is_pool Replay f ≡ false → is_face s f ≡ true

-- above the cut a builtin or external that makes no event comes only from a pointer to one that may not run
-- there
abbrev pub StepGranted : Source → Permits → Side → (indirect : Bool) → (func : ℕ) → Type 0
StepGranted s p Replay indirect f = is_known s f ≡ true → (indirect ≡ true) × (p.may Replay f → ⊥)
StepGranted s p System indirect f = indirect ≡ false → p.may System f

-- code may want this on a side. Of what a pointer's value chooses nothing is said
abbrev pub WantGranted : Source → Permits → Side → Want → Type 0
WantGranted s p side (Loads origin at width) = (g : ℕ) → origin ≡ Some g → p.touches side g
WantGranted s p side (Stores origin at bytes) =
    (g : ℕ) → origin ≡ Some g → p.touches side g × p.writes side g
WantGranted s p side (Enters indirect f args bytes) = indirect ≡ false → p.may side f
WantGranted s p side (Calls indirect f args) = indirect ≡ false → p.may System f
WantGranted s p side (Steps indirect f args) = StepGranted s p side indirect f
WantGranted s p side Outside = Unit {0}
WantGranted s p side Turns = Unit {0}
WantGranted s p side (Leaves at size) = Unit {0}
WantGranted s p side (Allocs size) = Unit {0}
WantGranted s p side (Frees at) = Unit {0}
WantGranted s p side (Below f args) = Unit {0}
WantGranted s p side (Gives f args) = Unit {0}
WantGranted s p side (Returns f args result) = Unit {0}
WantGranted s p side (CallsBack f args bytes) = Unit {0}
WantGranted s p side (UpReturns f result) = Unit {0}
WantGranted s p side (Fails kind) = Unit {0}

-- while pointers keep to the modes, what may come next is granted
abbrev pub WantsAreGranted : Source → Permits → Marks → Type 0
WantsAreGranted s p behaviour =
    (past : List Mark) (side : Side) (want : Want) → behaviour past ≡ Expects side want →
    ModesKept p.may behaviour past → WantGranted s p side want
