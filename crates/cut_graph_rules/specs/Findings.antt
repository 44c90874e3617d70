-- What is wrong with a cut: globals that both sides share, and externals that are named above.
use Rattle.std.specs.Prelude.{◌≡◌, ◌↔◌, ℕ, ◌-◌, ◌≤◌, Bool, false, List, ◌++◌, map, codes, Option, Some, None, slice_get}
use Rattle.std.specs.Ordering.{nat_cmp}
use Rattle.std.specs.Cmp.Lexicographic.{slice_cmp}
use Rattle.std.specs.List.Sorted.{IsSorted}
use Rattle.std.specs.List.{Contains}
use Rattle.marks.specs.declared.side.Side.{Side}
use Rattle.marks.specs.declared.side.Side.TheVariants.{Replay, System}
use Rattle.c_builtins.specs.Table.{first_source_function}
use Rattle.c_types_rules.specs.Sources as sources
use Rattle.c_types_rules.specs.Sources.{Program}
use Rattle.cut_graph_rules.specs.declared.mention.Mention.{Mention}
use Rattle.cut_graph_rules.specs.declared.mention.Mention.TheVariants.{Global, Written}
use Rattle.cut_graph_rules.specs.Sources.{mentions_of}
use Rattle.cut_graph_rules.specs.MayRun.{MayRun, Names, mentions_in}

-- what is wrong, by names
pub data Finding : Type 0 where
  -- a global, and the first functions by number that mention it above the cut and below it
  Shared : (global above below : List ℕ) → Finding
  -- a function outside the interface and without a body, and one that names it above the cut
  Above : (external caller : List ℕ) → Finding

-- a cut of a source: its program, its interface, and the number of `main`
pub record Cut : Type 0 where
  pub program : Program
  pub face : ℕ → Bool
  pub main : ℕ

abbrev pub May : Cut → Side → ℕ → Type 0
May c side f = MayRun (mentions_of c.program) c.face c.main side f

abbrev pub Mentions : Cut → (f : ℕ) → Mention → Type 0
Mentions c f m = Contains (mentions_in (mentions_of c.program) f) m

-- a function that may run on this side mentions the global
pub record IsTouching (c : Cut) (side : Side) (place f : ℕ) : Type 0 where
  pub runs : May c side f
  pub mentions : Mentions c f (Global place)

-- no function with a lower number does
pub record IsFirst (c : Cut) (side : Side) (place f : ℕ) : Type 0 where
  pub touches : IsTouching c side place f
  pub least : (h : ℕ) → IsTouching c side place h → f ≤ h

-- a function that may run on some side writes the global
pub record IsWritten (c : Cut) (place : ℕ) : Type 0 where
  pub side : Side
  pub by : ℕ
  pub runs : May c side by
  pub writes : Mentions c by (Written place)

abbrev pub function_of : Program → (number : ℕ) → Option sources.Function
function_of p number = slice_get p.functions (number - first_source_function)

-- the function of this number is declared with this name
pub record IsNamed (p : Program) (number : ℕ) (name : List ℕ) : Type 0 where
  pub function : sources.Function
  pub of_source : first_source_function ≤ number
  pub declared : function_of p number ≡ Some function
  pub named : function.name ≡ name

-- the function of this number is an external: it has no body, and the system file answers it
pub record IsExternal (p : Program) (number : ℕ) (name : List ℕ) : Type 0 where
  pub function : sources.Function
  pub of_source : first_source_function ≤ number
  pub declared : function_of p number ≡ Some function
  pub named : function.name ≡ name
  pub without_body : function.body ≡ None

pub record IsGlobal (p : Program) (place : ℕ) (name : List ℕ) : Type 0 where
  pub global : sources.Global
  pub declared : slice_get p.globals place ≡ Some global
  pub named : global.name ≡ name

pub data IsFinding (c : Cut) : Finding → Type 0 where
  is_shared : {place a b : ℕ} {name above below : List ℕ} → IsGlobal c.program place name →
      IsFirst c Replay place a → IsFirst c System place b → IsWritten c place →
      IsNamed c.program a above → IsNamed c.program b below → IsFinding c (Shared name above below)
  is_above : {e f : ℕ} {name caller : List ℕ} → IsExternal c.program e name → c.face e ≡ false →
      May c Replay f → Names (mentions_of c.program) f e → IsNamed c.program f caller →
      IsFinding c (Above name caller)

-- nothing is wrong
abbrev pub IsAccepted : Cut → Type 0
IsAccepted c = (x : Finding) → IsFinding c x → ⊥

-- its line, without the line end
abbrev pub line_of : Finding → List ℕ
line_of (Shared global above below) =
    codes "shared " ++ (global ++ (codes " " ++ (above ++ (codes " " ++ below))))
line_of (Above external caller) = codes "above " ++ (external ++ (codes " " ++ caller))

-- all that is wrong, each once, its lines in the order of bytes
pub record AreFindings (c : Cut) (xs : List Finding) : Type 0 where
  pub exact : (x : Finding) → Contains xs x ↔ IsFinding c x
  pub sorted : IsSorted (slice_cmp nat_cmp) (map line_of xs)
  pub once : (i j : ℕ) (x : Finding) → slice_get xs i ≡ Some x → slice_get xs j ≡ Some x → i ≡ j
