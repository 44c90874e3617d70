-- Findings as they are found, one after another.
use Rattle.std.specs.Prelude.{◌≡◌, ◌⊎◌, ℕ, ◌+◌, ◌-◌, ◌<◌, Bool, true, false, ◌&&◌, not, List, [], map, is_some, Option, Some, None, slice_get}
use Rattle.std.specs.List.{All, Contains}
use Rattle.c_builtins.specs.Table.{first_source_function}
use Rattle.c_types_program.specs.declared.function.Function.{Function}
use Rattle.c_types_program.specs.declared.global.Global.{Global}
use Rattle.c_types_program.specs.Declarations.{Declared}
use Rattle.cut_graph_rules.specs.declared.mention.Mention.{Mention}
use Rattle.cut_graph_rules.specs.Sources.{Mentioned}
use Rattle.cut_graph_rules.specs.MayRun.{Names}
use Rattle.cut_graph_rules.specs.Findings as rules
use Rattle.cut_graph_rules.specs.Findings.{Shared, Above, line_of}
use Rattle.isolation_check_rows.specs.declared.kind.MentionKind.TheVariants as kinds
use Rattle.isolation_check_rows.specs.declared.sides.Counts.TheVariants as counting
use Rattle.isolation_check_rows.specs.Rows.{counts, first_from, flag}
use Rattle.isolation_check_findings.specs.declared.finding.Cause.{Cause}
use Rattle.isolation_check_findings.specs.declared.finding.Cause.TheVariants as causes
use Rattle.isolation_check_findings.specs.declared.finding.Finding.{Finding}

-- ---- what they stand for

abbrev pub cause_of : Cause → rules.Finding
cause_of (causes.Shared global above below) = Shared global.now above.now below.now
cause_of (causes.Above external caller) = Above external.now caller.now

abbrev pub finding_of : Finding → rules.Finding
finding_of x = cause_of x.cause

abbrev pub HasLine : Finding → Type 0
HasLine x = x.line.items ≡ line_of (finding_of x)

-- ---- names

abbrev pub name_or : Option Function → List ℕ
name_or (Some f) = f.name
name_or None = []

abbrev pub function_name : Declared → (number : ℕ) → List ℕ
function_name p number = name_or (slice_get p.functions (number - first_source_function))

abbrev pub global_name_or : Option Global → List ℕ
global_name_or (Some g) = g.name
global_name_or None = []

abbrev pub global_name : Declared → (place : ℕ) → List ℕ
global_name p place = global_name_or (slice_get p.globals place)

-- ---- lists of findings

-- those that hold are added, each with its line
pub record Adds (P : rules.Finding → Type 0) (old new : List Finding) : Type 0 where
  pub sound : (x : rules.Finding) → Contains (map finding_of new) x → Contains (map finding_of old) x ⊎ P x
  pub kept : (x : rules.Finding) → Contains (map finding_of old) x → Contains (map finding_of new) x
  pub complete : (x : rules.Finding) → P x → Contains (map finding_of new) x
  pub lines : All HasLine old → All HasLine new

-- it holds at a place below n
abbrev pub IsBelow : (n : ℕ) → (P : ℕ → rules.Finding → Type 0) → rules.Finding → Type 0
IsBelow n P x = (k : ℕ) × (k < n) × P k x

-- ---- globals

-- what the first functions that mention a global above and below, and the first that writes it, say of it
pub record SharedBy (p : Declared) (place : ℕ) (above below written : Option ℕ)
    (x : rules.Finding) : Type 0 where
  pub a : ℕ
  pub b : ℕ
  pub w : ℕ
  pub has_above : above ≡ Some a
  pub has_below : below ≡ Some b
  pub has_written : written ≡ Some w
  pub is : x ≡ Shared (global_name p place) (function_name p a) (function_name p b)

abbrev pub IsSharedAt : Declared → List (List Mention) → (above below : List Bool) → (place : ℕ) →
    rules.Finding → Type 0
IsSharedAt p functions above below place x = SharedBy p place
    (first_from kinds.Global (counts above below counting.Above) place first_source_function functions)
    (first_from kinds.Global (counts above below counting.Below) place first_source_function functions)
    (first_from kinds.Written (counts above below counting.Either) place first_source_function functions) x

-- ---- externals

abbrev pub has_no_body : Option Function → Bool
has_no_body (Some f) = not (is_some f.body)
has_no_body None = false

-- the function at a place has no body and isn't in the interface
abbrev pub is_outside : Declared → (faces : List Bool) → (place : ℕ) → Bool
is_outside p faces place =
    has_no_body (slice_get p.functions place) && not (flag faces (first_source_function + place))

-- where the function at one place names, or doesn't name, the one at another
pub record AboveBy (p : Declared) (faces : List Bool) (names : Bool) (caller external : ℕ)
    (x : rules.Finding) : Type 0 where
  pub named : names ≡ true
  pub outside : is_outside p faces external ≡ true
  pub is : x ≡ Above (function_name p (first_source_function + external))
      (function_name p (first_source_function + caller))

pub record IsAboveAt (p : Declared) (n : Mentioned) (faces : List Bool) (caller external : ℕ)
    (x : rules.Finding) : Type 0 where
  pub named : Names n (first_source_function + caller) (first_source_function + external)
  pub outside : is_outside p faces external ≡ true
  pub is : x ≡ Above (function_name p (first_source_function + external))
      (function_name p (first_source_function + caller))

-- those that the function at a place names, where it may run above
pub record IsAboveIn (p : Declared) (n : Mentioned) (runs : Bool) (faces : List Bool) (count caller : ℕ)
    (x : rules.Finding) : Type 0 where
  pub may_run : runs ≡ true
  pub external : IsBelow count (IsAboveAt p n faces caller) x

abbrev pub IsAbove : Declared → Mentioned → (above faces : List Bool) → (count caller : ℕ) →
    rules.Finding → Type 0
IsAbove p n above faces count caller x =
    IsAboveIn p n (flag above (first_source_function + caller)) faces count caller x
