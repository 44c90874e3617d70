-- That strings and globals lie in their areas.
use Rattle.std.specs.Prelude.{◌≡◌, ℕ, ◌+◌, ◌*◌, ◌≤◌, ◌<◌, List, [], ◌∷◌, length}
use Rattle.std.specs.List.{All}
use Rattle.source_limits.specs.Limits.{greatest_object}
use Rattle.c_lexer_laws.specs.Strings.{spelled}
use Rattle.marks.specs.Places.{alignment, constants, replay_globals, system_globals}
use Rattle.c_types_model.specs.declared.extent.Extent.{Extent}
use Rattle.c_types_rules.specs.Limits.{globals_end}
use Rattle.c_types_rules.specs.Sources.{Program}
use Rattle.isolation_check_rules.specs.declared.area.Area.{Area}
use Rattle.isolation_check_rules.specs.declared.area.Area.TheVariants as areas
use Rattle.isolation_check_rules.specs.Addresses.{strings_end}
use Rattle.isolation_check_rules.specs.Places.{global_extents}

-- blocks can begin at its multiples
pub record Divides (x : Extent) : Type 0 where
  pub some : 0 < x.align
  pub times : ℕ
  pub whole : times * x.align ≡ alignment

-- objects of these sizes, at these addresses, lie each between two addresses of its area
abbrev pub AreBetween : (first last : Area → ℕ) → List Area → List Extent → (addresses : List ℕ) → Type 0
AreBetween first last [] xs ats = Unit {0}
AreBetween first last (a ∷ rest) [] ats = Unit {0}
AreBetween first last (a ∷ rest) (x ∷ xs) [] = Unit {0}
AreBetween first last (a ∷ rest) (x ∷ xs) (at ∷ ats) = (first a ≤ at) × (at + x.size ≤ last a) ×
    AreBetween first last rest xs ats

-- the addresses from which and up to which globals lie
abbrev pub first_in : (strings : List (List ℕ)) → Area → ℕ
first_in strings areas.Constants = strings_end strings
first_in strings areas.Replay = replay_globals
first_in strings areas.System = system_globals

-- the constants end before the replay globals begin
abbrev pub last_in : Area → ℕ
last_in areas.Constants = 0x0fffffff
last_in areas.Replay = replay_globals + greatest_object
last_in areas.System = system_globals + greatest_object

-- strings of these bytes, at these addresses, lie among the constants, before this address
abbrev pub AreStrings : (last : ℕ) → List (List ℕ) → (addresses : List ℕ) → Type 0
AreStrings last [] ats = Unit {0}
AreStrings last (bytes ∷ rest) [] = Unit {0}
AreStrings last (bytes ∷ rest) (at ∷ ats) =
    (constants ≤ at) × (at + (length bytes + 1) ≤ last) × AreStrings last rest ats

-- strings that stand in a source of 1 MiB at most, and globals that would all fit in one area
pub record FitsAreas (p : Program) (strings : List (List ℕ)) : Type 0 where
  pub short : spelled strings ≤ greatest_object
  pub small : globals_end p ≤ greatest_object
  pub aligned : All Divides (global_extents p)
