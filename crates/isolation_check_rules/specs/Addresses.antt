-- Where objects lie in the areas: one row in each, in the order of the source.
use Rattle.std.specs.Prelude.{ℕ, ◌+◌, List, [], ◌∷◌, length, map}
use Rattle.std.specs.Int.{next_multiple_of}
use Rattle.marks.specs.Places.{alignment, constants, replay_globals, system_globals}
use Rattle.c_types_model.specs.Layouts.{end_from, offsets_from}
use Rattle.c_types_model.specs.declared.extent.Extent.{Extent}
use Rattle.isolation_check_rules.specs.declared.area.Area.{Area}
use Rattle.isolation_check_rules.specs.declared.area.Area.TheVariants as areas
use Rattle.isolation_check_rules.specs.declared.area.Ends.{Ends}

-- ---- strings, which come first among the constants

-- its bytes and a zero (C11 6.4.5, 6)
abbrev pub string_extent : (bytes : List ℕ) → Extent
string_extent bytes = record { size = length bytes + 1; align = alignment }

abbrev pub string_addresses : List (List ℕ) → List ℕ
string_addresses strings = offsets_from constants (map string_extent strings)

abbrev pub strings_end : List (List ℕ) → ℕ
strings_end strings = end_from constants (map string_extent strings)

-- ---- globals

abbrev pub end_in : Ends → Area → ℕ
end_in e areas.Constants = e.constants
end_in e areas.Replay = e.replay
end_in e areas.System = e.system

abbrev pub with_end : Ends → Area → ℕ → Ends
with_end e areas.Constants end = record e { constants = end }
with_end e areas.Replay end = record e { replay = end }
with_end e areas.System end = record e { system = end }

-- where the row of each area begins
abbrev pub first_ends : (strings : List (List ℕ)) → Ends
first_ends strings = record {
  constants = strings_end strings;
  replay = replay_globals;
  system = system_globals;
}

-- each at the next multiple of its alignment after what its area has so far
abbrev pub addresses_from : Ends → List Area → List Extent → List ℕ
addresses_from e [] xs = []
addresses_from e (a ∷ rest) [] = []
addresses_from e (a ∷ rest) (x ∷ xs) = let at = next_multiple_of (end_in e a) x.align in at ∷
    addresses_from (with_end e a (at + x.size)) rest xs
