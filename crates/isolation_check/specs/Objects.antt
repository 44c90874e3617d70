-- The strings and globals of a typed program, at their places.
use Rattle.std.specs.Prelude.{◌≡◌, ℕ, Bool, List, [], map}
use Rattle.memory_map.specs.declared.placed.Place.{Place}
use Rattle.memory_map.specs.declared.placed.Placed.{Placed}
use Rattle.c_semantics.specs.Context.{Source}
use Rattle.c_types_model.specs.declared.extent.Extent.{Extent}
use Rattle.c_types_program.specs.Declarations.{Declared, global_in}
use Rattle.c_types_program.specs.Programs.{program_in}
use Rattle.c_lower_layout.specs.Indexed.{HasNumbers}
use Rattle.isolation_check_rules.specs.declared.area.Area.{Area}
use Rattle.isolation_check_rules.specs.Addresses.{addresses_from, first_ends, string_addresses}
use Rattle.isolation_check_rules.specs.Places.{addresses_of, global_extents, inits, inits_of}
use Rattle.isolation_check_laws.specs.Fits.{FitsAreas}
use Rattle.isolation_check_images.specs.Given.{HasPlaces, IsSource}
use Rattle.isolation_check.specs.Literals.{ended, strings_in}

-- numbers are enough for its parts, and its strings and globals fit in their areas
pub record CanBePlaced (p : Declared) : Type 0 where
  pub numbers : HasNumbers p
  pub places : HasPlaces p
  pub fits : FitsAreas (program_in p []) (strings_in p.texts)

abbrev pub extents_of : Declared → List Extent
extents_of p = global_extents (program_in p [])

-- strings and globals lie where they should, and the globals have these sizes and alignments
pub record IsLayout (p : Declared) (areas : List Area) (strings globals : List ℕ) (extents : List Extent) :
    Type 0 where
  pub strings_at : strings ≡ string_addresses (strings_in p.texts)
  pub globals_at : globals ≡ addresses_from (first_ends (strings_in p.texts)) areas (extents_of p)
  pub sizes : extents ≡ extents_of p

-- they lie where they should, and have the bytes of each source that has the structs and strings of the program and whose objects
-- lie there
pub record AreObjects (p : Declared) (areas : List Area) (strings globals : List Place) : Type 0 where
  pub strings_at : addresses_of strings ≡ string_addresses (strings_in p.texts)
  pub string_bytes : inits_of strings ≡ map ended (strings_in p.texts)
  pub globals_at : addresses_of globals ≡
      addresses_from (first_ends (strings_in p.texts)) areas (extents_of p)
  pub global_bytes : (s : Source) → IsSource p (addresses_of strings) (addresses_of globals) s →
      inits_of globals ≡ inits s (map (global_in p.table) p.globals) (extents_of p)

-- these objects, with these flags of functions
pub record HasParts (strings globals : List Place) (above below faces : List Bool) (q : Placed) : Type 0 where
  pub strings_are : q.strings ≡ strings
  pub globals_are : q.globals ≡ globals
  pub replay_is : q.replay ≡ above
  pub system_is : q.system ≡ below
  pub faces_are : q.faces ≡ faces
