-- The source whose bytes are computed.
use Rattle.std.specs.Prelude.{◌≡◌, ℕ, ◌≤◌, ◌^◌, List, [], length, Option, Some, slice_get}
use Rattle.c_types_rules.specs.Environment.{Struct}
use Rattle.c_types_program.specs.Declarations.{Declared, structs_in}
use Rattle.c_types_program.specs.Programs.{program_in, texts_in}
use Rattle.c_semantics.specs.Context.{Source}
use Rattle.stub_operations.specs.Growing.{IsAdded}
use Rattle.isolation_check_rules.specs.Places.{addresses_of}

-- numbers of 32 bits are enough for the members of each struct
abbrev pub HasPlaces : Declared → Type 0
HasPlaces p = (k : ℕ) (s : Struct) → slice_get (program_in p []).structs k ≡ Some s →
    length s.members ≤ 2 ^ 32

-- it has the structs and strings of the program, and its objects lie at these addresses
pub record IsSource (p : Declared) (strings_at globals_at : List ℕ) (s : Source) : Type 0 where
  pub structs : s.program.structs ≡ structs_in p.table.types p.structs
  pub texts : s.texts ≡ texts_in p.texts
  pub strings : addresses_of s.placed.strings ≡ strings_at
  pub globals : addresses_of s.placed.globals ≡ globals_at

-- bytes of the source were added to others
abbrev pub Adds : Declared → (strings globals : List ℕ) → (bytes : Source → List ℕ) →
    (old new : Option (List ℕ)) → Type 0
Adds p strings globals bytes old new =
    (s : Source) → IsSource p strings globals s → IsAdded old (bytes s) new
