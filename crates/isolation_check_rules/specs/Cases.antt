-- A small source, and where its objects lie.
use Rattle.std.specs.Prelude.{ℕ, [], ◌∷◌, codes}
use Rattle.r2_num.specs.declared.kinds.IntKind.TheVariants.{I64, I8}
use Rattle.memory_map.specs.declared.placed.Place.{Place}
use Rattle.memory_map.specs.declared.placed.Placed.{Placed}
use Rattle.c_types_model.specs.Types.{CType, Integer, StructOf}
use Rattle.c_types_model.specs.Layouts.{struct_of, scalar}
use Rattle.c_types_rules.specs.Environment.{Struct}
use Rattle.c_types_rules.specs.Sources.{Program}
use Rattle.c_semantics.specs.Context.{Source}

-- struct { char c; long n; }
abbrev pub pair : CType
pair = StructOf 0

abbrev pair_definition : Struct
pair_definition = record {
  members = (codes "c", Integer I8) ∷ (codes "n", Integer I64) ∷ [];
  extent = struct_of (scalar 1 ∷ scalar 8 ∷ []);
}

abbrev pair_program : Program
pair_program = record { structs = pair_definition ∷ []; functions = []; globals = []; names = [] }

abbrev object_at : ℕ → Place
object_at addr = record { addr = addr; init = [] }

-- two globals above the cut, and two strings
abbrev pair_placed : Placed
pair_placed = record {
  globals = object_at 0x10000000 ∷ object_at 0x10000008 ∷ [];
  strings = object_at 0x00100000 ∷ object_at 0x00100010 ∷ [];
  replay = [];
  system = [];
  faces = [];
}

-- the strings begin at these offsets of the source
abbrev pub placed_source : Source
placed_source = record { program = pair_program; texts = 20 ∷ 30 ∷ []; placed = pair_placed }
