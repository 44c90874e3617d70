-- The bytes of the elements or members that are given of an object.
use Rattle.std.specs.Prelude.{ℕ, List, []}
use Rattle.c_types_model.specs.Types.{CType, Void, Integer, PointerTo, ArrayOf, StructOf, UndefinedStruct, FunctionOf}
use Rattle.c_types_rules.specs.Initials.{Initials, types_in}
use Rattle.c_semantics.specs.Context.{Source}
use Rattle.isolation_check_rules.specs.Images.{elements, members}

-- those of a type; other types have none
abbrev pub listed : Source → Initials → CType → List ℕ
listed s xs (ArrayOf n t) = elements s xs t
listed s xs (StructOf number) = members s xs number (types_in s.program.structs number) 0 0
listed s xs Void = []
listed s xs (Integer k) = []
listed s xs (PointerTo t) = []
listed s xs (UndefinedStruct tag) = []
listed s xs (FunctionOf r ts) = []
