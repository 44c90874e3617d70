-- The functions of a program without a body, which a system file answers.
use Rattle.std.specs.Prelude.{ℕ, ◌+◌, ◌-◌, ◌^◌, if◌then◌else◌, List, [], ◌∷◌, is_some, Option, Some, None, count_by, unsigned_abs}
use Rattle.r2_num.specs.declared.kinds.IntKind.{IntKind}
use Rattle.r2_num.specs.Kinds.{least, greatest}
use Rattle.c_types_model.specs.Types.{CType, Void, Integer, PointerTo, ArrayOf, StructOf, UndefinedStruct, FunctionOf}
use Rattle.c_types_table.specs.declared.ty.Ty.{Ty}
use Rattle.c_types_table.specs.Tables.{type_at}
use Rattle.c_types_program.specs.declared.function.Function.{Function}
use Rattle.c_types_program.specs.Declarations.{Declared}
use Rattle.c_builtins.specs.Table.{first_source_function}
use Rattle.annot_reader_words.specs.declared.notes.Annots.{Annots}
use Rattle.annot_reader.specs.Interface.{Interface}
use Rattle.annot_reader.specs.Interfaces.{declared_at}
use Rattle.sys_script_lines.specs.declared.externals.External.{External}
use Rattle.sys_script_lines.specs.Externals.{external_named}

-- how far below 0 the values of a kind lie, and the greatest one
abbrev pub kind_range : IntKind → ℕ × ℕ
kind_range k = (unsigned_abs (least k), unsigned_abs (greatest k))

-- the same of a result: an address is a number without a sign, and what is no value is 0
abbrev pub range_of : CType → ℕ × ℕ
range_of Void = (0, 0)
range_of (Integer k) = kind_range k
range_of (PointerTo t) = (0, 2 ^ 64 - 1)
range_of (ArrayOf n t) = (0, 0)
range_of (StructOf n) = (0, 0)
range_of (UndefinedStruct tag) = (0, 0)
range_of (FunctionOf r ps) = (0, 0)

-- the same of the result of a function of this type
abbrev pub result_range : CType → ℕ × ℕ
result_range Void = (0, 0)
result_range (Integer k) = (0, 0)
result_range (PointerTo t) = (0, 0)
result_range (ArrayOf n t) = (0, 0)
result_range (StructOf n) = (0, 0)
result_range (UndefinedStruct tag) = (0, 0)
result_range (FunctionOf r ps) = range_of r

-- one piece for each parameter that is written, and one for what is released
abbrev pub pieces_of : Annots → ℕ
pieces_of a = count_by (λ p. is_some p.writes) a.params + (if is_some a.commit then 1 else 0)

-- what an answer of a function looks like, whatever the cut
abbrev pub external_of : List Ty → Interface → (number : ℕ) → Function → External
external_of types i number f = record {
  func = number;
  below = (result_range (type_at types f.ty)).0;
  most = (result_range (type_at types f.ty)).1;
  pieces = pieces_of (declared_at i number);
}

-- the functions without a body, of a list whose first has this number
abbrev pub externals_from : List Ty → Interface → (number : ℕ) → List Function → List (List ℕ × External)
externals_from types i number [] = []
externals_from types i number (f ∷ fs) =
    if is_some f.body then externals_from types i (number + 1) fs
    else (f.name, external_of types i number f) ∷ externals_from types i (number + 1) fs

abbrev pub externals_in : Declared → Interface → List (List ℕ × External)
externals_in p i = externals_from p.table.types i first_source_function p.functions

-- the function without a body of a name
abbrev pub external_in : Declared → Interface → List ℕ → Option External
external_in p i name = external_named name (externals_in p i)
