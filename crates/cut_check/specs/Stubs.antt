-- The stubs of a source, by what its annotations say.
use Rattle.std.specs.Prelude.{ℕ, ◌+◌, ◌-◌, nat_lt, if◌then◌else◌, List, [], ◌++◌, length, map, Option, Some, None, slice_get}
use Rattle.std.specs.List.{range_with_len}
use Rattle.c_builtins.specs.declared.builtin.Builtin.{Builtin}
use Rattle.c_builtins.specs.Table.{first_source_function, name_of}
use Rattle.c_types_rules.specs.Sources.{Function, Program}
use Rattle.annot_reader_rules.specs.Notes.{Annotated}
use Rattle.annot_reader.specs.Builtins.{builtins_by_number}
use Rattle.stub_operations.specs.declared.operation.StubOp.{StubOp}
use Rattle.stub_operations.specs.declared.purpose.Purpose.{Purpose}
use Rattle.stub_operations.specs.declared.purpose.Purpose.TheVariants.{Record, Replay}
use Rattle.stub_operations.specs.Operations.{word_of}
use Rattle.call_operations.specs.Sets.{stubs_of}
use Rattle.stub_texts.specs.Texts.{texts_from}
use Rattle.cut_check.specs.Sources.{Says}
use Rattle.cut_check.specs.Interfaces.{interface_of}

-- ---- names of functions, by number

abbrev pub builtin_name : Option Builtin → List ℕ
builtin_name (Some b) = name_of b
builtin_name None = []

abbrev pub function_name : Option Function → List ℕ
function_name (Some f) = f.name
function_name None = []

abbrev pub names_of : Program → (number : ℕ) → List ℕ
names_of p number =
    if nat_lt number first_source_function then builtin_name (slice_get builtins_by_number number)
    else function_name (slice_get p.functions (number - first_source_function))

-- ---- stubs

-- those of all functions, by number; a function outside the interface has none
abbrev pub stubs_by_number : Purpose → (cut : List ℕ) → Program → Annotated → List (Option (List StubOp))
stubs_by_number purpose cut p a = map (stubs_of purpose (interface_of cut a))
    (range_with_len 0 (first_source_function + length p.functions))

abbrev pub stubs_text : Purpose → (cut : List ℕ) → Program → Annotated → List ℕ
stubs_text purpose cut p a = texts_from (word_of purpose) (names_of p) 0 (stubs_by_number purpose cut p a)

-- the stubs of a right source: those of a recording, and then those of a replay
pub data StubsText (bytes cut : List ℕ) : List ℕ → Type 0 where
  of_source : {p : Program} {a : Annotated} → Says bytes cut p a →
      StubsText bytes cut (stubs_text Record cut p a ++ stubs_text Replay cut p a)
