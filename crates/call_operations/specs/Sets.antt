-- The stubs of a source, for the interface of a cut.
use Rattle.std.specs.Prelude.{◌≡◌, ℕ, ◌+◌, ◌-◌, Bool, false, ◌&&◌, if◌then◌else◌, leb, ltb, List, [], ◌++◌, length, Option, Some, None, is_none, slice_get}
use Rattle.std.specs.Option.{option_map, option_map_or}
use Rattle.c_builtins.specs.Table.{first_source_function}
use Rattle.c_types_program.specs.declared.function.Function.{Function}
use Rattle.annot_reader_words.specs.declared.notes.Annots.{Annots}
use Rattle.annot_reader.specs.Builtins.{builtins_by_number}
use Rattle.annot_reader.specs.Interface.{Interface}
use Rattle.annot_reader.specs.Interfaces.{annots_at, declared_at}
use Rattle.stub_operations.specs.declared.operation.StubOp.{StubOp}
use Rattle.stub_operations.specs.declared.purpose.Purpose.{Purpose}
use Rattle.stub_operations.specs.Builtins.{builtin_operations}
use Rattle.stub_operations.specs.Operations.{operations, operations_below, passed}
use Rattle.stub_operations.specs.Stubs.{Stubs, added_at, below_at}
use Rattle.call_operations.specs.Said.{call_says}

abbrev pub builtin_at : ℕ → List StubOp
builtin_at f = option_map_or builtin_operations (slice_get builtins_by_number f) []

-- what is done at the calls of a function of the interface with these annotations: at those of a builtin
-- what the table says
abbrev pub operations_in : ℕ → Annots → List StubOp
operations_in f a = if ltb f first_source_function then builtin_at f else operations (call_says a)

abbrev pub stubs_of : Purpose → Interface → ℕ → Option (List StubOp)
stubs_of purpose i f = option_map (λ a. operations_in f a ++ passed purpose) (annots_at i f)

-- builtins, and the functions of the source
abbrev pub is_function : List Function → ℕ → Bool
is_function fs f = ltb f (first_source_function + length fs)

abbrev pub has_no_body : Option Function → Bool
has_no_body (Some g) = is_none g.body
has_no_body None = false

-- a function of the source that the source doesn't define
abbrev pub is_external : List Function → ℕ → Bool
is_external fs f = leb first_source_function f && has_no_body (slice_get fs (f - first_source_function))

-- what is done below the cut at an external that is outside the interface
abbrev pub below_of : List Function → Interface → ℕ → Option (List StubOp)
below_of fs i f = if is_external fs f && is_none (annots_at i f)
    then Some (operations_below (call_says (declared_at i f))) else None

-- the set has each function of the interface with what its annotations say, each external outside it below
-- the cut, and no other
pub record AreStubs (purpose : Purpose) (fs : List Function) (i : Interface) (s : Stubs) : Type 0 where
  pub added : (f : ℕ) → added_at s f ≡ (if is_function fs f then stubs_of purpose i f else None)
  pub below : (f : ℕ) → below_at s f ≡ below_of fs i f
