-- Functions that are listed one by one.
use Rattle.std.specs.Prelude.{◌≡◌, ℕ, ◌+◌, List, ◌∷◌, Option}
use Rattle.std.specs.Option.{option_or}
use Rattle.c_types_table.specs.declared.ty.Ty.{Ty}
use Rattle.c_types_program.specs.declared.function.Function.{Function}
use Rattle.annot_reader.specs.Interface.{Interface}
use Rattle.sys_script_lines.specs.declared.externals.External.{External}
use Rattle.sys_script_lines.specs.Externals.{external_named}
use Rattle.sys_script.specs.Externals.{externals_from}

-- what a name has among those so far, and else among those of the functions that are left
abbrev pub named_or_left : List Ty → Interface → (number : ℕ) → List Function → List (List ℕ × External) →
    List ℕ → Option External
named_or_left types i number left es name = option_or (external_named name es)
    (external_named name (externals_from types i number left))

-- the function of this number is listed with those before, whatever is left
abbrev pub IsListed : List Ty → Interface → (number : ℕ) → Function →
    (old new : List (List ℕ × External)) → Type 0
IsListed types i number f old new =
    (left : List Function) (name : List ℕ) → named_or_left types i (number + 1) left new name ≡
    named_or_left types i number (f ∷ left) old name
