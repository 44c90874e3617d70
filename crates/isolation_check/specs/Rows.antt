-- Globals in the rows of their areas, by the numbers of their types.
use Rattle.std.specs.Prelude.{ℕ, ◌+◌, ◌<◌, ◌^◌, List, [], ◌∷◌, map}
use Rattle.std.specs.Int.{next_multiple_of}
use Rattle.std.specs.List.{All}
use Rattle.c_types_model.specs.Types.{CType}
use Rattle.c_types_model.specs.declared.extent.Extent.{Extent}
use Rattle.c_types_table.specs.declared.ty.Ty.{Ty}
use Rattle.c_types_table.specs.Tables.{IsBelow, type_at}
use Rattle.c_types_program.specs.declared.global.Global.{Global}
use Rattle.isolation_check_rules.specs.declared.area.Area.{Area}
use Rattle.isolation_check_rules.specs.declared.area.Ends.{Ends}
use Rattle.isolation_check_rules.specs.Addresses.{end_in, with_end}

abbrev pub global_types : List Ty → List Global → List CType
global_types types gs = map (λ g. type_at types g.ty) gs

-- their types are among the first n of a table
abbrev pub AreGlobalsBelow : ℕ → List Global → Type 0
AreGlobalsBelow n gs = All (λ g. IsBelow n g.ty) gs

-- 64 bits are enough for their sizes
abbrev pub AreSmall : List Extent → Type 0
AreSmall xs = All (λ x. x.size < 2 ^ 64) xs

-- each has an alignment, and ends within 64 bits
abbrev pub AllEnd : Ends → List Area → List Extent → Type 0
AllEnd e [] xs = Unit {0}
AllEnd e (a ∷ rest) [] = Unit {0}
AllEnd e (a ∷ rest) (x ∷ xs) = let end = next_multiple_of (end_in e a) x.align + x.size in
    (0 < x.align) × (end < 2 ^ 64) × AllEnd (with_end e a end) rest xs
