-- What vectors of values stand for.
use Rattle.std.proofs.Common.{◌≡◌, Vec, Global, refl, ap, rules}
use mathlib.Core.Former.{Count}
use Rattle.c_types_rules.specs.Initials as initials
use Rattle.c_types_program.specs.declared.global.Initial.{Initial, Row_of-Initial, end_of-Initial, more_of-Initial, items-the_row-Initial}
use Rattle.c_types_program.specs.declared.global.Initial.TheVariants.{Listed}
use Rattle.c_types_program.specs.declared.global.Initial.TheViews.{the_lemmas}
use Rattle.c_types_program.specs.Declarations.{initial_in, initials_in, row_in}

-- values in a vector, as a list
pub row_is_list : {m : Count} (xs : Row_of-Initial m) → row_in xs ≡ initials_in (items-the_row-Initial m xs)
row_is_list end_of-Initial = refl
row_is_list (more_of-Initial x xs) = ap (initials.MoreInitials (initial_in x)) (row_is_list xs)

pub listed_means : (v : Vec Initial Global) → initial_in (Listed v) ≡ initials.Listed (initials_in v.items)
listed_means v = search (rules, the_lemmas, row_is_list)
