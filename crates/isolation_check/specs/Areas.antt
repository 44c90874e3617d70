-- The area of a global, by the first functions that mention it and write it.
use Rattle.std.specs.Prelude.{ℕ, Bool, List, Option, Some, None}
use Rattle.c_builtins.specs.Table.{first_source_function}
use Rattle.cut_graph_rules.specs.declared.mention.Mention.{Mention}
use Rattle.isolation_check_rows.specs.declared.kind.MentionKind.TheVariants as kinds
use Rattle.isolation_check_rows.specs.declared.sides.Counts.TheVariants as counting
use Rattle.isolation_check_rows.specs.Rows.{counts, first_from}
use Rattle.isolation_check_rules.specs.declared.area.Area.{Area}
use Rattle.isolation_check_rules.specs.declared.area.Area.TheVariants.{Constants, Replay, System}

-- by a function that mentions it above the cut, one below it, and one that writes it
abbrev pub area_of : (above below written : Option ℕ) → Area
area_of above None written = Replay
area_of None (Some b) written = System
area_of (Some a) (Some b) None = Constants
area_of (Some a) (Some b) (Some w) = Replay

-- that of the global at a place
abbrev pub area_at : (functions : List (List Mention)) → (above below : List Bool) → (place : ℕ) → Area
area_at functions above below place = area_of
    (first_from kinds.Global (counts above below counting.Above) place first_source_function functions)
    (first_from kinds.Global (counts above below counting.Below) place first_source_function functions)
    (first_from kinds.Written (counts above below counting.Either) place first_source_function functions)
