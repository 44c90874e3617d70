use Rattle.std.proofs.Common.{◌≡◌, ◌++◌, drop}
use Rattle.c_types_table.specs.Tables.{all_at, types_of}
use Rattle.c_semantics.specs.Context.{shapes_of}
use Rattle.c_lower.proofs.shapes.shapes.Given as goal

abbrev pub invariant-loop-id : goal.invariant-loop-id
invariant-loop-id l = l.shapes.items ++ shapes_of (all_at (types_of l.types) (drop l.id-index l.ids)) ≡ shapes_of (all_at (types_of l.types) l.ids)
