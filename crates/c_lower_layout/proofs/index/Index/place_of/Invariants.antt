use Rattle.std.proofs.Common.{◌≡◌, ◌+◌, drop}
use Rattle.c_types_table.specs.Tables.{type_at}
use Rattle.c_lower_layout.specs.Sources.{place_among}
use Rattle.c_lower_layout.specs.Sigs.{declared_types}
use Rattle.c_lower_layout.proofs.index.Index.place_of.Given as goal

abbrev pub invariant-loop-place : goal.invariant-loop-place
invariant-loop-place l =
    l.place + place_among (type_at l.self.table.types l.ty) (declared_types l.self.table.types (drop l.place l.functions))
    ≡ place_among (type_at l.self.table.types l.ty) (declared_types l.self.table.types l.self.functions)
