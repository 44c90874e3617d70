use Rattle.std.proofs.Common.{◌≡◌, map, take}
use Rattle.c_types_model.specs.Layouts.{capped_extent}
use Rattle.c_types_table.specs.Tables.{types_of}
use Rattle.c_types_rules.specs.Environment.{extents}
use Rattle.c_types_rules.specs.Sources.{extents_of}
use Rattle.c_types_environment.specs.Reading.{members_by}
use Rattle.c_types_environment.proofs.environment.Environment.layout.Given as goal

abbrev pub invariant-loop-place : goal.invariant-loop-place
invariant-loop-place l = l.extents.items ≡ map capped_extent (take l.place (extents_of (extents l.fn.self.env) (members_by (types_of l.fn.self.table.types) l.fn.members)))
