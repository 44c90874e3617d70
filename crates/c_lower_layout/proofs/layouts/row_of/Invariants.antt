use Rattle.std.proofs.Common.{◌≡◌, ◌++◌, drop}
use Rattle.c_types_model.specs.Layouts.{end_from, offsets_from}
use Rattle.c_types_program.specs.Declarations.{types_in}
use Rattle.c_lower_layout.specs.Indexed.{extents_at}
use Rattle.c_lower_layout.proofs.layouts.row_of.Given as goal

abbrev pub invariant-loop-id : goal.invariant-loop-id
invariant-loop-id l = record {
  offsets : l.row.offsets.items ++ offsets_from l.row.end (extents_at l.structs (types_in l.types (drop l.id-index l.ids))) ≡ offsets_from 0 (extents_at l.structs (types_in l.types l.ids));
  end : end_from l.row.end (extents_at l.structs (types_in l.types (drop l.id-index l.ids))) ≡ end_from 0 (extents_at l.structs (types_in l.types l.ids));
}
