use Rattle.std.proofs.Common.{◌+◌, ◌<◌, ◌^◌, drop, sym, subst, arith}
use Rattle.std.specs.Int.{next_multiple_of}
use Rattle.c_types_model.specs.Layouts.{end_from}
use Rattle.c_types_model.specs.declared.extent.Extent.{Extent}
use Rattle.c_types_table.specs.declared.ids.TypeId.{TypeId}
use Rattle.c_types_program.specs.Declarations.{types_in}
use Rattle.c_lower_layout.specs.Indexed.{extents_at}
use Rattle.c_lower_layout.proofs.Rows.{next_fits, size_fits}
use Rattle.c_lower_layout.proofs.layouts.row_of.Goals as goal

abbrev none : TypeId
none = record { 0 = 0 }

pub extent-requires-clause-small : goal.extent-requires-clause-small
extent-requires-clause-small c =
    let k = c.loop-id.id-index in
    let row = c.loop-id.row in
    let rest : end_from row.end (extents_at c.args.structs.now (types_in c.args.types.now (drop k c.args.ids.now))) < 2 ^ 64 = omega (arith, c.loop-id.invariant.end, c.requires.small) in
    size_fits c.args.structs.now c.args.types.now c.args.ids.now k row.end none c.loop-id-test.true rest

pub add-requires : goal.add-requires
add-requires c =
    let k = c.loop-id.id-index in
    let row = c.loop-id.row in
    let rest : end_from row.end (extents_at c.args.structs.now (types_in c.args.types.now (drop k c.args.ids.now))) < 2 ^ 64 = omega (arith, c.loop-id.invariant.end, c.requires.small) in
    subst (λ (e : Extent). next_multiple_of row.end e.align + e.size < 2 ^ 64) (sym c.extent.ensures)
    (next_fits c.args.structs.now c.args.types.now c.args.ids.now k row.end none c.loop-id-test.true rest)
