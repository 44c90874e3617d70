use Rattle.std.proofs.Common.{◌+◌, ◌<◌, ◌^◌, drop, length, map, sym, subst, arith}
use Rattle.std.specs.Int.{next_multiple_of}
use Rattle.marks.specs.Places.{alignment}
use Rattle.c_types_model.specs.Layouts.{end_from}
use Rattle.c_types_model.specs.declared.extent.Extent.{Extent}
use Rattle.isolation_check_rules.specs.Addresses.{string_extent}
use Rattle.isolation_check.specs.Literals.{strings_in}
use Rattle.isolation_check.proofs.Places.{string_fits}
use Rattle.isolation_check.proofs.strings.string_row.Goals as goal

pub extent-requires : goal.extent-requires
extent-requires c =
    let k = c.loop-text.text-index in
    let end = c.loop-text.row.end in
    let rest : end_from end (map string_extent (strings_in (drop k c.args.texts.now))) < 2 ^ 64 = omega (arith, c.loop-text.invariant.end, c.requires) in
    let fits : next_multiple_of end alignment + (length c.text-item.result.bytes + 1) < 2 ^ 64 = string_fits end c.args.texts.now k c.text-item.result (omega arith) c.text-item.is rest in
    omega (arith, fits)

pub add-requires : goal.add-requires
add-requires c =
    let k = c.loop-text.text-index in
    let end = c.loop-text.row.end in
    let rest : end_from end (map string_extent (strings_in (drop k c.args.texts.now))) < 2 ^ 64 = omega (arith, c.loop-text.invariant.end, c.requires) in
    subst (λ (e : Extent). next_multiple_of end e.align + e.size < 2 ^ 64) (sym c.extent.ensures)
    (string_fits end c.args.texts.now k c.text-item.result (omega arith) c.text-item.is rest)
