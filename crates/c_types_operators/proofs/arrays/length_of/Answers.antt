use Rattle.std.proofs.Common.{◌≤ℤ◌, pos, sym, rules}
use Rattle.c_types_nodes.specs.Tables.{value_at}
use Rattle.c_types_operators.proofs.Lengths.{constant_is_small}
use Rattle.c_types_operators.proofs.arrays.length_of.Goals as goal

pub overflow_cast-result : goal.overflow_cast-result
overflow_cast-result c =
    let high : c.in-Some.constant ≤ℤ pos 18446744073709551615 = constant_is_small (value_at c.args.table.now c.args.value) c.in-Some.constant (sym c.in-Some.ensures.value) c.in-Some.ensures.range in
    let low = c.if-constant-lt1.false in
    search rules
