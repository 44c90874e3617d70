use Rattle.std.proofs.Common.{sym, ◌∙◌, Ok}
use Rattle.c_types_table.specs.Tables.{type_at}
use Rattle.c_types_nodes.specs.Tables.{value_at}
use Rattle.c_types_operators.proofs.Rules.{size_missing, passed, rule, difference_unlike, difference_incomplete, difference_made}
use Rattle.c_types_operators.proofs.pointers.pointer_difference.Goals as goal

pub returns-then-not-are_equal-clause-agrees : goal.returns-then-not-are_equal-clause-agrees
returns-then-not-are_equal-clause-agrees c =
    let t = c.args.table.now in
    rule t _ _ _ (difference_unlike c.args.structs.now c.args.from (type_at t.types c.args.targets.0) (type_at t.types c.args.targets.1) (value_at t c.args.left) (value_at t c.args.right) (sym c.are_equal.ensures ∙ c.if-not-are_equal.true))

pub returns-in_default-clause-agrees : goal.returns-in_default-clause-agrees
returns-in_default-clause-agrees c =
    let t = c.args.table.now in
    rule t _ _ _ (difference_incomplete c.args.structs.now c.args.from (type_at t.types c.args.targets.0) (type_at t.types c.args.targets.1) (value_at t c.args.left) (value_at t c.args.right) (size_missing c.args.structs.now (type_at t.types c.args.targets.0) c.size_of.result c.size_of.ensures c.in_default.not-Some))

pub returns-clause-agrees : goal.returns-clause-agrees
returns-clause-agrees c =
    let t = c.args.table.now in
    passed c.add.new.self _ _ (Ok c.in_ok-add.field-0)
    (difference_made c.args.structs.now c.args.from (type_at t.types c.args.targets.0) (type_at t.types c.args.targets.1) (value_at t c.args.left) (value_at t c.args.right) c.in-Some.size (sym c.are_equal.ensures ∙ c.if-not-are_equal.false) c.in-Some.ensures.0 c.in-Some.ensures.1)
    c.in_ok-add.ensures.added
