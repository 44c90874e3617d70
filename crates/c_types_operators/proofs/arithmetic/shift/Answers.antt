use Rattle.std.proofs.Common.{sym, ◌∙◌, Ok}
use Rattle.c_types_nodes.specs.Tables.{value_at}
use Rattle.c_types_operators.proofs.Rules.{missing, passed, rule, shift_left, shift_right, shift_both, shifted_kinds}
use Rattle.c_types_operators.proofs.arithmetic.shift.Goals as goal

pub returns-in_default-clause-agrees : goal.returns-in_default-clause-agrees
returns-in_default-clause-agrees c =
    let a = value_at c.args.table.now c.args.left in
    let b = value_at c.args.table.now c.args.right in
    rule c.args.table.now _ _ _ (shift_left c.args.from c.args.op a b (sym c.kind_of.ensures ∙ missing c.kind_of.result c.in_default.not-Some))

pub returns-in_default-kind_of-clause-agrees : goal.returns-in_default-kind_of-clause-agrees
returns-in_default-kind_of-clause-agrees c =
    let a = value_at c.args.table.now c.args.left in
    let b = value_at c.args.table.now c.args.right in
    rule c.args.table.now _ _ _ (shift_right c.args.from c.args.op a b c.in-Some.left_kind (sym c.in-Some.ensures) (sym c.kind_of-2.ensures ∙ missing c.kind_of-2.result c.in_default-kind_of.not-Some))

pub on_kinds-requires-clause-kinds : goal.on_kinds-requires-clause-kinds
on_kinds-requires-clause-kinds c = shifted_kinds c.args.op c.promote-left_kind.result c.promote-right_kind.result c.requires.op

pub returns-clause-agrees : goal.returns-clause-agrees
returns-clause-agrees c =
    let a = value_at c.args.table.now c.args.left in
    let b = value_at c.args.table.now c.args.right in
    passed c.on_kinds.new.table _ _ (Ok c.in_ok-on_kinds.field-0) (shift_both c.args.from c.args.op a b c.in-Some.left_kind c.in-Some-kind_of.right_kind c.promote-left_kind.result c.promote-right_kind.result (sym c.in-Some.ensures) (sym c.in-Some-kind_of.ensures) c.promote-left_kind.ensures c.promote-right_kind.ensures) c.in_ok-on_kinds.ensures.added
