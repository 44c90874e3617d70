use Rattle.std.proofs.Common.{sym, ap, ◌∙◌, Some, Ok}
use Rattle.c_types_rules.specs.Operators.{to_kind}
use Rattle.c_types_rules.specs.TypedTree.{AValue, Negate}
use Rattle.c_types_nodes.specs.Tables.{value_at}
use Rattle.c_types_nodes.proofs.Growing.{through}
use Rattle.c_types_operators.proofs.Rules.{missing, passed, rule, operand_made, operand_missing}
use Rattle.c_types_operators.proofs.Values.{is_value, value_is}
use Rattle.c_types_operators.proofs.unary.negated.Goals as goal

pub returns-in_default-clause-agrees : goal.returns-in_default-clause-agrees
returns-in_default-clause-agrees c =
    let v = value_at c.args.table.now c.args.value in
    rule c.args.table.now _ _ _ (operand_missing c.args.from Negate v (sym c.kind_of.ensures ∙ missing c.kind_of.result c.in_default.not-Some))

pub add-requires : goal.add-requires
add-requires c =
    let v = value_at c.args.table.now c.args.value in
    record { parts = is_value c.to_kind.new.table c.in_ok-value.value (to_kind c.promote-kind.result v) c.in_ok-value.ensures.added }

pub returns-clause-agrees : goal.returns-clause-agrees
returns-clause-agrees c =
    let v = value_at c.args.table.now c.args.value in
    let same = value_is c.to_kind.new.table c.in_ok-value.value (to_kind c.promote-kind.result v) c.in_ok-value.ensures.added in
    passed c.add.new.self _ _ (Ok c.in_ok-add.field-0)
    (operand_made c.args.from Negate v c.in-Some.kind c.promote-kind.result (sym c.in-Some.ensures) c.promote-kind.ensures)
    (c.in_ok-add.ensures.added ∙ ap (λ w. Some (AValue (Negate c.promote-kind.result w))) same)

pub returns-in_err-add-clause-kept : goal.returns-in_err-add-clause-kept
returns-in_err-add-clause-kept c = through c.args.table.now c.to_kind.new.table c.add.new.self c.to_kind.ensures.kept c.add.ensures.kept

pub returns-clause-kept : goal.returns-clause-kept
returns-clause-kept c = through c.args.table.now c.to_kind.new.table c.add.new.self c.to_kind.ensures.kept c.add.ensures.kept
