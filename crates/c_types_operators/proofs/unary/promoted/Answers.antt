use Rattle.std.proofs.Common.{sym, ◌∙◌, Ok}
use Rattle.c_types_rules.specs.Operators.{as_it_is}
use Rattle.c_types_nodes.specs.Tables.{value_at}
use Rattle.c_types_operators.proofs.Rules.{missing, passed, rule, operand_made, operand_missing}
use Rattle.c_types_operators.proofs.unary.promoted.Goals as goal

pub returns-in_default-clause-agrees : goal.returns-in_default-clause-agrees
returns-in_default-clause-agrees c =
    let v = value_at c.args.table.now c.args.value in
    rule c.args.table.now _ _ _ (operand_missing c.args.from as_it_is v (sym c.kind_of.ensures ∙ missing c.kind_of.result c.in_default.not-Some))

pub returns-clause-agrees : goal.returns-clause-agrees
returns-clause-agrees c =
    let v = value_at c.args.table.now c.args.value in
    passed c.to_kind.new.table _ _ (Ok c.in_ok-to_kind.field-0) (operand_made c.args.from as_it_is v c.in-Some.kind c.promote-kind.result (sym c.in-Some.ensures) c.promote-kind.ensures) c.in_ok-to_kind.ensures.added
