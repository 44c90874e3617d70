use Rattle.std.proofs.Common.{sym, ◌∙◌, Ok}
use Rattle.c_types_rules.specs.Checked.{Fine}
use Rattle.c_types_rules.specs.TypedTree.{Not, value_type}
use Rattle.c_types_rules.specs.TypeTests.{is_scalar}
use Rattle.c_types_nodes.specs.Tables.{value_at}
use Rattle.c_types_operators.proofs.Rules.{passed, rule, broken, kept}
use Rattle.c_types_operators.proofs.unary.logical_not.Goals as goal

pub returns-then-not-is_scalar-clause-agrees : goal.returns-then-not-is_scalar-clause-agrees
returns-then-not-is_scalar-clause-agrees c =
    let v = value_at c.args.table.now c.args.value in
    rule c.args.table.now _ _ _ (broken c.args.from 10 (is_scalar (value_type v)) (Fine (Not v)) (sym c.is_scalar.ensures ∙ c.if-not-is_scalar.true))

pub returns-clause-agrees : goal.returns-clause-agrees
returns-clause-agrees c =
    let v = value_at c.args.table.now c.args.value in
    passed c.add.new.self _ _ (Ok c.in_ok-add.field-0) (kept c.args.from 10 (is_scalar (value_type v)) (Fine (Not v)) (sym c.is_scalar.ensures ∙ c.if-not-is_scalar.false)) c.in_ok-add.ensures.added
