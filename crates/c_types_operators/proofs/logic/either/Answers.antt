use Rattle.std.proofs.Common.{sym, ◌∙◌, Ok}
use Rattle.c_types_rules.specs.TypeTests.{is_scalar}
use Rattle.c_types_rules.specs.Checked.{Fine, ◌>>◌}
use Rattle.c_types_rules.specs.TypedTree.{Either}
use Rattle.c_types_rules.specs.Operators.{scalar}
use Rattle.c_types_rules.specs.TypedTree.{value_type}
use Rattle.c_types_nodes.specs.Tables.{value_at}
use Rattle.c_types_operators.proofs.Rules.{passed, rule, broken, second_broken, both_kept}
use Rattle.c_types_operators.proofs.logic.either.Goals as goal

pub returns-then-not-is_scalar-clause-agrees : goal.returns-then-not-is_scalar-clause-agrees
returns-then-not-is_scalar-clause-agrees c =
    let a = value_at c.args.table.now c.args.left in
    let b = value_at c.args.table.now c.args.right in
    rule c.args.table.now _ _ _ (broken c.args.from 10 (is_scalar (value_type a)) (scalar c.args.from b >> Fine (Either a b)) (sym c.is_scalar.ensures ∙ c.if-not-is_scalar.true))

pub returns-then-not-is_scalar-2-clause-agrees : goal.returns-then-not-is_scalar-2-clause-agrees
returns-then-not-is_scalar-2-clause-agrees c =
    let a = value_at c.args.table.now c.args.left in
    let b = value_at c.args.table.now c.args.right in
    rule c.args.table.now _ _ _ (second_broken c.args.from 10 (is_scalar (value_type a)) (is_scalar (value_type b)) (Fine (Either a b)) (sym c.is_scalar.ensures ∙ c.if-not-is_scalar.false) (sym c.is_scalar-2.ensures ∙ c.if-not-is_scalar-2.true))

pub returns-clause-agrees : goal.returns-clause-agrees
returns-clause-agrees c =
    let a = value_at c.args.table.now c.args.left in
    let b = value_at c.args.table.now c.args.right in
    passed c.add.new.self _ _ (Ok c.in_ok-add.field-0)
    (both_kept c.args.from 10 (is_scalar (value_type a)) (is_scalar (value_type b)) (Fine (Either a b)) (sym c.is_scalar.ensures ∙ c.if-not-is_scalar.false) (sym c.is_scalar-2.ensures ∙ c.if-not-is_scalar-2.false))
    c.in_ok-add.ensures.added
