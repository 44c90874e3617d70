use Rattle.std.proofs.Common.{sym, ◌∙◌, Ok}
use Rattle.c_types_table.specs.Tables.{type_at}
use Rattle.c_types_rules.specs.Checked.{Fine}
use Rattle.c_types_rules.specs.Operators.{are_comparable}
use Rattle.c_types_rules.specs.TypedTree.{PointerComparison}
use Rattle.c_types_nodes.specs.Tables.{value_at}
use Rattle.c_types_operators.proofs.Rules.{passed, rule, broken, kept}
use Rattle.c_types_operators.proofs.comparison.two_pointers.Goals as goal

pub returns-then-not-are_comparable-clause-agrees : goal.returns-then-not-are_comparable-clause-agrees
returns-then-not-are_comparable-clause-agrees c =
    let t = c.args.table.now in
    rule t _ _ _ (broken c.args.from 5 (are_comparable (type_at t.types c.args.targets.0) (type_at t.types c.args.targets.1)) (Fine (PointerComparison c.args.op (value_at t c.args.left) (value_at t c.args.right))) (sym c.are_comparable.ensures ∙ c.if-not-are_comparable.true))

pub returns-clause-agrees : goal.returns-clause-agrees
returns-clause-agrees c =
    let t = c.args.table.now in
    passed c.add.new.self _ _ (Ok c.in_ok-add.field-0)
    (kept c.args.from 5 (are_comparable (type_at t.types c.args.targets.0) (type_at t.types c.args.targets.1)) (Fine (PointerComparison c.args.op (value_at t c.args.left) (value_at t c.args.right))) (sym c.are_comparable.ensures ∙ c.if-not-are_comparable.false))
    c.in_ok-add.ensures.added
