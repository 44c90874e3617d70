use Rattle.std.proofs.Common.{sym, ap, ◌∙◌, Some, Ok}
use Rattle.c_types_table.specs.Tables.{type_at}
use Rattle.c_types_rules.specs.Checked.{Fine}
use Rattle.c_types_rules.specs.Constants.{is_null}
use Rattle.c_types_rules.specs.TypedTree.{AValue, Convert, PointerComparison, value_type}
use Rattle.c_types_nodes.specs.Tables.{value_at}
use Rattle.c_types_nodes.proofs.Growing.{through}
use Rattle.c_types_operators.proofs.Rules.{passed, rule, broken, kept}
use Rattle.c_types_operators.proofs.Values.{comparison_right_is, is_node, is_value, stays_value, value_type_is}
use Rattle.c_types_operators.proofs.comparison.null_on_the_right.Goals as goal

pub type_of-ty-requires : goal.type_of-ty-requires
type_of-ty-requires c = record { inside = is_node c.args.table.now c.args.left c.requires.left }

pub returns-then-not-is_null-clause-agrees : goal.returns-then-not-is_null-clause-agrees
returns-then-not-is_null-clause-agrees c =
    let t = c.args.table.now in
    rule t _ _ _ (broken c.args.from 5 (is_null (value_at t c.args.right)) (Fine (PointerComparison c.args.op (value_at t c.args.left) (Convert (value_type (value_at t c.args.left)) (value_at t c.args.right)))) (sym c.is_null.ensures ∙ c.if-not-is_null.true))

pub add-requires : goal.add-requires
add-requires c = record { parts = (c.requires.right, c.type_of-ty.ensures.inside) }

pub add-requires-2 : goal.add-requires-2
add-requires-2 c =
    let t = c.args.table.now in
    let u = c.add.new.self in
    let v = Convert (type_at t.types c.type_of-ty.result) (value_at t c.args.right) in
    let old = stays_value t u c.args.left c.add.ensures.kept c.requires.left in
    let new = is_value u c.in_ok-right.right v c.in_ok-right.ensures.added in
    record { parts = (old, new) }

pub returns-clause-agrees : goal.returns-clause-agrees
returns-clause-agrees c =
    let t = c.args.table.now in
    let u = c.add.new.self in
    let v = Convert (type_at t.types c.type_of-ty.result) (value_at t c.args.right) in
    let test = sym c.is_null.ensures ∙ c.if-not-is_null.false in
    let type = value_type_is t c.args.left c.type_of-ty.result c.requires.left c.type_of-ty.ensures in
    let stands =
    c.in_ok-add.ensures.added
    ∙ (ap Some (comparison_right_is t u c.args.op c.args.left c.in_ok-right.right v c.add.ensures.kept c.requires.left c.in_ok-right.ensures.added)
    ∙ ap (λ c0. Some (AValue (PointerComparison c.args.op (value_at t c.args.left) (Convert c0 (value_at t c.args.right))))) type) in
    passed c.add-2.new.self _ _ (Ok c.in_ok-add.field-0) (kept c.args.from 5 (is_null (value_at t c.args.right)) (Fine (PointerComparison c.args.op (value_at t c.args.left) (Convert (value_type (value_at t c.args.left)) (value_at t c.args.right)))) test) stands

pub returns-in_err-add-clause-kept : goal.returns-in_err-add-clause-kept
returns-in_err-add-clause-kept c = through c.args.table.now c.add.new.self c.add-2.new.self c.add.ensures.kept c.add-2.ensures.kept

pub returns-clause-kept : goal.returns-clause-kept
returns-clause-kept c = through c.args.table.now c.add.new.self c.add-2.new.self c.add.ensures.kept c.add-2.ensures.kept
