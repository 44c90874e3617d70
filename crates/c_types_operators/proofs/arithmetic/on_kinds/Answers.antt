use Rattle.std.proofs.Common.{◌≡◌, ap, ◌∙◌, Some}
use Rattle.std.proofs.lemmas.Result.{IfOk-weaker}
use Rattle.c_types_rules.specs.TypedTree.{AValue, Arithmetic}
use Rattle.c_types_rules.specs.Operators.{to_kind}
use Rattle.c_types_nodes.specs.Tables.{typed_at, value_at}
use Rattle.c_types_nodes.proofs.Growing.{through}
use Rattle.c_types_operators.specs.Answers.{IsAt}
use Rattle.c_types_operators.proofs.Values.{arithmetic_held, arithmetic_is, stays_value}
use Rattle.c_types_operators.proofs.arithmetic.on_kinds.Goals as goal

pub to_kind-requires-2 : goal.to_kind-requires-2
to_kind-requires-2 c = stays_value c.args.table.now c.to_kind.new.table c.args.right c.to_kind.ensures.kept c.requires.right

pub add-requires : goal.add-requires
add-requires c =
    record {
      parts = arithmetic_held c.to_kind.new.table c.to_kind-2.new.table c.args.op c.args.left_kind c.args.right_kind c.in_ok-left.left c.in_ok-right.right
          (value_at c.args.table.now c.args.left) (value_at c.to_kind.new.table c.args.right) c.to_kind-2.ensures.kept c.in_ok-left.ensures.added c.in_ok-right.ensures.added c.requires.kinds;
    }

pub returns-clause-added : goal.returns-clause-added
returns-clause-added c =
    let from = c.args.table.now in
    let one = c.to_kind.new.table in
    let two = c.to_kind-2.new.table in
    IfOk-weaker c.add.result (λ id. typed_at c.add.new.self id ≡ Some (AValue (Arithmetic c.args.op c.args.left_kind (value_at two c.in_ok-left.left) (value_at two c.in_ok-right.right))))
    (IsAt c.add.new.self (Arithmetic c.args.op c.args.left_kind (to_kind c.args.left_kind (value_at from c.args.left)) (to_kind c.args.right_kind (value_at from c.args.right))))
    (λ id h. h ∙ ap Some (arithmetic_is from one two c.args.op c.args.left_kind c.args.right_kind c.in_ok-left.left c.in_ok-right.right c.args.right (value_at from c.args.left) c.to_kind.ensures.kept c.to_kind-2.ensures.kept c.requires.right c.in_ok-left.ensures.added c.in_ok-right.ensures.added))
    c.add.ensures.added

pub returns-in_err-right-clause-kept : goal.returns-in_err-right-clause-kept
returns-in_err-right-clause-kept c = through c.args.table.now c.to_kind.new.table c.to_kind-2.new.table c.to_kind.ensures.kept c.to_kind-2.ensures.kept

pub returns-clause-kept : goal.returns-clause-kept
returns-clause-kept c =
    through c.args.table.now c.to_kind-2.new.table c.add.new.self
    (through c.args.table.now c.to_kind.new.table c.to_kind-2.new.table c.to_kind.ensures.kept c.to_kind-2.ensures.kept) c.add.ensures.kept
