use Rattle.std.proofs.Common.{◌≡◌, ap, ◌∙◌, Some}
use Rattle.std.proofs.lemmas.Result.{IfOk-weaker}
use Rattle.c_types_table.specs.Tables.{type_at}
use Rattle.c_types_rules.specs.TypedTree.{AValue, Convert}
use Rattle.c_types_rules.specs.Operators.{to_kind}
use Rattle.c_types_nodes.specs.Tables.{typed_at, value_at}
use Rattle.c_types_operators.specs.Answers.{IsAt}
use Rattle.c_types_operators.proofs.arithmetic.to_kind.Goals as goal

pub returns-clause-added : goal.returns-clause-added
returns-clause-added c =
    IfOk-weaker c.add.result (λ id. typed_at c.add.new.self id ≡ Some (AValue (Convert (type_at c.args.table.now.types c.kind_type-ty.result) (value_at c.args.table.now c.args.value)))) (IsAt c.add.new.self (to_kind c.args.kind (value_at c.args.table.now c.args.value)))
    (λ id h. h ∙ ap (λ t. Some (AValue (Convert t (value_at c.args.table.now c.args.value)))) c.kind_type-ty.ensures.is)
    c.add.ensures.added
