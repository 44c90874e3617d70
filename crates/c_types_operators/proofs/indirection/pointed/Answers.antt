use Rattle.std.proofs.Common.{sym, ◌∙◌, Ok}
use Rattle.c_types_table.specs.Tables.{type_at}
use Rattle.c_types_rules.specs.TypedTree.{value_type}
use Rattle.c_types_nodes.specs.Tables.{value_at}
use Rattle.c_types_operators.proofs.Rules.{size_missing}
use Rattle.c_types_operators.proofs.Elements.{object_passed, object_rule}
use Rattle.c_types_operators.proofs.Targets.{pointed_function, pointed_incomplete, pointed_none, pointed_object, target_missing}
use Rattle.c_types_operators.proofs.indirection.pointed.Goals as goal

pub returns-in_default-clause-agrees : goal.returns-in_default-clause-agrees
returns-in_default-clause-agrees c =
    let t = c.args.table.now in
    let v = value_at t c.args.value in
    object_rule t _ _ _ (pointed_none c.args.structs.now c.args.from v (target_missing t.types (value_type v) c.target_of.result c.target_of.ensures c.in_default.not-Some))

pub returns-then-is_function-clause-agrees : goal.returns-then-is_function-clause-agrees
returns-then-is_function-clause-agrees c =
    let t = c.args.table.now in
    object_passed c.add.new.self _ _ (Ok c.in_ok-function.function)
    (pointed_function c.args.structs.now c.args.from (value_at t c.args.value) (type_at t.types c.in-Some.target) c.in-Some.ensures.1 (sym c.is_function.ensures ∙ c.if-is_function.true))
    c.in_ok-function.ensures.added

pub returns-in_default-size_of-clause-agrees : goal.returns-in_default-size_of-clause-agrees
returns-in_default-size_of-clause-agrees c =
    let t = c.args.table.now in
    object_rule t _ _ _ (pointed_incomplete c.args.structs.now c.args.from (value_at t c.args.value) (type_at t.types c.in-Some.target) c.in-Some.ensures.1 (sym c.is_function.ensures ∙ c.if-is_function.false)
    (size_missing c.args.structs.now (type_at t.types c.in-Some.target) c.size_of.result c.size_of.ensures c.in_default-size_of.not-Some))

pub returns-clause-agrees : goal.returns-clause-agrees
returns-clause-agrees c =
    let t = c.args.table.now in
    object_passed c.add-2.new.self _ _ (Ok c.in_ok-add.field-0)
    (pointed_object c.args.structs.now c.args.from (value_at t c.args.value) (type_at t.types c.in-Some.target) c.in-Some.ensures.1 (sym c.is_function.ensures ∙ c.if-is_function.false) c.in-Some-size_of.ensures.0)
    c.in_ok-add.ensures.added
