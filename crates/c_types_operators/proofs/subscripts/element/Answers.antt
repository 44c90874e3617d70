use Rattle.std.proofs.Common.{sym, ap, ◌∙◌, Some, Ok, refl}
use Rattle.r2_num.specs.declared.kinds.IntKind.TheVariants.{I64}
use Rattle.c_types_table.specs.Tables.{type_at}
use Rattle.c_types_rules.specs.Operators.{to_kind}
use Rattle.c_types_nodes.specs.Parts.{sum_in}
use Rattle.c_types_nodes.specs.Tables.{Names, value_at}
use Rattle.c_types_nodes.proofs.Growing.{through}
use Rattle.c_types_operators.proofs.Rules.{size_missing}
use Rattle.c_types_operators.proofs.Elements.{element_incomplete, element_is, element_made, element_no_integer, object_passed, object_rule}
use Rattle.c_types_operators.proofs.Values.{is_value, stays_value}
use Rattle.c_types_operators.proofs.subscripts.element.Goals as goal

pub returns-in_default-clause-agrees : goal.returns-in_default-clause-agrees
returns-in_default-clause-agrees c =
    let t = c.args.table.now in
    object_rule t _ _ _ (element_incomplete c.args.structs.now c.args.from (sum_in c.args.sum) (type_at t.types c.args.target) (value_at t c.args.pointer) (value_at t c.args.index) (size_missing c.args.structs.now (type_at t.types c.args.target) c.size_of.result c.size_of.ensures c.in_default.not-Some))

pub returns-then-not-is_integer-clause-agrees : goal.returns-then-not-is_integer-clause-agrees
returns-then-not-is_integer-clause-agrees c =
    let t = c.args.table.now in
    object_rule t _ _ _ (element_no_integer c.args.structs.now c.args.from (sum_in c.args.sum) (type_at t.types c.args.target) (value_at t c.args.pointer) (value_at t c.args.index) c.in-Some.ensures.0 (sym c.is_integer.ensures ∙ c.if-not-is_integer.true))

pub add-requires : goal.add-requires
add-requires c =
    let t = c.args.table.now in
    let u = c.to_kind.new.table in
    let target : Names t.types c.args.target (type_at t.types c.args.target) = record { inside = c.requires.target; is = refl } in
    let new = c.to_kind.ensures.kept.types.names c.args.target (type_at t.types c.args.target) target in
    record { parts = (stays_value t u c.args.pointer c.to_kind.ensures.kept c.requires.pointer, is_value u c.in_ok-index.index (to_kind I64 (value_at t c.args.index)) c.in_ok-index.ensures.added, new.inside) }

pub returns-clause-agrees : goal.returns-clause-agrees
returns-clause-agrees c =
    let t = c.args.table.now in
    let u = c.to_kind.new.table in
    let target : Names t.types c.args.target (type_at t.types c.args.target) = record { inside = c.requires.target; is = refl } in
    let new = c.to_kind.ensures.kept.types.names c.args.target (type_at t.types c.args.target) target in
    let made = element_made c.args.structs.now c.args.from (sum_in c.args.sum) (type_at t.types c.args.target) (value_at t c.args.pointer) (value_at t c.args.index) c.in-Some.ensures.0 (sym c.is_integer.ensures ∙ c.if-not-is_integer.false) in
    let stands = c.in_ok-add.ensures.added ∙ ap Some (element_is t u (sum_in c.args.sum) c.args.pointer c.in_ok-index.index c.args.target (to_kind I64 (value_at t c.args.index)) (type_at u.types c.args.target) c.to_kind.ensures.kept c.requires.pointer c.in_ok-index.ensures.added new.is) in
    object_passed c.add.new.self _ _ (Ok c.in_ok-add.field-0) made stands

pub returns-in_err-add-clause-kept : goal.returns-in_err-add-clause-kept
returns-in_err-add-clause-kept c = through c.args.table.now c.to_kind.new.table c.add.new.self c.to_kind.ensures.kept c.add.ensures.kept

pub returns-clause-kept : goal.returns-clause-kept
returns-clause-kept c = through c.args.table.now c.to_kind.new.table c.add.new.self c.to_kind.ensures.kept c.add.ensures.kept
