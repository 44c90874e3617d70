use Rattle.std.proofs.Common.{sym, ap, ◌∙◌, Some, Ok}
use Rattle.c_types_rules.specs.Operators.{to_kind}
use Rattle.c_types_nodes.specs.Tables.{object_at, value_at}
use Rattle.c_types_nodes.proofs.Growing.{through}
use Rattle.c_types_operators.proofs.Assigning.{changed_is, changed_made}
use Rattle.c_types_operators.proofs.Rules.{passed}
use Rattle.c_types_operators.proofs.compound.changed.Goals as goal

pub returns-clause-agrees : goal.returns-clause-agrees
returns-clause-agrees c =
    let t = c.args.table.now in
    let u = c.to_kind.new.table in
    let b = value_at t c.args.value in
    let kinds = c.kinds_of-kinds.result in
    let made = changed_made c.args.from c.args.op (object_at t c.args.object) c.args.kind c.in-Some.other kinds.0 kinds.1 b (sym c.in-Some.ensures) c.kinds_of-kinds.ensures.left c.kinds_of-kinds.ensures.right in
    let stands = c.in_ok-add.ensures.added ∙ ap Some (changed_is t u c.args.op kinds.0 c.args.object c.in_ok-value.value (to_kind kinds.1 b) c.to_kind.ensures.kept c.requires.object c.in_ok-value.ensures.added) in
    passed c.add.new.self _ _ (Ok c.in_ok-add.field-0) made stands

pub returns-clause-kept : goal.returns-clause-kept
returns-clause-kept c = through c.args.table.now c.to_kind.new.table c.add.new.self c.to_kind.ensures.kept c.add.ensures.kept

pub returns-in_err-value-clause-kept : goal.returns-in_err-value-clause-kept
returns-in_err-value-clause-kept c = c.to_kind.ensures.kept

pub returns-in_err-add-clause-kept : goal.returns-in_err-add-clause-kept
returns-in_err-add-clause-kept c = through c.args.table.now c.to_kind.new.table c.add.new.self c.to_kind.ensures.kept c.add.ensures.kept
