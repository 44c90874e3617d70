use Rattle.std.proofs.Common.{sym, ap, ◌∙◌, Some, Ok}
use Rattle.c_types_nodes.specs.Tables.{value_at}
use Rattle.c_types_nodes.proofs.Growing.{through}
use Rattle.c_types_operators.proofs.Arms.{arms_are, integers_both}
use Rattle.c_types_operators.proofs.Rules.{passed}
use Rattle.c_types_operators.proofs.choices.integers.Goals as goal

pub returns-clause-agrees : goal.returns-clause-agrees
returns-clause-agrees c =
    let t = c.args.table.now in
    let a = value_at t c.args.a in
    let b = value_at t c.args.b in
    let kind = c.common-kind.result in
    let made = integers_both c.args.from (value_at t c.args.condition) a b c.in-Some.left c.in-Some-kind_of.right kind (sym c.in-Some.ensures) (sym c.in-Some-kind_of.ensures) c.common-kind.ensures in
    let arms =
    arms_are t c.to_kind.new.table c.to_kind-2.new.table kind c.args.condition a c.args.b c.in_ok-a.a c.in_ok-b.b
    c.to_kind.ensures.kept c.to_kind-2.ensures.kept c.requires.condition c.requires.b c.in_ok-a.ensures.added c.in_ok-b.ensures.added in
    passed c.add.new.self _ _ (Ok c.in_ok-add.field-0) made (c.in_ok-add.ensures.added ∙ ap Some arms)

pub returns-in_err-a-clause-kept : goal.returns-in_err-a-clause-kept
returns-in_err-a-clause-kept c = c.to_kind.ensures.kept

pub returns-in_err-b-clause-kept : goal.returns-in_err-b-clause-kept
returns-in_err-b-clause-kept c = through c.args.table.now c.to_kind.new.table c.to_kind-2.new.table c.to_kind.ensures.kept c.to_kind-2.ensures.kept

pub returns-in_err-add-clause-kept : goal.returns-in_err-add-clause-kept
returns-in_err-add-clause-kept c = through c.args.table.now c.to_kind.new.table c.add.new.self c.to_kind.ensures.kept (through c.to_kind.new.table c.to_kind-2.new.table c.add.new.self c.to_kind-2.ensures.kept c.add.ensures.kept)

pub returns-clause-kept : goal.returns-clause-kept
returns-clause-kept c = through c.args.table.now c.to_kind.new.table c.add.new.self c.to_kind.ensures.kept (through c.to_kind.new.table c.to_kind-2.new.table c.add.new.self c.to_kind-2.ensures.kept c.add.ensures.kept)
