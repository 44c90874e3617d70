use Rattle.std.proofs.Common.{sym, ◌∙◌, Ok}
use Rattle.c_types_table.specs.Tables.{type_at}
use Rattle.c_types_rules.specs.Checked.{Fine}
use Rattle.c_types_rules.specs.Operators.{can_cast}
use Rattle.c_types_rules.specs.TypedTree.{Convert, value_type}
use Rattle.c_types_nodes.specs.Tables.{value_at}
use Rattle.c_types_operators.proofs.Rules.{passed, rule, broken, kept}
use Rattle.c_types_operators.proofs.conversions.cast.Goals as goal

pub returns-then-not-can_cast-clause-agrees : goal.returns-then-not-can_cast-clause-agrees
returns-then-not-can_cast-clause-agrees c =
    let t = c.args.table.now in
    let v = value_at t c.args.value in
    rule t _ _ _ (broken c.args.from 7 (can_cast (type_at t.types c.args.ty) (value_type v)) (Fine (Convert (type_at t.types c.args.ty) v)) (sym c.can_cast.ensures ∙ c.if-not-can_cast.true))

pub returns-clause-agrees : goal.returns-clause-agrees
returns-clause-agrees c =
    let t = c.args.table.now in
    let v = value_at t c.args.value in
    passed c.add.new.self _ _ (Ok c.in_ok-add.field-0) (kept c.args.from 7 (can_cast (type_at t.types c.args.ty) (value_type v)) (Fine (Convert (type_at t.types c.args.ty) v)) (sym c.can_cast.ensures ∙ c.if-not-can_cast.false)) c.in_ok-add.ensures.added
