use Rattle.std.proofs.Common.{sym, ◌∙◌, Ok}
use Rattle.c_types_table.specs.Tables.{type_at}
use Rattle.c_types_rules.specs.Checked.{Fine}
use Rattle.c_types_rules.specs.Operators.{fits}
use Rattle.c_types_rules.specs.TypedTree.{Convert, value_type}
use Rattle.c_types_nodes.specs.Tables.{value_at}
use Rattle.c_types_operators.proofs.Rules.{passed, rule, broken, kept}
use Rattle.c_types_operators.proofs.conversions.assigned.Goals as goal

pub returns-then-not-fits-clause-agrees : goal.returns-then-not-fits-clause-agrees
returns-then-not-fits-clause-agrees c =
    let t = c.args.table.now in
    let v = value_at t c.args.value in
    rule t _ _ _ (broken c.args.from 6 (fits (type_at t.types c.args.ty) (value_type v) v) (Fine (Convert (type_at t.types c.args.ty) v)) (sym c.fits.ensures ∙ c.if-not-fits.true))

pub returns-clause-agrees : goal.returns-clause-agrees
returns-clause-agrees c =
    let t = c.args.table.now in
    let v = value_at t c.args.value in
    passed c.add.new.self _ _ (Ok c.in_ok-add.field-0) (kept c.args.from 6 (fits (type_at t.types c.args.ty) (value_type v) v) (Fine (Convert (type_at t.types c.args.ty) v)) (sym c.fits.ensures ∙ c.if-not-fits.false)) c.in_ok-add.ensures.added
