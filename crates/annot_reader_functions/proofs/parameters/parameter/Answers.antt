use Rattle.std.proofs.Common.{refl, sym, ◌∙◌}
use Rattle.annot_reader_words.proofs.Composing.{raised}
use Rattle.c_types_table.specs.Tables.{at}
use Rattle.annot_reader_functions.specs.Parameters.{IsRead, one_parameter}
use Rattle.annot_reader_functions.proofs.Scoping.{breaks_around, breaks_said, breaks_scope, reads_one, stays_around}
use Rattle.annot_reader_functions.specs.Seen.{declared_by}
use Rattle.annot_reader_functions.proofs.parameters.parameter.Goals as goal

pub declare-requires-clause-ty : goal.declare-requires-clause-ty
declare-requires-clause-ty c = (c.in_ok-param.ensures.kept.types c.args.ty _ (record { inside = c.requires.ty; is = refl })).inside

pub returns-in_err-bare_around-clause-agrees : goal.returns-in_err-bare_around-clause-agrees
returns-in_err-bare_around-clause-agrees c = λ d s h k.
    let before = declared_by c.args.env.now in
    let t = at before.types c.args.ty in
    let e = c.in_err-bare_around.field-0.0 in
    raised (IsRead before) (one_parameter d s c.args.place t) c.from_residual.result e c.from_residual.ensures.1
    (breaks_around before d s c.args.place t e (c.in_err-bare_around.ensures d (c.decl_node.ensures.shows d h)))

pub returns-in_err-param-clause-agrees : goal.returns-in_err-param-clause-agrees
returns-in_err-param-clause-agrees c = λ d s h k.
    let before = declared_by c.args.env.now in
    let now = declared_by c.parameter_notes.new.env in
    let t = at before.types c.args.ty in
    let e = c.in_err-param.field-0.0 in
    raised (IsRead now) (one_parameter d s c.args.place t) c.from_residual-in_err-param.result e c.from_residual-in_err-param.ensures.1
    (breaks_said now d s c.args.place t e (c.in_ok-bare_around.ensures d (c.decl_node.ensures.shows d h)) (c.in_err-param.ensures.agrees d s t h k c.sort_of-sort.ensures))

pub returns-in_err-declare-clause-agrees : goal.returns-in_err-declare-clause-agrees
returns-in_err-declare-clause-agrees c = λ d s h k.
    let before = declared_by c.args.env.now in
    let now = declared_by c.parameter_notes.new.env in
    let after = declared_by c.declare.new.env in
    let t = at before.types c.args.ty in
    let e = c.in_err-declare.field-0.0 in
    let kept = c.in_ok-param.ensures.kept in
    raised (IsRead after) (one_parameter d s c.args.place t) c.from_residual-in_err-declare.result e c.from_residual-in_err-declare.ensures.1
    (breaks_scope after d s c.args.place t now c.args.ty (kept.env ∙ sym k.env) (kept.types c.args.ty t (record { inside = c.requires.ty; is = refl })).is c.in_ok-param.param e
    (c.in_ok-bare_around.ensures d (c.decl_node.ensures.shows d h)) (c.in_ok-param.ensures.agrees d s t h k c.sort_of-sort.ensures) (c.in_err-declare.ensures d h))

pub returns-clause-agrees : goal.returns-clause-agrees
returns-clause-agrees c = λ d s h k.
    let before = declared_by c.args.env.now in
    let now = declared_by c.parameter_notes.new.env in
    let after = declared_by c.declare.new.env in
    let t = at before.types c.args.ty in
    let kept = c.in_ok-param.ensures.kept in
    reads_one after d s c.args.place t now c.args.ty (kept.env ∙ sym k.env) (kept.types c.args.ty t (record { inside = c.requires.ty; is = refl })).is c.in_ok-param.param
    (c.in_ok-bare_around.ensures d (c.decl_node.ensures.shows d h)) (c.in_ok-param.ensures.agrees d s t h k c.sort_of-sort.ensures) (c.in_ok-declare.ensures d h)

pub returns-clause-around : goal.returns-clause-around
returns-clause-around c =
    let before = declared_by c.args.env.now in
    let now = declared_by c.parameter_notes.new.env in
    let after = declared_by c.declare.new.env in
    stays_around before now after c.requires.id.0 c.args.place (at now.types c.args.ty) c.in_ok-param.ensures.kept (c.in_ok-declare.ensures c.requires.id.0 c.requires.id.1)
