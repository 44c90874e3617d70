use Rattle.std.proofs.Common.{Err, Ok, ap, ◌∙◌}
use Rattle.std.proofs.lemmas.Result.{err_from_is_err_and}
use Rattle.c_types_table.specs.Tables.{type_at, types_of}
use Rattle.c_types_rules.specs.Environment.{LocalNamed, declarable}
use Rattle.c_types_environment.specs.Reading.{meaning_by}
use Rattle.c_types_environment.specs.declared.meaning.Meaning.TheVariants.{Local}
use Rattle.c_types_expressions.proofs.Kept.{declared_around}
use Rattle.c_types_expressions.proofs.Wholes.{failed}
use Rattle.c_types_statements.specs.Pieces.{local_scope}
use Rattle.c_types_statements.proofs.Declaring.{local_declared, local_taken}
use Rattle.c_types_statements.proofs.Firsts.{IsPlace}
use Rattle.c_types_statements.proofs.locals.declare.Goals as goal

pub returns-in_err-declare-clause-agrees : goal.returns-in_err-declare-clause-agrees
returns-in_err-declare-clause-agrees c =
    let q = err_from_is_err_and c.from_residual-in_err-declare.result c.from_residual-in_err-declare.ensures.1 in
    let t = type_at c.args.env.now.table.types c.args.ty in
    failed _ _ (IsPlace c.declare.new.self c.args.before) (local_scope c.args.env.now.env c.args.from c.args.name.now c.args.before t) c.from_residual-in_err-declare.result c.in_err-declare.field-0.0 (q.1 ∙ ap Err q.2)
    (local_taken c.args.env.now c.declare.new.self c.args.from c.args.before c.args.name.now c.spelling.result.now t (Local c.in_ok-place.place c.args.ty) (ap (λ p. LocalNamed p t) c.in_ok-place.ensures) c.spelling.ensures c.in_err-declare.field-0.0 c.in_err-declare.ensures.agrees c.in_err-declare.ensures.err)

pub returns-clause-agrees : goal.returns-clause-agrees
returns-clause-agrees c =
    let t = type_at c.args.env.now.table.types c.args.ty in
    local_declared c.args.env.now c.declare.new.self c.args.from c.args.before c.args.name.now c.spelling.result.now t (Local c.in_ok-place.place c.args.ty) (ap (λ p. LocalNamed p t) c.in_ok-place.ensures) c.spelling.ensures c.in_ok-place.place c.in_ok-place.ensures c.in_ok-declare.ensures.agrees

pub returns-in_err-declare-clause-kept : goal.returns-in_err-declare-clause-kept
returns-in_err-declare-clause-kept c = declared_around c.args.env.now c.declare.new.self c.spelling.result.now (meaning_by (types_of c.args.env.now.table.types) (Local c.in_ok-place.place c.args.ty)) (declarable c.args.env.now.env c.args.from c.spelling.result.now) (Err c.in_err-declare.field-0.0) c.in_err-declare.ensures.agrees c.in_err-declare.ensures.err

pub returns-clause-kept : goal.returns-clause-kept
returns-clause-kept c = declared_around c.args.env.now c.declare.new.self c.spelling.result.now (meaning_by (types_of c.args.env.now.table.types) (Local c.in_ok-place.place c.args.ty)) (declarable c.args.env.now.env c.args.from c.spelling.result.now) (Ok tt) c.in_ok-declare.ensures.agrees c.in_ok-declare.ensures.err
