use Rattle.std.proofs.Common.{Err, ap, ◌∙◌, arith}
use Rattle.std.proofs.lemmas.Result.{err_from_is_err_and}
use Rattle.c_types_rules.specs.Statements.{locals_of}
use Rattle.c_types_expressions.proofs.Kept.{stay, stay_around, then_stay_around}
use Rattle.c_types_expressions.proofs.Wholes.{failed}
use Rattle.c_types_statements.specs.Typed.{AddsDeclared, declared_in}
use Rattle.c_types_statements.proofs.Lists.{decl_among}
use Rattle.c_types_statements.proofs.OfLocals.{local_broken, local_read, locals_read, no_local_read}
use Rattle.c_types_statements.proofs.locals.declare_locals.Goals as goal

pub loop-id-init : goal.loop-id-init
loop-id-init c = record {
  kept = stay_around _ _ (stay c.args.env.now);
  below = c.requires.locals;
  known = tt;
  read = λ ds h. no_local_read c.args.tree.now c.args.ids.now ds c.args.env.now c.args.statements.now.items c.args.locals.now.items h;
}

pub local-requires : goal.local-requires
local-requires c = record { id = decl_among c.args.tree.now c.args.ids.now c.loop-id.id-index (record { 0 = 0 }) (omega arith) c.requires.ids; known = c.loop-id.invariant.known; locals = c.loop-id.invariant.below }

pub loop-id-preserved : goal.loop-id-preserved
loop-id-preserved c =
    let d = declared_in c.args.env.now c.args.locals.now.items in
    record {
      kept = then_stay_around _ _ _ c.loop-id.invariant.kept c.in_ok-first.ensures.kept;
      below = c.in_ok-first.ensures.locals;
      known = c.in_ok-first.ensures.known;
      read = λ ds h. local_read c.args.tree.now c.args.ids.now ds c.args.env.now c.args.statements.now.items d c.loop-id.id-index c.loop-id.env c.loop-id.locals.items c.loop-id.statements.items (c.loop-id.invariant.read ds h) (record { 0 = 0 })
          c.local.new.env c.local.new.locals.items c.in_ok-first.first c.push.new.statements.items (omega arith) c.in_ok-first.ensures.kept.numbers c.in_ok-first.ensures.agrees c.in_ok-push.ensures;
    }

pub returns-in_err-first-clause-agrees : goal.returns-in_err-first-clause-agrees
returns-in_err-first-clause-agrees c =
    let q = err_from_is_err_and c.from_residual.result c.from_residual.ensures.1 in
    let d = declared_in c.args.env.now c.args.locals.now.items in
    let old = c.args.statements.now.items in
    let now = c.loop-id.statements.items in
    let e = c.local.new.env in
    let all = c.local.new.locals.items in
    λ ds h. failed _ _ (AddsDeclared e all old now) (locals_of ds d) c.from_residual.result c.in_err-first.field-0.0 (q.1 ∙ ap Err q.2)
    (local_broken c.args.tree.now c.args.ids.now ds c.args.env.now old d c.loop-id.id-index c.loop-id.env c.loop-id.locals.items now (c.loop-id.invariant.read ds h) (record { 0 = 0 }) e e all all now c.in_err-first.field-0.0 (omega arith) c.in_err-first.ensures.agrees)

pub returns-in_err-first-clause-kept : goal.returns-in_err-first-clause-kept
returns-in_err-first-clause-kept c = then_stay_around _ _ _ c.loop-id.invariant.kept c.in_err-first.ensures.kept

pub returns-in_err-push-clause-kept : goal.returns-in_err-push-clause-kept
returns-in_err-push-clause-kept c = then_stay_around _ _ _ c.loop-id.invariant.kept c.in_ok-first.ensures.kept

pub returns-clause-agrees : goal.returns-clause-agrees
returns-clause-agrees c =
    λ ds h. locals_read c.args.tree.now c.args.ids.now ds c.args.env.now c.args.statements.now.items (declared_in c.args.env.now c.args.locals.now.items) c.loop-id.id-index c.loop-id.env c.loop-id.locals.items c.loop-id.statements.items (c.loop-id.invariant.read ds h) (omega arith)
