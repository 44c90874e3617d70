use Rattle.std.proofs.Common.{get_or, refl, sym, ap, ◌∙◌, arith}
use Rattle.c_types_model.specs.Layouts.{capped, end_from}
use Rattle.c_types_table.specs.Tables.{type_at}
use Rattle.c_types_rules.specs.Environment.{extents}
use Rattle.c_types_program.specs.Declarations.{types_in}
use Rattle.c_types.proofs.Limited.{capped_again, end_goes_on, ends_there, extents_are, local_at, mapped_below, mapped_end}
use Rattle.c_types.proofs.limits.locals_end.Goals as goal

pub loop-local-init : goal.loop-local-init
loop-local-init c = record { fits = omega arith; ends = refl }

pub loop-local-preserved : goal.loop-local-preserved
loop-local-preserved c =
    let env = c.args.env.now in
    let types = env.table.types in
    let ids = c.args.locals.now in
    let i = c.loop-local.local-index in
    record {
      fits = capped_again c.end_after-end.result _ c.end_after-end.ensures;
      ends = end_goes_on (extents env.env) (types_in types ids) i c.loop-local.end c.end_after-end.result _ (type_at types (get_or ids i (record { 0 = 0 }))) (mapped_below (type_at types) ids i c.loop-local-test.true) (local_at types ids i (record { 0 = 0 }) c.loop-local-test.true) c.end_after-end.ensures c.loop-local.invariant.ends;
    }

pub returns : goal.returns
returns c =
    let env = c.args.env.now in
    let types = env.table.types in
    let ids = c.args.locals.now in
    λ p same.
    ends_there (extents env.env) (types_in types ids) c.loop-local.local-index c.loop-local.end _ (mapped_end (type_at types) ids c.loop-local.local-index c.loop-local-test.false) c.loop-local.invariant.fits c.loop-local.invariant.ends
    ∙ ap (λ es. capped (end_from 0 es)) (sym (extents_are env.env p (types_in types ids) same))
