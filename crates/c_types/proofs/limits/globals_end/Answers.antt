use Rattle.std.proofs.Common.{map, refl, sym, ap, ◌∙◌, arith}
use Rattle.c_types_model.specs.Layouts.{capped, end_from}
use Rattle.c_types_table.specs.Tables.{type_at}
use Rattle.c_types_rules.specs.Environment.{extents}
use Rattle.c_types_rules.specs.Limits.{type_of}
use Rattle.c_types_rules.specs.Sources.{extents_in}
use Rattle.c_types.proofs.Limited.{capped_again, end_goes_on, ends_there, extents_are, global_at, mapped_below, mapped_end, types_of_globals, types_seen}
use Rattle.c_types.proofs.limits.globals_end.Goals as goal

pub loop-global-init : goal.loop-global-init
loop-global-init c = record { fits = omega arith; ends = refl }

pub loop-global-preserved : goal.loop-global-preserved
loop-global-preserved c =
    let env = c.args.env.now in
    let types = env.table.types in
    let gs = c.args.globals.now in
    let i = c.loop-global.global-index in
    let g = c.global-item.result in
    record {
      fits = capped_again c.end_after-end.result _ c.end_after-end.ensures;
      ends = end_goes_on (extents env.env) (types_of_globals types gs) i c.loop-global.end c.end_after-end.result _ (type_at types g.ty) (mapped_below (λ x. type_at types x.ty) gs i c.loop-global-test.true) (global_at types gs i g c.loop-global-test.true c.global-item.is) c.end_after-end.ensures c.loop-global.invariant.ends;
    }

pub returns : goal.returns
returns c =
    let env = c.args.env.now in
    let types = env.table.types in
    let gs = c.args.globals.now in
    λ p same read.
    let seen = ap (map type_of) read ∙ types_seen env.table gs in
    let all = extents_are env.env p (types_of_globals types gs) same in
    ends_there (extents env.env) (types_of_globals types gs) c.loop-global.global-index c.loop-global.end _ (mapped_end (λ x. type_at types x.ty) gs c.loop-global.global-index c.loop-global-test.false) c.loop-global.invariant.fits c.loop-global.invariant.ends
    ∙ (ap (λ es. capped (end_from 0 es)) (sym all) ∙ ap (λ ts. capped (end_from 0 (extents_in p ts))) (sym seen))
