use Rattle.std.proofs.Common.{◌≡◌, ◌<◌, ◌++◌, List, rules, sym, ap, ◌∙◌, subst, arith}
use Rattle.std.specs.Prelude.{OnOk}
use Rattle.c_types_rules.specs.Initials as tree
use Rattle.c_types_program.specs.declared.global.Initial.{Initial}
use Rattle.c_types_program.specs.Declarations.{initial_in, initials_in}
use Rattle.lockset_check_rules.specs.Sources.{initial_found}
use Rattle.lockset_check_values.specs.Setting.{guarded}
use Rattle.lockset_check_bodies.proofs.Lists.{listed_means, one_lighter_value}
use Rattle.lockset_check_bodies.proofs.Weights.{initial_weight, initials_weight}
use Rattle.lockset_check_bodies.proofs.initials.+initials.Goals as goal

pub walk_initial-walk_initials-requires : goal.walk_initial-walk_initials-requires
walk_initial-walk_initials-requires t c =
    let means : tree.Listed (initials_in c.deref.result.now) ≡ initial_in c.args.value.now =
    ap (λ (xs : List Initial). tree.Listed (initials_in xs)) c.deref.ensures.value ∙ (sym (listed_means c.in-Listed.inner) ∙ ap initial_in (sym c.in-Listed.is)) in
    let smaller : initials_weight (initials_in c.deref.result.now) < initial_weight (initial_in c.args.value.now) = omega (arith, ap initial_weight means) in
    search rules

pub walk_initial-returns-in-Listed : goal.walk_initial-returns-in-Listed
walk_initial-returns-in-Listed t c =
    let means : tree.Listed (initials_in c.deref.result.now) ≡ initial_in c.args.value.now =
    ap (λ (xs : List Initial). tree.Listed (initials_in xs)) c.deref.ensures.value ∙ (sym (listed_means c.in-Listed.inner) ∙ ap initial_in (sym c.in-Listed.is)) in
    subst (λ (x : tree.Initial). OnOk c.walk_initials.result (c.walk_initials.new.walk.found ≡ c.args.walk.now.found ++ initial_found (guarded c.args.walker.now) x)) means c.walk_initials.ensures

pub walk_initials-walk_initial-requires : goal.walk_initials-walk_initial-requires
walk_initials-walk_initial-requires t c =
    let smaller : initial_weight (initial_in c.index-values-i.result) < initials_weight (initials_in c.args.values.now) =
    one_lighter_value c.args.values.now c.loop-i.i c.index-values-i.result (omega arith) c.index-values-i.is in
    search rules
