use Rattle.std.proofs.Common.{◌≡◌, ◌+◌, ◌<◌, List, ◌∷◌, ◌++◌, length, map, drop, get_or, refl, sym, ap, ◌∙◌, subst, arith}
use Rattle.c_types_program.specs.declared.global.Global.{Global}
use Rattle.c_types_program.specs.Declarations.{Declared, global_in}
use Rattle.lockset_check_rules.specs.Sources.{globals_found}
use Rattle.lockset_check_values.specs.Setting.{guarded}
use Rattle.lockset_check_bodies.proofs.Lists.{one_more}
use Rattle.lockset_check_bodies.proofs.Sources.{at_end}
use Rattle.lockset_check_bodies.proofs.initials.walk_globals.Goals as goal

pub loop-i-preserved : goal.loop-i-preserved
loop-i-preserved c =
    let r = guarded c.args.walker.now in
    let p = c.args.walker.now.program in
    let i = c.loop-i.i in
    let g = c.index-globals-i.result in
    let same : c.globals-globals.result.now ≡ p.globals = c.globals-globals.ensures.globals ∙ ap (λ (x : Declared). x.globals) c.program.ensures in
    let lt : i < length p.globals = subst (λ (xs : List Global). i < length xs) same c.loop-i-test.true in
    let is : g ≡ get_or p.globals i g = c.index-globals-i.is ∙ ap (λ (xs : List Global). get_or xs i g) same in
    let more : drop i p.globals ≡ g ∷ drop (i + 1) p.globals = one_more p.globals i g lt is in
    c.in_ok-walk_global.ensures (map (global_in p.table) (drop (i + 1) p.globals))
    ∙ (ap (λ (xs : List Global). c.loop-i.walk.found ++ globals_found r (map (global_in p.table) xs)) (sym more) ∙ c.loop-i.invariant)

pub returns : goal.returns
returns c =
    let r = guarded c.args.walker.now in
    let p = c.args.walker.now.program in
    let i = c.loop-i.i in
    let same : c.globals-globals.result.now ≡ p.globals = c.globals-globals.ensures.globals ∙ ap (λ (x : Declared). x.globals) c.program.ensures in
    let past : length c.globals-globals.result.now < i + 1 = omega arith in
    let over : length p.globals < i + 1 = subst (λ (xs : List Global). length xs < i + 1) same past in
    at_end (λ (xs : List Global). globals_found r (map (global_in p.table) xs)) refl p.globals i c.loop-i.walk.found
    (c.args.walk.now.found ++ globals_found r r.globals) over c.loop-i.invariant
