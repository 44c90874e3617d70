use Rattle.std.proofs.Common.{◌≡◌, ◌+◌, ◌<◌, Bool, true, false, List, length, map, drop, sym, ap, ◌∙◌, subst}
use Rattle.std.specs.Prelude.{◌||◌, is_some}
use Rattle.c_types_program.specs.declared.global.Global.{Global}
use Rattle.c_types_program.specs.Declarations.{Declared, global_in}
use Rattle.lockset_check_rules.specs.Sources.{is_any_guarded}
use Rattle.lockset_check_values.specs.Setting.{guarded}
use Rattle.lockset_check_bodies.proofs.Sources.{any_at}
use Rattle.lockset_check_bodies.proofs.source.is_any_guarded.Goals as goal

pub returns-then-is_guarded : goal.returns-then-is_guarded
returns-then-is_guarded c =
    let r = guarded c.args.walker.now in
    let table = c.args.walker.now.program.table in
    let gs = c.args.walker.now.program.globals in
    let i = c.loop-i.i in
    let same : c.globals-globals.result.now ≡ gs = c.globals-globals.ensures.globals ∙ ap (λ (p : Declared). p.globals) c.program.ensures in
    let lt : i < length gs = subst (λ (xs : List Global). i < length xs) same c.loop-i-test.true in
    let here : is_some (r.guard i) ≡ true = sym c.is_guarded.ensures ∙ c.if-is_guarded.true in
    let rest = is_any_guarded r (i + 1) (map (global_in table) (drop (i + 1) gs)) in
    sym (sym c.loop-i.invariant ∙ (any_at r table gs i lt ∙ ap (λ (b : Bool). b || rest) here))

pub loop-i-preserved : goal.loop-i-preserved
loop-i-preserved c =
    let r = guarded c.args.walker.now in
    let table = c.args.walker.now.program.table in
    let gs = c.args.walker.now.program.globals in
    let i = c.loop-i.i in
    let same : c.globals-globals.result.now ≡ gs = c.globals-globals.ensures.globals ∙ ap (λ (p : Declared). p.globals) c.program.ensures in
    let lt : i < length gs = subst (λ (xs : List Global). i < length xs) same c.loop-i-test.true in
    let here : is_some (r.guard i) ≡ false = sym c.is_guarded.ensures ∙ c.if-is_guarded.false in
    let rest = is_any_guarded r (i + 1) (map (global_in table) (drop (i + 1) gs)) in
    sym (any_at r table gs i lt ∙ ap (λ (b : Bool). b || rest) here) ∙ c.loop-i.invariant
