use Rattle.std.proofs.Common.{◌≡◌, ℕ, suc, ◌+◌, ◌<◌, List, ◌∷◌, ◌++◌, length, map, drop, get_or, refl, sym, ap, ◌∙◌, subst, arith}
use Rattle.c_builtins.specs.Table.{first_source_function}
use Rattle.c_types_program.specs.declared.function.Function.{Function}
use Rattle.c_types_program.specs.Declarations.{Declared, IsFunction, IsSound, function_in}
use Rattle.lockset_check_rules.specs.Sources.{functions_found}
use Rattle.lockset_check_values.specs.Setting.{guarded}
use Rattle.lockset_check_bodies.specs.Runs.{runs_by}
use Rattle.lockset_check_bodies.proofs.Lists.{one_more}
use Rattle.lockset_check_bodies.proofs.Sources.{at_end}
use Rattle.lockset_check_bodies.proofs.functions.walk_functions.Goals as goal

pub walk_function-requires-clause-function : goal.walk_function-requires-clause-function
walk_function-requires-clause-function c =
    let p = c.args.walker.now.program in
    let i = c.loop-i.i in
    let f = c.index-functions-i.result in
    let same : c.functions-functions.result.now ≡ p.functions = c.functions-functions.ensures.functions ∙ ap (λ (x : Declared). x.functions) c.program.ensures in
    let sound : IsSound p = subst (λ (x : Declared). IsSound x) c.program.ensures c.functions-functions.ensures.sound in
    let lt : i < length p.functions = subst (λ (xs : List Function). i < length xs) same c.loop-i-test.true in
    let is : f ≡ get_or p.functions i f = c.index-functions-i.is ∙ ap (λ (xs : List Function). get_or xs i f) same in
    subst (λ (x : Function). IsFunction p.table x) (sym is) (sound.functions i f lt)

pub loop-i-preserved : goal.loop-i-preserved
loop-i-preserved c =
    let r = guarded c.args.walker.now in
    let p = c.args.walker.now.program in
    let runs = runs_by c.args.flags.now in
    let i = c.loop-i.i in
    let f = c.index-functions-i.result in
    let same : c.functions-functions.result.now ≡ p.functions = c.functions-functions.ensures.functions ∙ ap (λ (x : Declared). x.functions) c.program.ensures in
    let lt : i < length p.functions = subst (λ (xs : List Function). i < length xs) same c.loop-i-test.true in
    let is : f ≡ get_or p.functions i f = c.index-functions-i.is ∙ ap (λ (xs : List Function). get_or xs i f) same in
    let more : drop i p.functions ≡ f ∷ drop (i + 1) p.functions = one_more p.functions i f lt is in
    let rest = map (function_in p.table) (drop (i + 1) p.functions) in
    let next : first_source_function + (i + 1) ≡ suc (first_source_function + i) = omega arith in (
      c.in_ok-walk_function.ensures.walk,
      ap (λ (n : ℕ). c.walk_function.new.walk.found ++ functions_found r runs n rest) next
          ∙ (c.in_ok-walk_function.ensures.found rest
          ∙ (ap (λ (xs : List Function). c.loop-i.walk.found ++ functions_found r runs (first_source_function + i) (map (function_in p.table) xs)) (sym more) ∙ c.loop-i.invariant.1)),
    )

pub returns : goal.returns
returns c =
    let r = guarded c.args.walker.now in
    let p = c.args.walker.now.program in
    let runs = runs_by c.args.flags.now in
    let i = c.loop-i.i in
    let same : c.functions-functions.result.now ≡ p.functions = c.functions-functions.ensures.functions ∙ ap (λ (x : Declared). x.functions) c.program.ensures in
    let past : length c.functions-functions.result.now < i + 1 = omega arith in
    let over : length p.functions < i + 1 = subst (λ (xs : List Function). length xs < i + 1) same past in
    at_end (λ (xs : List Function). functions_found r runs (first_source_function + i) (map (function_in p.table) xs)) refl p.functions i c.loop-i.walk.found
    (c.args.walk.now.found ++ functions_found r runs first_source_function r.functions) over c.loop-i.invariant.1
