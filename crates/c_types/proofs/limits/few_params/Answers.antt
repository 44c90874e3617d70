use Rattle.std.proofs.Common.{◌<◌, length, map, sym, subst, arith}
use Rattle.c_types_program.specs.declared.function.Function.{Function}
use Rattle.c_types_rules.specs.Limits.{few_params}
use Rattle.c_types_program.specs.Declarations.{function_in}
use Rattle.c_types.proofs.Limited.{all_kept, kept_after, le_fails, le_holds, mapped_end, mapped_item, not_kept_here}
use Rattle.c_types.proofs.limits.few_params.Goals as goal

pub param_count-requires : goal.param_count-requires
param_count-requires c =
    let P : Function → Type 0 = λ f. f.ty.0 < length c.args.env.now.table.types in
    subst P (sym c.function-item.is) (c.requires c.loop-function.function-index c.function-item.result c.loop-function-test.true).type

pub returns-then-param_count-gt-MOST_PARAMS : goal.returns-then-param_count-gt-MOST_PARAMS
returns-then-param_count-gt-MOST_PARAMS c =
    let t = c.args.env.now.table in
    let fs = c.args.functions.now in
    let i = c.loop-function.function-index in
    let f = c.function-item.result in
    sym (not_kept_here few_params (map (function_in t) fs) i (function_in t f) (mapped_item (function_in t) fs i f c.loop-function-test.true c.function-item.is) (le_fails _ _ (omega (arith, c.param_count.ensures))) c.loop-function.invariant)

pub loop-function-preserved : goal.loop-function-preserved
loop-function-preserved c =
    let t = c.args.env.now.table in
    let fs = c.args.functions.now in
    let i = c.loop-function.function-index in
    let f = c.function-item.result in
    kept_after few_params (map (function_in t) fs) i (function_in t f) (mapped_item (function_in t) fs i f c.loop-function-test.true c.function-item.is) (le_holds _ _ (omega (arith, c.param_count.ensures))) c.loop-function.invariant

pub returns : goal.returns
returns c =
    let t = c.args.env.now.table in
    let fs = c.args.functions.now in
    sym (all_kept few_params (map (function_in t) fs) c.loop-function.function-index (mapped_end (function_in t) fs c.loop-function.function-index c.loop-function-test.false) c.loop-function.invariant)
