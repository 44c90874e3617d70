use Rattle.std.proofs.Common.{◌≡◌, ◌^◌, ◌<◌, ◌≤◌, length, length-append, drop, ap, arith}
use Rattle.c_lower.specs.Lowered.{codes_of, infos_from}
use Rattle.c_lower.proofs.Gathered.{codes_whole, infos_whole}
use Rattle.c_lower.proofs.Short.{all_short, frame_met, numbers, short_met}
use Rattle.c_lower.proofs.Valid.{valid_made}
use Rattle.c_lower.proofs.lowering.code.Goals as goal

pub new-requires : goal.new-requires
new-requires c = numbers c.args.program.now c.requires.fit c.requires.texts

pub function_info-requires-clause-frame : goal.function_info-requires-clause-frame
function_info-requires-clause-frame c =
    let lt : c.loop-function.function-index < length c.functions-function-items.result.now = omega arith in
    frame_met c.args.program.now c.in_ok-index.index c.functions-function-items.result.now c.loop-function.function-index c.function-item.result c.in_ok-index.ensures
    c.functions-function-items.ensures.functions lt c.function-item.is c.requires.fit

pub function_info-requires-clause-short : goal.function_info-requires-clause-short
function_info-requires-clause-short c =
    let p = c.args.program.now in
    let lt : c.loop-function.function-index < length c.functions-function-items.result.now = omega arith in
    short_met p c.in_ok-index.index c.functions-function-items.result.now c.loop-function.function-index c.function-item.result c.in_ok-index.ensures
    c.functions-function-items.ensures.functions lt c.function-item.is (all_short p c.requires.fit c.requires.few c.emitted_code_is_steady.ensures)

pub new-requires-2 : goal.new-requires-2
new-requires-2 c =
    let p = c.args.program.now in
    let fs = p.functions in
    let k = c.loop-function.function-index in
    let end : length fs ≤ k = omega (arith, ap length c.functions-function-items.ensures.functions) in
    let infos : c.loop-function.sources.items ≡ infos_from p 0 fs = infos_whole p fs k c.loop-function.sources.items (infos_from p 0 fs) (length c.loop-function.instrs.items) end c.loop-function.invariant.infos in
    let instrs : c.loop-function.instrs.items ≡ codes_of p fs = codes_whole p fs k c.loop-function.instrs.items (codes_of p fs) end c.loop-function.invariant.instrs in
    valid_made p c.in_ok-builtins.builtins.items c.loop-function.sources.items c.loop-function.instrs.items (c.in_ok-builtins.ensures p) infos instrs c.requires.fit c.requires.few
    c.emitted_code_is_steady.ensures
