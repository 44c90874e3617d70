use Rattle.std.proofs.Common.{ℕ, get_or, refl, arith}
use Rattle.whole_runs.specs.World.{interface}
use Rattle.reference_recorder_findings.proofs.Calls.{mode_found, mode_passed, modes_kept}
use Rattle.reference_recorder_uses.proofs.running.modes.Goals as goal

pub loop-func-init : goal.loop-func-init
loop-func-init c = λ w e o found. found

pub returns-in-Some : goal.returns-in-Some
returns-in-Some c = λ w e.
    let one : ℕ = get_or c.args.funcs.now c.loop-func.func-index 0 in
    mode_found (interface w) c.args.side c.args.funcs.now c.loop-func.func-index one 0 c.in-Some.found (omega arith) refl (c.loop-func.invariant w e) (c.in-Some.ensures w e)

pub loop-func-preserved : goal.loop-func-preserved
loop-func-preserved c = λ w e.
    let one : ℕ = get_or c.args.funcs.now c.loop-func.func-index 0 in
    mode_passed (interface w) c.args.side c.args.funcs.now c.loop-func.func-index one 0 (omega arith) refl (c.loop-func.invariant w e) (c.in_default.ensures w e)

pub returns : goal.returns
returns c = λ w e. modes_kept (interface w) c.args.side c.args.funcs.now c.loop-func.func-index (omega arith) (c.loop-func.invariant w e)
