use Rattle.std.proofs.Common.{◌≡◌, false, ap, length, arith}
use Rattle.c_code.specs.Fits.{values_of}
use Rattle.c_code.specs.Machine.{Under}
use Rattle.c_machine_stack.specs.Stacks.{held}
use Rattle.c_machine.specs.Positions.{laid, config, config_of}
use Rattle.c_machine.specs.Readers.{args_of, func_at}
use Rattle.c_machine.specs.Callers.{side_at}
use Rattle.c_machine.proofs.Runs.{enough, own_many, run_begun}
use Rattle.c_machine.proofs.position.Position.run.Goals as goal

pub run_call-requires-clause-enough : goal.run_call-requires-clause-enough
run_call-requires-clause-enough c =
    let l = laid c.args.code.now c.args.placed.now in
    let vs = held c.args.self.now.values in
    let ws = held c.args.self.now.waits.all in
    let here = config c.args.self.now in
    let call = c.in-Calling.call in
    let at_call : here ≡ Under call vs ws = ap (λ s. config_of s vs ws) c.in-Calling.is in
    enough l here call vs ws at_call (func_at here) (args_of here) (side_at l here) false c.requires.may.1

pub run_call-requires-clause-values : goal.run_call-requires-clause-values
run_call-requires-clause-values c =
    let l = laid c.args.code.now c.args.placed.now in
    let vs = held c.args.self.now.values in
    let ws = held c.args.self.now.waits.all in
    let here = config c.args.self.now in
    let call = c.in-Calling.call in
    let at_call : here ≡ Under call vs ws = ap (λ s. config_of s vs ws) c.in-Calling.is in
    let le = enough l here call vs ws at_call (func_at here) (args_of here) (side_at l here) false c.requires.may.1 in
    omega (arith, c.requires.values, ap (λ d. length (values_of d)) at_call, own_many l here call vs ws at_call le)

pub returns-in-Calling-clause-run : goal.returns-in-Calling-clause-run
returns-in-Calling-clause-run c =
    let l = laid c.args.code.now c.args.placed.now in
    let vs = held c.args.self.now.values in
    let ws = held c.args.self.now.waits.all in
    let here = config c.args.self.now in
    let call = c.in-Calling.call in
    let at_call : here ≡ Under call vs ws = ap (λ s. config_of s vs ws) c.in-Calling.is in
    run_begun l here call vs ws at_call c.crosses.result (config c.run_call.new.self) c.requires.may c.crosses.ensures c.run_call.ensures.run
