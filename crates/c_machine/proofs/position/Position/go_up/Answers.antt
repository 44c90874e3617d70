use Rattle.std.proofs.Common.{◌≡◌, true, ap}
use Rattle.c_code.specs.Machine.{Under}
use Rattle.marks.specs.declared.side.Side.TheVariants.{Replay}
use Rattle.c_machine_stack.specs.Stacks.{held}
use Rattle.c_machine.specs.Positions.{laid, config, config_of}
use Rattle.c_machine.specs.Readers.{args_of, func_at}
use Rattle.c_machine.proofs.Runs.{call_up, enough}
use Rattle.c_machine.proofs.position.Position.go_up.Goals as goal

pub up_call-requires-clause-enough : goal.up_call-requires-clause-enough
up_call-requires-clause-enough c =
    let l = laid c.args.code.now c.args.placed.now in
    let vs = held c.args.self.now.values in
    let ws = held c.args.self.now.waits.all in
    let here = config c.args.self.now in
    let call = c.in-Calling.call in
    let at_call : here ≡ Under call vs ws = ap (λ s. config_of s vs ws) c.in-Calling.is in
    enough l here call vs ws at_call (func_at here) (args_of here) Replay true c.requires.may.2

pub returns-in-Calling-clause-up : goal.returns-in-Calling-clause-up
returns-in-Calling-clause-up c =
    let l = laid c.args.code.now c.args.placed.now in
    let vs = held c.args.self.now.values in
    let ws = held c.args.self.now.waits.all in
    let here = config c.args.self.now in
    let call = c.in-Calling.call in
    let at_call : here ≡ Under call vs ws = ap (λ s. config_of s vs ws) c.in-Calling.is in
    call_up l here call vs ws at_call (config c.up_call.new.self) c.requires.may c.up_call.ensures.up
