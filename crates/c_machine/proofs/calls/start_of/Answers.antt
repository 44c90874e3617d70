use Rattle.c_machine.specs.Positions.{laid}
use Rattle.c_machine.proofs.Runs.{start_well}
use Rattle.c_machine.proofs.calls.start_of.Goals as goal

pub returns-clause-well : goal.returns-clause-well
returns-clause-well c = λ placed arg lt. start_well (laid c.args.code.now placed) c.check.ensures c.args.address arg c.callee.result (c.callee.ensures placed) lt
