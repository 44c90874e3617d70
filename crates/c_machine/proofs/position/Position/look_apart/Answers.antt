use Rattle.std.proofs.Common.{subst}
use Rattle.c_machine_stack.specs.Stacks.{held}
use Rattle.c_machine.specs.Positions.{laid, config_of}
use Rattle.c_machine.specs.Moves.{FitsIn}
use Rattle.c_machine.proofs.position.Position.look_apart.Goals as goal

pub look_at-requires-clause-fits : goal.look_at-requires-clause-fits
look_at-requires-clause-fits c = subst (λ s. FitsIn (laid c.args.code.now c.args.placed.now) (config_of s (held c.args.self.now.values) (held c.args.self.now.waits.all))) c.in-Going.is c.requires.fits
