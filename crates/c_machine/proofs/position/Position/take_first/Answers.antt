use Rattle.std.proofs.Common.{sym, ap, ◌∙◌}
use Rattle.std.specs.Prelude.{reverse}
use Rattle.c_code.specs.Machine.{Starting}
use Rattle.c_machine_stack.specs.Stacks.{held}
use Rattle.c_machine.specs.Positions.{laid}
use Rattle.c_machine.specs.Moves.{fed}
use Rattle.c_machine.specs.Wants.{told}
use Rattle.c_machine.proofs.position.Position.take_first.Goals as goal

pub returns-in-Some-clause-fed : goal.returns-in-Some-clause-fed
returns-in-Some-clause-fed c = λ placed.
    c.take_first_result.ensures.fed placed ∙ sym (ap (λ o. fed (laid c.args.code.now placed) (Starting o (reverse (held c.args.self.now.values))) (told c.args.answer)) c.in-Some.is)
