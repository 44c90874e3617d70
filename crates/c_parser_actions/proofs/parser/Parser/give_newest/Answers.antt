use Rattle.c_parser_moves.proofs.MachineSteps.{give_next}
use Rattle.c_parser_actions.proofs.Newest.{newest_goes}
use Rattle.c_parser_actions.proofs.parser.Parser.give_newest.Goals as goal

pub returns-in-Some : goal.returns-in-Some
returns-in-Some c =
    newest_goes c.go.result c.args.self.now c.pop.new.self c.go.new.self c.args.next c.in-Some.frame c.args.rest.now c.in-Some.ensures.opens c.pop.ensures.acts
    (c.go.ensures (give_next c.args.next c.in-Some.frame c.args.rest.now) c.give.ensures)
