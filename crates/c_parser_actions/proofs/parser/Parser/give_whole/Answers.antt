use Rattle.c_parser_moves.specs.declared.frame.Next.TheVariants as nexts
use Rattle.c_parser_moves.proofs.MachineSteps.{give_next}
use Rattle.c_parser_actions.proofs.Newest.{newest_goes}
use Rattle.c_parser_actions.proofs.parser.Parser.give_whole.Goals as goal

pub returns-in-Some : goal.returns-in-Some
unfolding give_next
returns-in-Some c =
    newest_goes c.go.result c.args.self.now c.pop.new.self c.go.new.self nexts.Value c.in-Some.frame c.args.rest.now c.in-Some.ensures.opens c.pop.ensures.acts
    (c.go.ensures (give_next nexts.Value c.in-Some.frame c.args.rest.now) c.give_value.ensures)
