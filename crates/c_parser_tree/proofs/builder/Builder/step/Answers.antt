use Rattle.c_parser_tree.proofs.Braced.{steps_braces}
use Rattle.c_parser_tree.proofs.Run.{steps_other, is_other}
use Rattle.c_parser_tree.proofs.builder.Builder.step.Goals as goal

pub returns-in-Braces : goal.returns-in-Braces
returns-in-Braces c = rw c.in-Braces.is (steps_braces c.in-Braces.from c.args.self.now c.close_braces.result c.close_braces.new.self c.close_braces.ensures)

pub returns-in_default : goal.returns-in_default
returns-in_default c = steps_other c.args.action c.args.self.now c.make_leaf.result c.make_leaf.new.self (is_other c.args.action c.in_default.not-Braces) c.make_leaf.ensures
