use Rattle.c_parser_actions.proofs.Exact.{one}
use Rattle.c_parser_actions.proofs.law.one_tree.Goals as goal

pub returns : goal.returns
returns c ts x y h k = one ts x y h k
