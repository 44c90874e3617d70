use Rattle.std.proofs.Common.{[], reverse, take}
use Rattle.c_parser_actions.specs.Pieces.{acted}
use Rattle.c_parser_nodes.proofs.Measures.{Measures}
use Rattle.c_parser_nodes.specs.Tallies.{seen}
use Rattle.c_parser_nodes.proofs.nodes.node_count.Given as goal

-- the stack has the tallies of the pieces that the actions so far make
abbrev pub invariant-loop-action : goal.invariant-loop-action
invariant-loop-action l = Measures (acted (reverse (take l.action-index l.actions)) []) (seen l.tallies)
