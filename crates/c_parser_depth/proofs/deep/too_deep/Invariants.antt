use Rattle.std.proofs.Common.{[], reverse, take}
use Rattle.c_parser_actions.specs.Pieces.{acted}
use Rattle.c_parser_depth.specs.Seen.{seen}
use Rattle.c_parser_depth.proofs.Measures.{Measures}
use Rattle.c_parser_depth.proofs.deep.too_deep.Given as goal

-- the stack has longest chains of the pieces that the actions so far make
abbrev pub invariant-loop-action : goal.invariant-loop-action
invariant-loop-action l = Measures (acted (reverse (take l.action-index l.actions)) []) (seen l.chains)
