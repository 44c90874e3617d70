use Rattle.std.proofs.Common.{reverse}
use Rattle.c_parser_actions.proofs.Foretold.{Told}
use Rattle.c_parser_actions.proofs.ahead.look_ahead.Given as goal

-- so it is for the tokens from this place on
abbrev pub invariant-loop-at : goal.invariant-loop-at
invariant-loop-at l = Told l.tokens l.at l.table.items (reverse l.closers.items)
