use Rattle.c_parser_actions.specs.Seen.{seen}
use Rattle.c_parser_actions.specs.Ahead.{Foretells}
use Rattle.c_parser_actions.proofs.Weight.{weight}
use Rattle.c_parser_actions.proofs.Runs.{Reaches}
use Rattle.c_parser_actions.proofs.Exact.{start, made}
use Rattle.c_parser_actions.proofs.postfix.actions.Given as goal

-- the machine comes from the start to here, and the table is right for the tokens that are left
abbrev pub invariant-loop-at : goal.invariant-loop-at
invariant-loop-at l = record {
  reached : Reaches (start l.tokens) (made (seen l.next l.rest l.parser));
  foretold : Foretells l.ahead.items l.rest;
}

abbrev pub decreases-loop-at : goal.decreases-loop-at
decreases-loop-at l = weight (seen l.next l.rest l.parser)
