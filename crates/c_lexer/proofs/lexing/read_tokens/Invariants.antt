use Rattle.std.proofs.Common.{◌≡◌, ◌+◌, length}
use Rattle.c_lexer.specs.Lexing.{InOrder}
use Rattle.c_lexer.proofs.Readings.{Rests}
use Rattle.c_lexer.proofs.lexing.read_tokens.Given as goal

abbrev pub invariant-loop-line : goal.invariant-loop-line
invariant-loop-line l = record {
  reads : Rests l.source l.tokens.items l.fresh l.at l.rest;
  order : InOrder 0 l.tokens.items l.at;
  place : l.at + length l.rest ≡ length l.source;
}

abbrev pub decreases-loop-line : goal.decreases-loop-line
decreases-loop-line l = length l.rest
