use Rattle.std.proofs.Common.{◌≡◌, length}
use Rattle.c_parser_moves.specs.Words.{skip_consts}
use Rattle.c_parser_moves.proofs.words.after_consts.Given as goal

abbrev pub invariant-loop-rest : goal.invariant-loop-rest
invariant-loop-rest l = skip_consts l.rest ≡ skip_consts l.tokens

abbrev pub decreases-loop-rest : goal.decreases-loop-rest
decreases-loop-rest l = length l.rest
