use Rattle.std.proofs.Common.{◌≡◌, false, length}
use Rattle.c_syntax.specs.TypeWords.{no_words}
use Rattle.c_parser_moves.specs.Words.{take_words}
use Rattle.c_parser_moves.proofs.words.words.Given as goal

abbrev pub invariant-loop-rest : goal.invariant-loop-rest
invariant-loop-rest l = take_words l.top l.pending l.words l.rest ≡ take_words l.top false no_words l.tokens

abbrev pub decreases-loop-rest : goal.decreases-loop-rest
decreases-loop-rest l = length l.rest
