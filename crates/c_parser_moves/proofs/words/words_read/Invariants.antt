use Rattle.std.proofs.Common.{◌≡◌, ◌+◌, false, length}
use Rattle.c_syntax.specs.TypeWords.{no_words}
use Rattle.c_parser_moves.specs.Words.{words_taken}
use Rattle.c_parser_moves.proofs.words.words_read.Given as goal

abbrev pub invariant-loop-rest : goal.invariant-loop-rest
invariant-loop-rest l = (l.count + words_taken l.top l.pending l.words l.rest ≡ words_taken l.top false no_words l.tokens) ×
    (l.count + length l.rest ≡ length l.tokens)

abbrev pub decreases-loop-rest : goal.decreases-loop-rest
decreases-loop-rest l = length l.rest
