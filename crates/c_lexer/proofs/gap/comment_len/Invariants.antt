use Rattle.std.proofs.Common.{◌≡◌, drop}
use Rattle.c_lexer.specs.Gaps.{comment_length}
use Rattle.c_lexer.proofs.Comments.{later}
use Rattle.c_lexer.proofs.gap.comment_len.Given as goal

abbrev pub invariant-loop-at : goal.invariant-loop-at
invariant-loop-at l = later l.at (comment_length (drop l.at l.bytes)) ≡ comment_length l.bytes
