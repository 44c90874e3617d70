use Rattle.std.proofs.Common.{sym, ◌∙◌}
use Rattle.c_lexer.proofs.Comments.{comment_on}
use Rattle.c_lexer.proofs.gap.comment_len.Goals as goal

pub loop-at-preserved : goal.loop-at-preserved
loop-at-preserved c = comment_on c.args.bytes.now c.loop-at.at _ c.loop-at-test.true (rw (← c.split_at.ensures.back) (sym c.starts_with.ensures.value ∙ c.if-starts_with.false)) c.loop-at.invariant
