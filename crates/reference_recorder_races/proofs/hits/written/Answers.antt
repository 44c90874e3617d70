use Rattle.std.proofs.Common.{sym, ◌∙◌}
use Rattle.reference_recorder_races.proofs.Leasts.{written_no, written_yes}
use Rattle.reference_recorder_races.proofs.hits.written.Goals as goal

pub returns-then-in_both : goal.returns-then-in_both
returns-then-in_both c = written_yes c.args.tested c.args.range c.max-first.result c.max-first.ensures (sym c.in_both.ensures ∙ c.if-in_both.true)

pub returns : goal.returns
returns c = written_no c.args.tested c.args.range c.max-first.result c.max-first.ensures (sym c.in_both.ensures ∙ c.if-in_both.false)
