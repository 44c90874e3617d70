use Rattle.std.proofs.Common.{sym, ◌∙◌}
use Rattle.reference_recorder_races.proofs.Leasts.{past_from, refused_no, refused_yes}
use Rattle.reference_recorder_races.proofs.hits.refused.Goals as goal

pub returns-then-in_both : goal.returns-then-in_both
returns-then-in_both c = refused_yes c.args.tested c.args.range c.past_constants-first.result (past_from c.args.tested c.args.range c.max-both.result c.past_constants-first.result c.max-both.ensures (record { variable = c.past_constants-first.ensures.variable; above = c.past_constants-first.ensures.above; least = c.past_constants-first.ensures.least })) (sym c.in_both.ensures ∙ c.if-in_both.true)

pub returns : goal.returns
returns c = refused_no c.args.tested c.args.range c.past_constants-first.result (past_from c.args.tested c.args.range c.max-both.result c.past_constants-first.result c.max-both.ensures (record { variable = c.past_constants-first.ensures.variable; above = c.past_constants-first.ensures.above; least = c.past_constants-first.ensures.least })) (sym c.in_both.ensures ∙ c.if-in_both.false)
