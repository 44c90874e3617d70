use Rattle.std.proofs.Common.{sym, ◌∙◌}
use Rattle.reference_recorder_marks.specs.Marks.{mark_of}
use Rattle.reference_recorder_races.proofs.OneMark.{after_met, after_skipped}
use Rattle.reference_recorder_races.proofs.acts.met_after.Goals as goal

pub returns-then-is_above : goal.returns-then-is_above
returns-then-is_above c = after_met c.args.tested c.args.other c.args.known (mark_of c.args.one.now) (sym c.is_above.ensures ∙ c.if-is_above.true) c.met_mark-found.result c.args.best c.least.result c.met_mark-found.ensures c.least.ensures

pub returns : goal.returns
returns c = after_skipped c.args.tested c.args.other c.args.known (mark_of c.args.one.now) (sym c.is_above.ensures ∙ c.if-is_above.false) c.args.best
