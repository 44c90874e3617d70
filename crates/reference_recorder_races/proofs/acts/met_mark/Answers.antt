use Rattle.std.proofs.Common.{sym, ◌∙◌}
use Rattle.reference_recorder_marks.specs.Marks.{mark_of}
use Rattle.reference_recorder_races.proofs.OneMark.{mark_met, mark_passed}
use Rattle.reference_recorder_races.proofs.acts.met_mark.Goals as goal

pub returns-then-is_unknown : goal.returns-then-is_unknown
returns-then-is_unknown c = mark_met c.args.tested c.args.other c.args.known (mark_of c.args.one.now) c.met_act.result (sym c.is_unknown.ensures ∙ c.if-is_unknown.true) c.met_act.ensures

pub returns : goal.returns
returns c = mark_passed c.args.tested c.args.other c.args.known (mark_of c.args.one.now) (sym c.is_unknown.ensures ∙ c.if-is_unknown.false)
