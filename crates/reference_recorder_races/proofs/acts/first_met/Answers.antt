use Rattle.std.proofs.Common.{◌≤◌, List, length, subst, take, sym, arith}
use Rattle.std.proofs.lemmas.List.{take_all}
use Rattle.whole_runs.specs.Sides.{seen}
use Rattle.reference_recorder_marks.specs.declared.mark.Mark as coded
use Rattle.marks.specs.Marks.{Mark}
use Rattle.reference_recorder_marks.specs.Marks.{past}
use Rattle.reference_recorder_marks.proofs.Past.{past_more}
use Rattle.reference_recorder_races.specs.Least.{IsLeastAt}
use Rattle.reference_recorder_races.specs.Hits.{meets_any}
use Rattle.reference_recorder_races.proofs.OneMark.{nothing_met}
use Rattle.reference_recorder_races.proofs.acts.first_met.Goals as goal

pub loop-one-init : goal.loop-one-init
loop-one-init c = nothing_met c.args.tested c.args.other c.args.known

pub loop-one-preserved : goal.loop-one-preserved
loop-one-preserved c =
    subst (λ (p : List Mark). IsLeastAt (meets_any c.args.tested c.args.other c.args.known (seen p)) c.met_after-best.result) (sym (past_more c.args.marks.now c.loop-one.one-index c.one-item.result c.loop-one-test.true c.one-item.is))
    (c.met_after-best.ensures (past (take c.loop-one.one-index c.args.marks.now)) c.loop-one.invariant)

pub returns : goal.returns
returns c =
    let le : length c.args.marks.now ≤ c.loop-one.one-index = omega arith in
    subst (λ (ms : List coded.Mark). IsLeastAt (meets_any c.args.tested c.args.other c.args.known (seen (past ms))) c.loop-one.best) (take_all c.loop-one.one-index c.args.marks.now le) c.loop-one.invariant
