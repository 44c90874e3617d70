use Rattle.whole_runs.specs.Log.{act_printed, system_output}
use Rattle.std.proofs.Common.{ℕ, List, ◌++◌, refl}
use Rattle.marks.specs.Marks.{Mark}
use Rattle.reference_recorder_marks.proofs.Past.{folded, folds}
use Rattle.reference_recorder_log.proofs.output.system_output.Goals as goal

abbrev step : Mark → List ℕ → List ℕ
step m bytes = bytes ++ act_printed m.act

pub loop-mark-preserved : goal.loop-mark-preserved
loop-mark-preserved c = folds system_output step (λ m p. refl) c.args.marks.now c.loop-mark.mark-index c.mark-item.result c.loop-mark-test.true c.mark-item.is c.loop-mark.bytes.items c.add_below.new.to.items c.loop-mark.invariant c.in_ok-add_below.ensures

pub returns : goal.returns
returns c = folded system_output c.args.marks.now c.loop-mark.mark-index c.loop-mark-test.false c.loop-mark.bytes.items c.loop-mark.invariant
