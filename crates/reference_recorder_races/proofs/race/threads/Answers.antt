use Rattle.std.proofs.Common.{◌<◌, List, subst, arith}
use Rattle.std.proofs.lemmas.List.{take_all}
use Rattle.causal_order.specs.Order.{In}
use Rattle.marks.specs.Marks as shown
use Rattle.whole_runs.specs.Sides.{seen}
use Rattle.reference_recorder_marks.specs.declared.mark.Mark.{Mark}
use Rattle.reference_recorder_marks.specs.Marks.{past}
use Rattle.reference_recorder_races.proofs.Firsts.{threads_more}
use Rattle.reference_recorder_races.proofs.race.threads.Goals as goal

pub loop-mark-init : goal.loop-mark-init
loop-mark-init c = (λ a i. absurd i, omega arith)

pub loop-mark-preserved : goal.loop-mark-preserved
loop-mark-preserved c = (
  threads_more c.args.marks.now c.loop-mark.mark-index c.mark-item.result c.loop-mark.count c.max-count.result c.loop-mark-test.true c.mark-item.is c.loop-mark.invariant.0 (omega (arith, c.max-count.ensures)) (omega (arith, c.max-count.ensures)),
  (let z = c.max-count.ensures in omega (arith, c.max-count.ensures, c.loop-mark.invariant.1)),
)

pub returns-clause-above : goal.returns-clause-above
returns-clause-above c = subst (λ (ms : List Mark). (a : shown.Mark) → In a (seen (past ms)) → a.thread < c.loop-mark.count) (take_all c.loop-mark.mark-index c.args.marks.now c.loop-mark-test.false) c.loop-mark.invariant.0
