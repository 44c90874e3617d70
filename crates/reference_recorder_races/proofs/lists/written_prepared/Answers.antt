use Rattle.std.proofs.Common.{◌≤◌, List, length, subst, arith}
use Rattle.std.proofs.lemmas.List.{take_all}
use Rattle.marks.specs.Ranges.{Prepared, any_prepared}
use Rattle.reference_recorder_races.specs.Least.{IsLeastAt}
use Rattle.reference_recorder_races.specs.Hits.{writing}
use Rattle.reference_recorder_races.proofs.Anys.{none_written, all_prepared}
use Rattle.reference_recorder_races.proofs.lists.written_prepared.Goals as goal

pub loop-one-init : goal.loop-one-init
loop-one-init c = none_written c.args.tested

pub loop-one-preserved : goal.loop-one-preserved
loop-one-preserved c = all_prepared c.args.tested c.args.prepared.now c.loop-one.one-index c.one-item.result c.loop-one-test.true c.one-item.is c.loop-one.best c.one_prepared-more.result c.least-best.result c.least-best.ensures c.loop-one.invariant c.one_prepared-more.ensures

pub returns : goal.returns
returns c =
    let le : length c.args.prepared.now ≤ c.loop-one.one-index = omega arith in
    subst (λ (xs : List Prepared). IsLeastAt (λ x. writing c.args.tested x (any_prepared xs x)) c.loop-one.best) (take_all c.loop-one.one-index c.args.prepared.now le) c.loop-one.invariant
