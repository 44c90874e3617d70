use Rattle.std.proofs.Common.{◌≡◌, subst, arith}
use Rattle.whole_runs.specs.Sides.{seen}
use Rattle.reference_recorder_marks.specs.Marks.{past}
use Rattle.reference_recorder_races.specs.Races.{IsFirstBelow, races_with}
use Rattle.reference_recorder_races.proofs.Firsts.{first_of_all}
use Rattle.reference_recorder_races.proofs.race.first_race.Goals as goal

pub loop-other-init : goal.loop-other-init
loop-other-init c = λ u x lt e. absurd (omega (arith, lt))

pub loop-other-preserved : goal.loop-other-preserved
loop-other-preserved c = c.in_ok-best.ensures c.loop-other.invariant

pub returns : goal.returns
returns c =
    let at_end : c.loop-other.other ≡ c.threads-count.result = omega arith in
    first_of_all (seen (past c.args.marks.now)) c.args.thread c.args.tested c.threads-count.result c.loop-other.best c.threads-count.ensures.above
    (subst (λ n. IsFirstBelow (races_with (seen (past c.args.marks.now)) c.args.thread c.args.tested) n c.loop-other.best) at_end c.loop-other.invariant)
