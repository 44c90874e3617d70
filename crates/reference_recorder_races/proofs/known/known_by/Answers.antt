use Rattle.std.proofs.Common.{◌≤◌, length, ◌∙◌, ap, arith}
use Rattle.std.proofs.lemmas.List.{take_all}
use Rattle.replay_runs.specs.Known.{known}
use Rattle.whole_runs.specs.Sides.{seen}
use Rattle.reference_recorder_marks.specs.Marks.{past}
use Rattle.reference_recorder_stamps.specs.Links.{link_of}
use Rattle.reference_recorder_races.proofs.Knowing.{known_more}
use Rattle.reference_recorder_races.proofs.known.known_by.Goals as goal

pub loop-at-preserved : goal.loop-at-preserved
loop-at-preserved c = λ t told. known_more c.args.marks.now c.loop-at.at c.index-marks-at.result c.loop-at-test.true c.index-marks-at.is c.args.told.now (link_of c.args.link) t c.loop-at.known c.known_after-known.result told c.known_after-known.ensures (c.loop-at.invariant t told)

pub returns : goal.returns
returns c = λ t told.
    let le : length c.args.marks.now ≤ c.loop-at.at = omega arith in
    c.loop-at.invariant t told ∙ ap (λ ms. known (seen (past ms)) (link_of c.args.link) t) (take_all c.loop-at.at c.args.marks.now le)
