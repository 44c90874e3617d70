use Rattle.whole_runs.specs.Sides.{seen}
use Rattle.reference_recorder_marks.specs.Marks.{past}
use Rattle.reference_recorder_races.specs.Races.{races_with}
use Rattle.reference_recorder_races.proofs.Firsts.{none_more, other_thread, own_thread}
use Rattle.reference_recorder_races.proofs.race.one_more.Goals as goal

pub returns-then-other-thread : goal.returns-then-other-thread
returns-then-other-thread c = λ h. none_more (races_with (seen (past c.args.marks.now)) c.args.thread c.args.tested) c.args.other c.args.best h (own_thread (seen (past c.args.marks.now)) c.args.thread c.args.tested c.args.other c.if-other-thread.true)

pub returns : goal.returns
returns c = λ h. c.earlier.ensures (races_with (seen (past c.args.marks.now)) c.args.thread c.args.tested) h (other_thread (seen (past c.args.marks.now)) c.args.thread c.args.tested c.args.other _ c.if-other-thread.false c.in_ok-found.ensures)
