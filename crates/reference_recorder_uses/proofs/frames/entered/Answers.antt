use Rattle.std.proofs.Common.{true, subst}
use Rattle.marks.specs.declared.side.Side.TheVariants.{Replay}
use Rattle.marks.specs.Ranges.{range}
use Rattle.replay_runs.specs.Checks.{Done, race_check}
use Rattle.whole_runs.specs.World.{begin}
use Rattle.whole_runs.specs.Sides.{seen}
use Rattle.reference_recorder_marks.specs.Marks.{past}
use Rattle.reference_recorder_findings.proofs.Lists.{ok_for}
use Rattle.reference_recorder_uses.specs.Checks.{frame_checks}
use Rattle.reference_recorder_uses.proofs.Room.{IsRoom, entered_at, full_above}
use Rattle.reference_recorder_uses.proofs.frames.entered.Goals as goal

pub returns-in-Some : goal.returns-in-Some
returns-in-Some c = λ w p h.
    let room = subst (IsRoom w (past c.args.run.marks.now) Replay c.args.thread c.args.size) c.in-Some.is (c.in_ok-addr.ensures w) in
    ok_for c.race.result (race_check (seen p) c.args.thread true (range c.in-Some.addr c.args.size) Done) (frame_checks (begin w) (seen p) c.args.thread c.args.size)
    (entered_at w p (past c.args.run.marks.now) h.same c.args.thread c.args.size c.in-Some.addr room.0 room.1) (c.race.ensures w p h)

pub returns-in-None : goal.returns-in-None
returns-in-None c = λ w p h.
    full_above w p (past c.args.run.marks.now) h.same c.args.thread c.args.size
    (subst (IsRoom w (past c.args.run.marks.now) Replay c.args.thread c.args.size) c.in-None.is (c.in_ok-addr.ensures w))
