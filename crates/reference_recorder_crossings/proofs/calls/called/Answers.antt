use Rattle.marks.specs.Wants.{Calls}
use Rattle.replay_runs.specs.Checks.{checks}
use Rattle.whole_runs.specs.World.{begin, interface}
use Rattle.whole_runs.specs.Sides.{seen}
use Rattle.reference_recorder_findings.proofs.Lists.{ok_for}
use Rattle.reference_recorder_crossings.specs.Parts.{call_checks}
use Rattle.reference_recorder_crossings.proofs.CallChecks.{rightly, wrongly}
use Rattle.reference_recorder_crossings.proofs.calls.called.Goals as goal

pub returns-in-Some : goal.returns-in-Some
returns-in-Some c = λ w p h a. wrongly w p c.args.thread c.args.through_pointer c.args.func c.args.args.now c.in-Some.found (c.in-Some.ensures w h.is.placed)

pub returns : goal.returns
returns c = λ w p h a.
    ok_for c.handed_down.result (call_checks w p c.args.thread c.in_ok-done.done) (checks (interface w) (begin w) (seen p) c.args.thread (Calls c.args.through_pointer c.args.func c.args.args.now))
    (rightly w p c.args.thread c.args.through_pointer c.args.func c.args.args.now (c.in_default.ensures w h.is.placed) c.in_ok-done.done (c.in_ok-done.ensures w a))
    (c.handed_down.ensures w p h)
