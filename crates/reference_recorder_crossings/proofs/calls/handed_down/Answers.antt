use Rattle.std.proofs.Common.{Some, None}
use Rattle.replay_runs.specs.Checks.{Done, read_checks}
use Rattle.whole_runs.specs.World.{begin}
use Rattle.whole_runs.specs.Sides.{seen}
use Rattle.reference_recorder_findings.proofs.Lists.{found_is, ok_for}
use Rattle.reference_recorder_crossings.specs.Parts.{call_checks, region_checks}
use Rattle.reference_recorder_crossings.proofs.CallChecks.{read, registered, rest}
use Rattle.reference_recorder_crossings.proofs.calls.handed_down.Goals as goal

pub returns-in-Some : goal.returns-in-Some
returns-in-Some c = λ w p h. registered w p c.args.thread c.args.done.now c.registers.result.now c.registers.ensures c.in-Some.found (c.in-Some.ensures w h.is.placed)

pub returns-in-Some-2 : goal.returns-in-Some-2
returns-in-Some-2 c = λ w p h.
    read w p c.args.thread c.args.done.now c.registers.result.now c.registers.ensures (c.in_default.ensures w h.is.placed) c.ins.result.now c.ins.ensures c.in-Some-2.found
    (found_is (read_checks (begin w) (seen p) c.args.thread c.ins.result.now Done) c.in_ok-found.field-0 (Some c.in-Some-2.found) c.in-Some-2.is (c.in_ok-found.ensures w p h))

pub returns : goal.returns
returns c = λ w p h.
    ok_for c.held_back.result (region_checks w p c.args.thread c.args.done.now) (call_checks w p c.args.thread c.args.done.now)
    (rest w p c.args.thread c.args.done.now c.registers.result.now c.registers.ensures (c.in_default.ensures w h.is.placed) c.ins.result.now c.ins.ensures
    (found_is (read_checks (begin w) (seen p) c.args.thread c.ins.result.now Done) c.in_ok-found.field-0 None c.in_default-2.is (c.in_ok-found.ensures w p h)))
    (c.held_back.ensures w p h)
