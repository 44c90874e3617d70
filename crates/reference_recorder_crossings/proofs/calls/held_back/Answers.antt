use Rattle.std.proofs.Common.{[], Some, None, ◌∙◌}
use Rattle.replay_runs.specs.Checks.{Done, hold_checks, key_checks}
use Rattle.whole_runs.specs.World.{begin}
use Rattle.whole_runs.specs.Sides.{seen}
use Rattle.reference_recorder_findings.proofs.Lists.{found_is, ok_for}
use Rattle.reference_recorder_crossings.specs.Parts.{region_checks}
use Rattle.reference_recorder_crossings.proofs.CallChecks.{all_held, right, wrong}
use Rattle.reference_recorder_crossings.proofs.calls.held_back.Goals as goal

pub returns-in-Some : goal.returns-in-Some
returns-in-Some c = λ w p h.
    wrong w p c.args.thread c.args.done.now c.deref.result.now
    (all_held w p c.args.thread c.args.done.now c.deref.result.now c.outs.result.now c.prepares-prepared.result.now (c.deref.ensures.value ∙ c.in_ok-held.ensures) c.outs.ensures c.prepares-prepared.ensures)
    c.in-Some.found
    (found_is (hold_checks (begin w) (seen p) c.args.thread [] c.deref.result.now Done) c.in_ok-found.field-0 (Some c.in-Some.found) c.in-Some.is (c.in_ok-found.ensures w p h))

pub returns : goal.returns
returns c = λ w p h.
    ok_for c.keys.result (key_checks (begin w) (seen p) [] c.prepares-prepared.result.now Done) (region_checks w p c.args.thread c.args.done.now)
    (right w p c.args.thread c.args.done.now c.deref.result.now
    (all_held w p c.args.thread c.args.done.now c.deref.result.now c.outs.result.now c.prepares-prepared.result.now (c.deref.ensures.value ∙ c.in_ok-held.ensures) c.outs.ensures c.prepares-prepared.ensures)
    (found_is (hold_checks (begin w) (seen p) c.args.thread [] c.deref.result.now Done) c.in_ok-found.field-0 None c.in_default.is (c.in_ok-found.ensures w p h))
    c.prepares-prepared.result.now c.prepares-prepared.ensures)
    (c.keys.ensures w p h.is)
