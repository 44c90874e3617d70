use Rattle.std.proofs.Common.{Some, None}
use Rattle.replay_runs.specs.Checks.{Done}
use Rattle.reference_recorder_findings.proofs.Lists.{found_is}
use Rattle.reference_recorder_ranges.specs.Below.{forbidden_check}
use Rattle.reference_recorder_ranges.proofs.RangesBelow.{forbidden, lost, rest}
use Rattle.reference_recorder_ranges.proofs.below.touched.Goals as goal

pub returns-in-Some : goal.returns-in-Some
returns-in-Some c = λ w p h.
    forbidden w p c.args.thread c.args.write c.args.range c.in-Some.found
    (found_is (forbidden_check w p c.args.thread c.args.write c.args.range Done) c.in_ok-found.field-0 (Some c.in-Some.found) c.in-Some.is (c.in_ok-found.ensures w p h))

pub returns-in-Some-lost : goal.returns-in-Some-lost
returns-in-Some-lost c = λ w p h.
    lost w p c.args.thread c.args.write c.args.range
    (found_is (forbidden_check w p c.args.thread c.args.write c.args.range Done) c.in_ok-found.field-0 None c.in_default.is (c.in_ok-found.ensures w p h))
    c.in-Some-lost.found (c.in-Some-lost.ensures w p h)

pub returns : goal.returns
returns c = λ w p h.
    rest w p c.args.thread c.args.write c.args.range
    (found_is (forbidden_check w p c.args.thread c.args.write c.args.range Done) c.in_ok-found.field-0 None c.in_default.is (c.in_ok-found.ensures w p h))
    (c.in_default-lost.ensures w p h) c.read_only.result c.read_only.ensures
