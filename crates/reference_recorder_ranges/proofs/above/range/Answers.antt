use Rattle.std.proofs.Common.{Some, None}
use Rattle.replay_runs.specs.Checks.{Done, race_check}
use Rattle.whole_runs.specs.World.{begin}
use Rattle.whole_runs.specs.Sides.{seen}
use Rattle.reference_recorder_findings.proofs.Lists.{found_is}
use Rattle.reference_recorder_findings.proofs.Ranges.{dead, other_space, pending, raced, rest}
use Rattle.reference_recorder_ranges.proofs.above.range.Goals as goal

pub returns-in-Some : goal.returns-in-Some
returns-in-Some c = λ w p h. other_space (begin w) (seen p) c.args.thread c.args.write c.args.more.now c.args.range c.in-Some.found c.in-Some.ensures

pub returns-in-Some-2 : goal.returns-in-Some-2
returns-in-Some-2 c = λ w p h.
    raced (begin w) (seen p) c.args.thread c.args.write c.args.more.now c.args.range c.in_default.ensures c.in-Some-2.found
    (found_is (race_check (seen p) c.args.thread c.args.write c.args.range Done) c.in_ok-found.field-0 (Some c.in-Some-2.found) c.in-Some-2.is (c.in_ok-found.ensures w p h.is))

pub returns-in-Some-dead : goal.returns-in-Some-dead
returns-in-Some-dead c = λ w p h.
    dead (begin w) (seen p) c.args.thread c.args.write c.args.more.now c.args.range c.in_default.ensures
    (found_is (race_check (seen p) c.args.thread c.args.write c.args.range Done) c.in_ok-found.field-0 None c.in_default-2.is (c.in_ok-found.ensures w p h.is))
    c.in-Some-dead.found (c.in-Some-dead.ensures w p h)

pub returns-in-Some-pending : goal.returns-in-Some-pending
returns-in-Some-pending c = λ w p h.
    pending (begin w) (seen p) c.args.thread c.args.write c.args.more.now c.args.range c.in_default.ensures
    (found_is (race_check (seen p) c.args.thread c.args.write c.args.range Done) c.in_ok-found.field-0 None c.in_default-2.is (c.in_ok-found.ensures w p h.is))
    (c.in_default-dead.ensures w p h) c.in-Some-pending.found (c.in-Some-pending.ensures w p h (c.in_default-dead.ensures w p h))

pub returns : goal.returns
returns c = λ w p h.
    rest (begin w) (seen p) c.args.thread c.args.write c.args.more.now c.args.range c.in_default.ensures
    (found_is (race_check (seen p) c.args.thread c.args.write c.args.range Done) c.in_ok-found.field-0 None c.in_default-2.is (c.in_ok-found.ensures w p h.is))
    (c.in_default-dead.ensures w p h) (c.in_default-pending.ensures w p h (c.in_default-dead.ensures w p h)) c.read_only.result c.read_only.ensures
