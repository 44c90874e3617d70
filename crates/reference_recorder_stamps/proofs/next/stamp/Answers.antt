use Rattle.std.proofs.Common.{◌+◌, suc, add-one, ap, ◌∙◌, arith}
use Rattle.reference_recorder_marks.specs.Marks.{past}
use Rattle.reference_recorder_stamps.proofs.Stamped.{clock_small, stamp_is, stamp_keys}
use Rattle.reference_recorder_stamps.proofs.next.stamp.Goals as goal

pub overflow_add-clock : goal.overflow_add-clock
overflow_add-clock c = let z = clock_small (past c.args.marks.now) c.args.thread c.args.keys.now c.requires.clocks in omega (arith, z, c.latest-before.ensures)

pub returns-clause-keys : goal.returns-clause-keys
returns-clause-keys c = stamp_keys (past c.args.marks.now) c.args.thread c.args.keys.now (record { steps = c.steps_since-steps.result; clock = c.latest-before.result + 1; keys = c.in_ok-keys.keys }) (record { steps = c.steps_since-steps.ensures; keys = c.in_ok-keys.ensures ∙ c.in_ok-tickets.ensures; clock = add-one c.latest-before.result ∙ ap suc c.latest-before.ensures })

pub returns-clause-numbers : goal.returns-clause-numbers
returns-clause-numbers c = stamp_is (past c.args.marks.now) c.args.thread c.args.keys.now (record { steps = c.steps_since-steps.result; clock = c.latest-before.result + 1; keys = c.in_ok-keys.keys }) c.requires.events (record { steps = c.steps_since-steps.ensures; keys = c.in_ok-keys.ensures ∙ c.in_ok-tickets.ensures; clock = add-one c.latest-before.result ∙ ap suc c.latest-before.ensures })
