use Rattle.marks.specs.declared.side.Side.TheVariants.{Replay}
use Rattle.recorder_threads.specs.declared.wants.Want.TheVariants as wants
use Rattle.recorder_plain.proofs.Steps.{few}
use Rattle.recorder_events.proofs.Steps.{watch_few}
use Rattle.recorder_calls.proofs.Called.{ends}
use Rattle.recorder_calls.proofs.Ends.{call_refused, ended_with}
use Rattle.recorder_calls.proofs.testing.stop_full.Goals as goal

pub test-requires-clause-in_range : goal.test-requires-clause-in_range
test-requires-clause-in_range c = let h = c.requires.next.1 in few c.requires.next.0 c.args.state.now c.args.thread Replay (wants.Call h.indirect h.func) h.at

pub test-requires-clause-few : goal.test-requires-clause-few
test-requires-clause-few c = let h = c.requires.next.1 in watch_few c.requires.next.0 c.args.state.now h.at.reached

pub returns-in-Ok : goal.returns-in-Ok
returns-in-Ok c = λ w h full.
    ended_with w c.args.state.now (record { above = c.test.new.above }) c.args.ending c.in-Ok.ensures.spaces
    (ends w c.args.state.now c.args.thread c.args.regions.now c.args.keys.now c.args.event.now h c.in-Ok.ensures.parts.0 c.in-Ok.ensures.parts.1 c.in-Ok.ensures.passes c.args.ending full)

pub returns-in-Err : goal.returns-in-Err
returns-in-Err c = λ w h full.
    c.stop_of.ensures w _ (λ cause. call_refused w c.args.state.now c.args.thread c.args.regions.now c.args.keys.now c.args.event.now h c.in-Err.refusal (record { above = c.test.new.above }) c.in-Err.ensures.refused (c.in-Err.ensures.unchanged cause) (c.in-Err.ensures.watch cause))
