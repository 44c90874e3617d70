use Rattle.std.proofs.Common.{List, length, None, subst}
use Rattle.run_events.specs.declared.key.Key.{Key}
use Rattle.recorder_events.specs.Room.{IsRoomOrEnd}
use Rattle.recorder_returns.proofs.Made.{ends, few}
use Rattle.recorder_returns.proofs.recording.make.Goals as goal

pub full-requires-clause-keys : goal.full-requires-clause-keys
full-requires-clause-keys c = few _ c.args.state.now c.args.thread c.args.func _ _ c.args.returning.now c.args.ranges.now c.args.event c.requires.2 c.as_slice-keys.result.now c.as_slice-keys.ensures.value

pub full-requires-clause-event : goal.full-requires-clause-event
full-requires-clause-event c = c.requires.2.body

pub put-requires-clause-room : goal.put-requires-clause-room
put-requires-clause-room c = subst (λ (ks : List Key). IsRoomOrEnd c.args.state.now.book c.args.event (length ks) None) c.as_slice-keys.ensures.value c.in-None.ensures

pub returns-in-Some-clause-stopped : goal.returns-in-Some-clause-stopped
returns-in-Some-clause-stopped c = ends _ c.args.state.now c.args.thread c.args.func _ _ c.args.returning.now c.args.ranges.now c.args.event c.requires.2 c.as_slice-keys.result.now c.as_slice-keys.ensures.value c.in-Some.ending c.in-Some.ensures
