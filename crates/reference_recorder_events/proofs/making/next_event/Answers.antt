use Rattle.std.proofs.Common.{arith}
use Rattle.recorder_state.specs.Inputs.{world_of}
use Rattle.reference_recorder_events.proofs.making.next_event.Goals as goal

pub stamp-requires-clause-few : goal.stamp-requires-clause-few
stamp-requires-clause-few c = let n = c.runs_are_short.ensures.marks (world_of c.args.inputs) c.args.marks.now c.requires in omega (arith, n)

pub stamp-requires-clause-events : goal.stamp-requires-clause-events
stamp-requires-clause-events c = c.events_can_be_stamped.ensures.seen (world_of c.args.inputs) c.args.marks.now c.requires

pub stamp-requires-clause-clocks : goal.stamp-requires-clause-clocks
stamp-requires-clause-clocks c = c.events_can_be_stamped.ensures.clocks (world_of c.args.inputs) c.args.marks.now c.requires

pub count-index-requires : goal.count-index-requires
count-index-requires c = let n = c.runs_are_short.ensures.marks (world_of c.args.inputs) c.args.marks.now c.requires in omega (arith, n)
