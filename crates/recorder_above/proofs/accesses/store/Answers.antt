use Rattle.marks.specs.declared.side.Side.TheVariants.{Replay}
use Rattle.recorder_threads.specs.declared.wants.Want.TheVariants as told
use Rattle.recorder_state.specs.Inputs.{world_of}
use Rattle.recorder_plain.proofs.Steps.{few}
use Rattle.recorder_above.proofs.Made.{store_goes_on, store_stops}
use Rattle.recorder_above.proofs.accesses.store.Goals as goal

pub store_above-requires-clause-in_range : goal.store_above-requires-clause-in_range
store_above-requires-clause-in_range c = few (world_of c.args.inputs) c.args.state.now c.args.thread Replay (told.Store c.args.addr c.args.width c.args.value) c.requires

pub store_above-requires-clause-some : goal.store_above-requires-clause-some
store_above-requires-clause-some c = c.requires.told.2.some

pub store_above-requires-clause-at_most_8 : goal.store_above-requires-clause-at_most_8
store_above-requires-clause-at_most_8 c = c.requires.told.2.few

pub go_on-requires : goal.go_on-requires
go_on-requires c = store_goes_on (world_of c.args.inputs) c.args.state.now c.args.thread c.args.addr c.args.width c.args.value c.requires c.store_above.new.self c.in-Ok.ensures.stored

pub returns-in-Err-clause-stopped : goal.returns-in-Err-clause-stopped
returns-in-Err-clause-stopped c = store_stops (world_of c.args.inputs) c.args.state.now c.args.thread c.args.addr c.args.width c.args.value c.requires c.in-Err.refusal c.of.result c.store_above.new.self c.of.ensures c.in-Err.ensures.refused c.in-Err.ensures.unchanged
