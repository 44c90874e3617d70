use Rattle.marks.specs.declared.side.Side.TheVariants.{Replay}
use Rattle.recorder_threads.specs.declared.wants.Want.TheVariants as told
use Rattle.recorder_state.specs.Inputs.{world_of}
use Rattle.recorder_plain.proofs.Steps.{few}
use Rattle.recorder_above.proofs.Made.{load_goes_on, load_stops}
use Rattle.recorder_above.proofs.accesses.load.Goals as goal

pub load_above-requires-clause-in_range : goal.load_above-requires-clause-in_range
load_above-requires-clause-in_range c = few (world_of c.args.inputs) c.args.state.now c.args.thread Replay (told.Load c.args.addr c.args.width) c.requires

pub load_above-requires-clause-some : goal.load_above-requires-clause-some
load_above-requires-clause-some c = c.requires.told.2.some

pub load_above-requires-clause-at_most_8 : goal.load_above-requires-clause-at_most_8
load_above-requires-clause-at_most_8 c = c.requires.told.2.few

pub go_on-requires : goal.go_on-requires
go_on-requires c = load_goes_on (world_of c.args.inputs) c.args.state.now c.args.thread c.args.addr c.args.width c.requires c.in-Ok.value c.load_above.new.self c.in-Ok.ensures.fits c.in-Ok.ensures.loaded

pub returns-in-Err-clause-stopped : goal.returns-in-Err-clause-stopped
returns-in-Err-clause-stopped c = load_stops (world_of c.args.inputs) c.args.state.now c.args.thread c.args.addr c.args.width c.requires c.in-Err.refusal c.of.result c.load_above.new.self c.of.ensures c.in-Err.ensures.refused c.in-Err.ensures.unchanged
