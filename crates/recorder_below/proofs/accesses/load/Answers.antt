use Rattle.std.proofs.Common.{refl}
use Rattle.marks.specs.declared.side.Side.TheVariants.{System}
use Rattle.recorder_threads.specs.declared.wants.Want.TheVariants as told
use Rattle.recorder_state.specs.Inputs.{world_of}
use Rattle.recorder_plain.proofs.Steps.{few}
use Rattle.recorder_below.proofs.Made.{load_goes_on, load_stops}
use Rattle.recorder_below.proofs.accesses.load.Goals as goal

pub load_below-requires-clause-in_range : goal.load_below-requires-clause-in_range
load_below-requires-clause-in_range c = few (world_of c.args.inputs) c.args.state.now c.args.thread System (told.Load c.args.addr c.args.width) c.requires

pub load_below-requires-clause-some : goal.load_below-requires-clause-some
load_below-requires-clause-some c = c.requires.told.2.some

pub load_below-requires-clause-at_most_8 : goal.load_below-requires-clause-at_most_8
load_below-requires-clause-at_most_8 c = c.requires.told.2.few

pub go_on-requires : goal.go_on-requires
go_on-requires c = load_goes_on (world_of c.args.inputs) c.args.state.now c.args.thread c.args.addr c.args.width c.requires c.in-Ok.value c.args.state.now.memory c.in-Ok.ensures.fits c.in-Ok.ensures.loaded

pub returns-in-Err-clause-stopped : goal.returns-in-Err-clause-stopped
returns-in-Err-clause-stopped c = load_stops (world_of c.args.inputs) c.args.state.now c.args.thread c.args.addr c.args.width c.requires c.in-Err.refusal c.of.result c.args.state.now.memory c.of.ensures c.in-Err.ensures.refused refl
