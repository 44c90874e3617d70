use Rattle.std.proofs.Common.{subst}
use Rattle.marks.specs.declared.side.Side.TheVariants.{Replay, System}
use Rattle.recorder_state.specs.Inputs.{world_of}
use Rattle.reference_recorder_faults.specs.Faults.{IsAtFault}
use Rattle.reference_recorder.proofs.Going.{fault_on}
use Rattle.reference_recorder.proofs.ends.fault_mark.Goals as goal

pub fault_above-requires : goal.fault_above-requires
fault_above-requires c = subst (λ d. IsAtFault (world_of c.args.inputs) c.args.marks.now c.args.thread d c.args.args.now c.args.want c.args.kind) c.in-Replay.is c.requires

pub fault_below-requires : goal.fault_below-requires
fault_below-requires c = subst (λ d. IsAtFault (world_of c.args.inputs) c.args.marks.now c.args.thread d c.args.args.now c.args.want c.args.kind) c.in-System.is c.requires

pub returns-in-Replay : goal.returns-in-Replay
returns-in-Replay c = fault_on (world_of c.args.inputs) c.args.marks.now c.args.thread c.args.side Replay c.args.args.now c.args.want c.args.kind c.fault_above.result c.in-Replay.is c.fault_above.ensures

pub returns-in-System : goal.returns-in-System
returns-in-System c = fault_on (world_of c.args.inputs) c.args.marks.now c.args.thread c.args.side System c.args.args.now c.args.want c.args.kind c.fault_below.result c.in-System.is c.fault_below.ensures
