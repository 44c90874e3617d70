use Rattle.marks.specs.declared.side.Side.TheVariants.{Replay}
use Rattle.recorder_state.specs.Inputs.{world_of}
use Rattle.reference_recorder_acts.proofs.Marked.{few_marks}
use Rattle.reference_recorder_faults.proofs.Found.{as_fault}
use Rattle.reference_recorder_faults.proofs.above.fault_above.Goals as goal

pub act_above-requires : goal.act_above-requires
act_above-requires c = (c.args.thread, c.requires)

pub next_mark-requires : goal.next_mark-requires
next_mark-requires c = few_marks (world_of c.args.inputs) c.args.marks.now c.requires.at.past c.requires.at.step

pub returns : goal.returns
returns c = λ f.
    as_fault (world_of c.args.inputs) c.args.marks.now c.args.thread Replay c.args.args.now c.args.want c.args.kind f
    c.in_ok-act.act (c.in_ok-act.ensures c.args.thread f) c.next_mark.result c.next_mark.ensures
