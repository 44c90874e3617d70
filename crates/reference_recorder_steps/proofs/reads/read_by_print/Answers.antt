use Rattle.std.proofs.Common.{sym, subst}
use Rattle.recorder_state.specs.Inputs.{world_of}
use Rattle.reference_recorder_steps.specs.Reads.{AllThere, AreRead}
use Rattle.reference_recorder_steps.proofs.Reading.{named}
use Rattle.reference_recorder_steps.proofs.reads.read_by_print.Goals as goal

pub read_all-requires : goal.read_all-requires
read_all-requires c =
    let w = world_of c.args.inputs in
    subst (AllThere w c.args.marks.now)
    (sym (named w c.args.func c.args.args.now c.say.new.done c.ins.result.now (c.in_ok-say.ensures w c.annotations_of.ensures) c.ins.ensures))
    c.requires

pub returns : goal.returns
returns c =
    let w = world_of c.args.inputs in
    subst (λ rs. AreRead w c.args.marks.now rs c.in_ok-pieces.pieces.items)
    (named w c.args.func c.args.args.now c.say.new.done c.ins.result.now (c.in_ok-say.ensures w c.annotations_of.ensures) c.ins.ensures)
    c.in_ok-pieces.ensures
