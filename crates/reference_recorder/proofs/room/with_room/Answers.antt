use Rattle.std.proofs.Common.{sym, subst}
use Rattle.recorder_state.specs.Inputs.{world_of}
use Rattle.reference_recorder.specs.Steps.{ComesNext, IsRoomFor}
use Rattle.reference_recorder.proofs.room.with_room.Goals as goal

pub returns-in-Some : goal.returns-in-Some
returns-in-Some c = λ m.
    let w = world_of c.args.inputs in
    subst (ComesNext w c.args.marks.now m.past) (sym c.halted.ensures)
    (subst (IsRoomFor w m.past.run c.args.mark) c.in-Some.is (c.in_ok-why.ensures m))

pub returns-in-None : goal.returns-in-None
returns-in-None c = λ m. subst (IsRoomFor (world_of c.args.inputs) m.past.run c.args.mark) c.in-None.is (c.in_ok-why.ensures m)
