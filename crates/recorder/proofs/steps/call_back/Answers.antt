use Rattle.std.proofs.Common.{sym, ◌∙◌, arith}
use Rattle.recorder_state.specs.Inputs.{world_of}
use Rattle.recorder.proofs.Known.{known}
use Rattle.recorder.proofs.steps.call_back.Goals as goal

pub is_called_back-requires : goal.is_called_back-requires
is_called_back-requires c =
    let at = c.requires.at in
    let lt = known c.args.inputs.code.now c.args.func at.told.1.body in
    let n = at.reached.around.functions in
    omega (arith, lt, n)

pub up-requires : goal.up-requires
up-requires c =
    let at = c.requires.at in
    record {
      size = c.args.size;
      at = at;
      back = sym (c.is_called_back.ensures (world_of c.args.inputs) at.reached.past c.requires.main at.reached.around.interface) ∙ c.if-is_called_back.true;
    }

pub call_back-requires : goal.call_back-requires
call_back-requires c =
    let at = c.requires.at in
    (at, sym (c.is_called_back.ensures (world_of c.args.inputs) at.reached.past c.requires.main at.reached.around.interface) ∙ c.if-is_called_back.false)
