use Rattle.std.proofs.Common.{refl, sym, ◌∙◌}
use Rattle.recorder_state.specs.Inputs.{world_of}
use Rattle.reference_recorder_made.proofs.Wanted.{frame_next}
use Rattle.reference_recorder_made.proofs.making.call_back.Goals as goal

pub up-requires : goal.up-requires
up-requires c = record {
  size = c.args.size;
  next = c.requires;
  back = sym (c.is_called_back.ensures (world_of c.args.inputs) refl) ∙ c.if-is_called_back.true;
}

pub returns-then-is_called_back : goal.returns-then-is_called_back
returns-then-is_called_back c = λ t. c.up.ensures (record {
  size = c.args.size;
  next = t;
  back = sym (c.is_called_back.ensures (world_of c.args.inputs) refl) ∙ c.if-is_called_back.true;
})

pub enter-requires : goal.enter-requires
enter-requires c =
    frame_next c.args.size (sym (c.is_called_back.ensures (world_of c.args.inputs) refl) ∙ c.if-is_called_back.false) c.requires

pub returns : goal.returns
returns c = λ t. c.enter.ensures
    (frame_next c.args.size (sym (c.is_called_back.ensures (world_of c.args.inputs) refl) ∙ c.if-is_called_back.false) t)
