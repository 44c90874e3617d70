use Rattle.std.proofs.Common.{sym, ◌∙◌}
use Rattle.recorder_state.specs.Inputs.{world_of}
use Rattle.reference_recorder_spaces.proofs.Answered.{on_ok}
use Rattle.reference_recorder_spaces.proofs.Seen.{done_above, next_above}
use Rattle.reference_recorder_spaces.proofs.after.add.Goals as goal

pub apply-requires : goal.apply-requires
apply-requires c = next_above (world_of c.args.inputs) c.args.spaces.now c.args.mark.now c.requires (sym c.is_above.ensures ∙ c.if-is_above.true)

pub returns-then-is_above : goal.returns-then-is_above
returns-then-is_above c = on_ok c.apply.result
    (λ done n. done_above (world_of c.args.inputs) c.args.spaces.now c.args.mark.now n (sym c.is_above.ensures ∙ c.if-is_above.true) c.apply.new.spaces done)
    c.apply.ensures
