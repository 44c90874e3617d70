use Rattle.std.proofs.Common.{ap, ◌∙◌}
use Rattle.stub_meaning.specs.Calls.{Done}
use Rattle.recorder_state.specs.Inputs.{world_of}
use Rattle.reference_recorder_call_events.proofs.returns.regions.Goals as goal

pub returns : goal.returns
returns c =
    c.in_ok-regions.ensures.items ∙ (c.outs.ensures ∙ ap (λ (d : Done). d.outs) (c.in_ok-say.ensures (world_of c.args.memory.inputs) c.annotations-annotations.ensures))
