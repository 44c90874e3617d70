use Rattle.std.proofs.Common.{refl, ap, ◌∙◌}
use Rattle.stub_meaning.specs.Calls.{Done}
use Rattle.whole_runs.specs.Steps.{first_read}
use Rattle.recorder_state.specs.Inputs.{world_of}
use Rattle.reference_recorder_faults.proofs.below.first_said.Goals as goal

pub returns : goal.returns
returns c =
    let w = world_of c.args.inputs in
    c.access_to.ensures ∙ ap first_read (c.ins.ensures ∙ ap (λ (d : Done). d.ins) (c.in_ok-say.ensures w (record { code = refl; stubs = refl })))
