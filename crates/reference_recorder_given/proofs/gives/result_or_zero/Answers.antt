use Rattle.std.proofs.Common.{◌∙◌, refl, ap}
use Rattle.std.specs.Prelude.{unwrap_or}
use Rattle.recorder_state.specs.Inputs.{world_of}
use Rattle.reference_recorder_given.proofs.gives.result_or_zero.Goals as goal

pub result-returned-requires-clause-inside : goal.result-returned-requires-clause-inside
result-returned-requires-clause-inside c = (c.requires.threads c.requires.past).inside

pub returns : goal.returns
returns c = λ p.
    c.unwrap_or.ensures
    ∙ ap (λ o. unwrap_or o 0) (c.result-returned.ensures (world_of c.args.inputs) p.run refl (c.requires.threads p))
