use Rattle.std.proofs.Common.{◌∙◌, refl, ap}
use Rattle.std.specs.Prelude.{is_some}
use Rattle.recorder_state.specs.Inputs.{world_of}
use Rattle.reference_recorder_picks.proofs.free.is_ended.Goals as goal

pub result-returned-requires-clause-inside : goal.result-returned-requires-clause-inside
result-returned-requires-clause-inside c = (c.requires.threads c.requires.past).inside

pub returns : goal.returns
returns c = λ p. c.is_some.ensures ∙ ap is_some (c.result-returned.ensures (world_of c.args.inputs) p.run refl (c.requires.threads p))
