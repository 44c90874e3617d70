use Rattle.std.proofs.Common.{refl, ap, ◌∙◌}
use Rattle.whole_runs.specs.Memory.{filled}
use Rattle.recorder_state.specs.Inputs.{world_of}
use Rattle.reference_recorder_call_events.proofs.memory.byte.Goals as goal

pub returns : goal.returns
returns c = c.filled.ensures ∙ ap (filled c.args.memory.answer.now c.args.addr) (c.real-before.ensures (world_of c.args.memory.inputs) refl)
