use Rattle.std.proofs.Common.{◌∙◌}
use Rattle.marks.specs.Wants.{same_numbers}
use Rattle.recorder_state.proofs.begin.is_named_main.Goals as goal

pub returns : goal.returns
returns c = c.same_bytes.ensures ∙ (λ i. same_numbers (c.as_slice.ensures i) (c.as_slice-2.ensures i))
