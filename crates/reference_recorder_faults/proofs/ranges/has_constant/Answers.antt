use Rattle.std.proofs.Common.{sym, ◌∙◌}
use Rattle.reference_recorder_faults.proofs.FirstBad.{constant_found}
use Rattle.reference_recorder_faults.proofs.ranges.has_constant.Goals as goal

pub returns : goal.returns
returns c = let found = constant_found c.args.range c.read_only.result c.read_only.ensures in (λ e. found.0 (sym c.is_some.ensures ∙ e), λ s. c.is_some.ensures ∙ found.1 s)
