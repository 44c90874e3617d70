use Rattle.std.proofs.Common.{w32, is_some, ap, ◌∙◌}
use Rattle.std.proofs.lemmas.Int.{to_z-of_z}
use Rattle.system_side.specs.System.{SystemState, holder}
use Rattle.system_side.proofs.system.System.is_held.Goals as goal

pub returns : goal.returns
returns c = c.contains_key.ensures ∙ ap (λ k. is_some (holder c.self.inside.held.entries k)) (to_z-of_z w32 c.args.m c.ranges.m) ∙ ap (λ (s : SystemState). is_some (holder s.held c.args.m)) c.self.view_is
