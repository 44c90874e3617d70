use Rattle.std.proofs.Common.{w32, ap, ◌∙◌}
use Rattle.std.proofs.lemmas.Int.{to_z-of_z}
use Rattle.system_side.specs.System.{SystemState, is_thread, holds}
use Rattle.system_side.proofs.system.System.holds.Goals as goal

pub returns-in-Some : goal.returns-in-Some
returns-in-Some c =
    ap (is_thread c.args.thread) c.in-Some.ensures.value ∙ ap (λ k. holds c.self.inside.held.entries c.args.thread k) (to_z-of_z w32 c.args.m c.ranges.m) ∙ ap (λ (s : SystemState). holds s.held c.args.thread c.args.m) c.self.view_is

pub returns-in-None : goal.returns-in-None
returns-in-None c =
    ap (is_thread c.args.thread) c.in-None.ensures.value ∙ ap (λ k. holds c.self.inside.held.entries c.args.thread k) (to_z-of_z w32 c.args.m c.ranges.m) ∙ ap (λ (s : SystemState). holds s.held c.args.thread c.args.m) c.self.view_is
