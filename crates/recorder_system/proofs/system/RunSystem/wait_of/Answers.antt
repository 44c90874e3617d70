use Rattle.std.proofs.Common.{◌≡◌, cond, false, Some, None, is_some, w32, sym, ap, ◌∙◌}
use Rattle.std.proofs.lemmas.Int.{to_z-of_z}
use Rattle.system_side.specs.declared.threads.Wait.TheVariants.{Mutex}
use Rattle.system_side.specs.System.{SystemState, holder}
use Rattle.recorder_system.specs.Shown.{wait_for}
use Rattle.recorder_system.proofs.system.RunSystem.wait_of.Goals as goal

pub returns-else-is_held : goal.returns-else-is_held
returns-else-is_held c =
    let free : is_some (holder c.args.self.now.held c.args.arg) ≡ false =
    sym (c.is_held.ensures ∙ (ap (λ z. is_some (holder c.self.inside.system.held z)) (to_z-of_z w32 c.args.arg c.ranges.arg) ∙ ap (λ (s : SystemState). is_some (holder s.held c.args.arg)) c.self.view_is)) ∙ c.if-is_held.false in
    sym (ap (wait_for c.args.self.now c.args.thread c.args.arg) (c.in_ok-builtin.was ∙ ap Some c.in-Lock.is) ∙ ap (λ b. cond b (Some (Mutex c.args.arg)) None) free)
