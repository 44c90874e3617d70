use Rattle.std.proofs.Common.{◌≡◌, ◌↔◌, ℕ, false, IsNone, subst}
use Rattle.system_side.specs.Threads.{is_ready}
use Rattle.system_side.specs.System.{SystemState}
use Rattle.system_side.proofs.system.System.pick.Goals as goal

pub returns-clause-none : goal.returns-clause-none
returns-clause-none c =
    subst (λ (s : SystemState). IsNone c.pick.result ↔ ((t : ℕ) → is_ready s.threads t ≡ false)) c.self.view_is c.pick.ensures.none
