use Rattle.std.proofs.Common.{◌≡◌, ◌↔◌, Err, subst}
use Rattle.space_memory_access.specs.declared.holder.OpenCall.{OpenCall}
use Rattle.space_memory_access.specs.Held.{innermost}
use Rattle.space_memory.specs.Spaces.{SpaceState}
use Rattle.space_memory.specs.Releases.{IsReleaseRefused}
use Rattle.space_memory.proofs.spaces.Spaces.may_release.Goals as goal

pub returns-clause-refused : goal.returns-clause-refused
returns-clause-refused c = λ r.
    subst (λ (s : SpaceState). (c.check_release.result ≡ Err r) ↔ IsReleaseRefused s.bytes s.held.regions (innermost s.held c.args.thread) c.args.used.now c.args.commit r) c.self.view_is
    (subst (λ (call : OpenCall). (c.check_release.result ≡ Err r) ↔ IsReleaseRefused c.self.inside.bytes c.self.inside.held.regions call c.args.used.now c.args.commit r) c.innermost-call.ensures (c.check_release.ensures.refused r))
