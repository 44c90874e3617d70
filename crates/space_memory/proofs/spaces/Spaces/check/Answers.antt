use Rattle.std.proofs.Common.{◌≡◌, ◌↔◌, Err, subst}
use Rattle.space_memory_access.specs.Accesses.{IsRefused}
use Rattle.space_memory.specs.Spaces.{SpaceState}
use Rattle.space_memory.proofs.spaces.Spaces.check.Goals as goal

pub returns-clause-refused : goal.returns-clause-refused
returns-clause-refused c = λ r.
    subst (λ (s : SpaceState). (c.check_access.result ≡ Err r) ↔ IsRefused s.bytes s.held.regions (record { side = c.args.side; thread = c.args.thread; range = c.args.range; write = c.args.write }) r) c.self.view_is (c.check_access.ensures.refused r)
