use Rattle.std.proofs.Common.{List, length, ap, ◌∙◌}
use Rattle.space_memory_access.specs.declared.holder.OpenCall.{OpenCall}
use Rattle.space_memory_access.specs.declared.holder.Region.{Region}
use Rattle.space_memory.specs.Releases.{outs_of}
use Rattle.test_memory.proofs.Holders.{same_count}
use Rattle.test_memory.proofs.memory.Memory.may_release.Goals as goal

pub may_release-requires-clause-sizes : goal.may_release-requires-clause-sizes
may_release-requires-clause-sizes c =
    let m = c.args.self.now in
    let known = c.in-Some.ensures.known in
    c.if-used-out_count.false
    ∙ c.out_count.ensures
    ∙ ap (λ (rs : List Region). length (outs_of c.innermost.result rs)) c.as_slice.ensures
    ∙ ap (λ (call : OpenCall). length (outs_of call m.held.regions)) c.innermost.ensures
    ∙ same_count m.held m.spaces.held c.in-Some.thread (m.depths known) (m.holders known)
