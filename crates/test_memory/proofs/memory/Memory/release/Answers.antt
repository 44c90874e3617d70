use Rattle.std.proofs.Common.{◌≡◌, List, Option, ℕ, length, ap, sym, ◌∙◌}
use Rattle.space_memory_access.specs.declared.holder.OpenCall.{OpenCall}
use Rattle.space_memory_access.specs.declared.holder.Region.{Region}
use Rattle.space_memory_access.specs.Held.{innermost, without_closed}
use Rattle.space_memory.specs.Releases.{outs_of, committed_key}
use Rattle.test_memory.specs.Held.{holders_of}
use Rattle.test_memory.proofs.Holders.{same_closed, same_count}
use Rattle.test_memory.proofs.memory.Memory.release.Goals as goal

pub release-requires-clause-sizes : goal.release-requires-clause-sizes
release-requires-clause-sizes c =
    let m = c.args.self.now in
    let known = c.in-Some.ensures.known in
    c.if-used-out_count.false
    ∙ c.out_count.ensures
    ∙ ap (λ (rs : List Region). length (outs_of c.innermost.result rs)) c.as_slice.ensures
    ∙ ap (λ (call : OpenCall). length (outs_of call m.held.regions)) c.innermost.ensures
    ∙ same_count m.held m.spaces.held c.in-Some.thread (m.depths known) (m.holders known)

pub invariant_of-self-2-clause-holders : goal.invariant_of-self-2-clause-holders
invariant_of-self-2-clause-holders c = λ known.
    let m = c.args.self.now in
    ap holders_of c.close.ensures.regions
    ∙ ap (λ (key : Option ℕ). holders_of (without_closed (innermost m.held c.in-Some.thread) key m.held.regions)) c.key_of.ensures
    ∙ same_closed m.held m.spaces.held c.in-Some.thread (committed_key c.args.commit) (m.depths known) (m.holders known)
    ∙ sym (ap holders_of c.in_default-release.ensures.regions)
