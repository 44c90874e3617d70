use Rattle.std.proofs.Common.{◌≡◌, ◌↔◌, List, All, Result, Err, sym, subst}
use Rattle.std.proofs.lemmas.Result.{err_from_is_err_and}
use Rattle.space_memory_access.specs.declared.holder.OpenCall.{OpenCall}
use Rattle.space_memory_access.specs.declared.holder.Region.{Region}
use Rattle.space_memory_access.specs.Held.{innermost}
use Rattle.space_memory_access.specs.declared.refusal.Refusal.{Refusal}
use Rattle.space_memory.specs.Spaces.{IsWhole}
use Rattle.space_memory.specs.Releases.{IsReleaseRefused}
use Rattle.space_memory.proofs.Kept.{kept_regions, whole_without_closed}
use Rattle.space_memory.proofs.spaces.Spaces.release.Goals as goal

pub returns-in_err-check_release-clause-refused : goal.returns-in_err-check_release-clause-refused
returns-in_err-check_release-clause-refused c = λ r.
    let p = err_from_is_err_and c.from_residual.result c.from_residual.ensures.1 in
    let e = c.in_err-check_release.field-0.0 in
    let known = subst (λ (call : OpenCall). (◌≡◌ {A = Result (Unit {0}) Refusal} (Err e) (Err r)) ↔ IsReleaseRefused c.self.inside.bytes c.self.inside.held.regions call c.args.used.now c.args.commit r) c.innermost-call.ensures (c.in_err-check_release.ensures.refused r) in
    rw (p.1, p.2, ← c.self.view_is) known

pub invariant_of-self : goal.invariant_of-self
invariant_of-self c =
    let held = c.self.inside.held in
    kept_regions _ held.regions c.close.new.self.regions c.self.inside.sides c.self.invariant
    (subst (λ (rs : List Region). All IsWhole rs) (sym c.close.ensures.regions) (whole_without_closed (innermost held c.args.thread) c.committed_key.result held.regions c.self.invariant.regions))
