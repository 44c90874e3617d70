use Rattle.std.proofs.Common.{ℕ, ◌≡◌, ◌+◌, ◌-◌, ◌<◌, ◌⊎◌, Option, inl, inr, sym, subst, arith}
use Rattle.marks.specs.Ranges.{IsFirstIn, IsInRange}
use Rattle.space_memory_bytes.specs.Areas.{IsDead}
use Rattle.space_memory_access.specs.Held.{IsServed}
use Rattle.space_memory_access.specs.Accesses.{IsWithoutRight}
use Rattle.space_memory_access.proofs.Rights.{first_without}
use Rattle.space_memory_access.proofs.access.first_without_right.Goals as goal

-- no byte is one of replay memory
pub returns-in_err-first : goal.returns-in_err-first
returns-in_err-first c =
    subst (λ (o : Option ℕ). IsFirstIn c.args.access.range (IsWithoutRight c.args.bytes.now c.args.held.now.regions c.args.access) o) (sym c.from_residual.ensures)
    (λ x in' without. c.in_err-first.ensures x in' without.0)

pub returns : goal.returns
returns c =
    let least = c.in_ok-first.ensures in
    let replay = least.holds in
    let in' = least.in_range in
    subst (λ (o : Option ℕ). IsFirstIn c.args.access.range (IsWithoutRight c.args.bytes.now c.args.held.now.regions c.args.access) o) (sym c.earlier.ensures)
    (first_without c.args.bytes.now c.args.held.now.regions c.args.access (record { addr = c.in_ok-first.first; len = c.min-end.result - c.in_ok-first.first })
    (λ x in'' replay'. (least.least x in'' replay', omega (arith, in''.1, in''.2, replay'.1, least.least x in'' replay'), in''.2))
    (λ x part. ((omega (arith, in'.0, part.0), omega (arith, part.1), part.2), (omega (arith, replay.0, part.0), omega (arith, part.1), part.2)))
    c.first_dead-dead.result c.first_unserved-unserved.result c.first_dead-dead.ensures.first c.first_unserved-unserved.ensures)
