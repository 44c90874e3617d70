use Rattle.std.proofs.Common.{◌≡◌, ℕ, true, None, refl}
use Rattle.marks.specs.declared.breach.BreachKind.TheVariants.{OtherSpace}
use Rattle.marks.specs.Places.{is_system}
use Rattle.marks.specs.Ranges.{IsInRange, covers}
use Rattle.memory_map.specs.declared.areas.TheConstants.{SYSTEM_MEMORY}
use Rattle.replay_runs.specs.Checks.{is_breach_found}
use Rattle.reference_recorder_findings.specs.declared.finding.Finding.TheVariants.{Breach}
use Rattle.reference_recorder_findings.proofs.Firsts.{covered, first_found, in_system, none_found, system_in}
use Rattle.reference_recorder_findings.proofs.areas.other_space.Goals as goal

pub returns-in-Some : goal.returns-in-Some
returns-in-Some c =
    first_found c.args.range (IsInRange SYSTEM_MEMORY) (λ (x : ℕ). (covers c.args.range x ≡ true) × (is_system x ≡ true))
    (λ x inside p. (covered c.args.range x inside, system_in x p)) (λ x bad. in_system c.args.range x bad.0 bad.1) (is_breach_found OtherSpace)
    c.in-Some.address (Breach OtherSpace c.in-Some.address None) refl c.in-Some.ensures

pub returns-in-None : goal.returns-in-None
returns-in-None c =
    none_found c.args.range (IsInRange SYSTEM_MEMORY) (λ (x : ℕ). (covers c.args.range x ≡ true) × (is_system x ≡ true))
    (λ x inside p. (covered c.args.range x inside, system_in x p)) (λ x bad. in_system c.args.range x bad.0 bad.1) (is_breach_found OtherSpace)
    c.in-None.ensures
