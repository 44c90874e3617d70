use Rattle.std.proofs.Common.{◌≡◌, ℕ, true, refl}
use Rattle.marks.specs.declared.fault.FaultKind.TheVariants.{ReadOnly}
use Rattle.marks.specs.Places.{is_constant}
use Rattle.marks.specs.Ranges.{IsInRange, covers}
use Rattle.memory_map.specs.declared.areas.TheConstants.{CONSTANTS}
use Rattle.replay_runs.specs.Checks.{is_fault_found}
use Rattle.reference_recorder_findings.specs.declared.finding.Finding.TheVariants.{Fault}
use Rattle.reference_recorder_findings.proofs.Firsts.{constant_in, covered, first_found, in_constants, none_found}
use Rattle.reference_recorder_findings.proofs.areas.read_only.Goals as goal

pub returns-in-Some : goal.returns-in-Some
returns-in-Some c =
    first_found c.args.range (IsInRange CONSTANTS) (λ (x : ℕ). (covers c.args.range x ≡ true) × (c.args.write ≡ true) × (is_constant x ≡ true))
    (λ x inside p. (covered c.args.range x inside, c.if-not-write.false, constant_in x p)) (λ x bad. in_constants c.args.range x bad.0 bad.2) (is_fault_found ReadOnly)
    c.in-Some.field-0 (Fault ReadOnly) refl c.in-Some.ensures

pub returns-in-None : goal.returns-in-None
returns-in-None c =
    none_found c.args.range (IsInRange CONSTANTS) (λ (x : ℕ). (covers c.args.range x ≡ true) × (c.args.write ≡ true) × (is_constant x ≡ true))
    (λ x inside p. (covered c.args.range x inside, c.if-not-write.false, constant_in x p)) (λ x bad. in_constants c.args.range x bad.0 bad.2) (is_fault_found ReadOnly)
    c.in-None.ensures
