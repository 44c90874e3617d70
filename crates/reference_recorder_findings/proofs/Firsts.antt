-- What one check finds.
use Rattle.std.proofs.Common.{◌≡◌, ℕ, true, Option, Some, None, inl, inr, arith}
use Rattle.std.proofs.lemmas.Bool.Decides.{nat_tests}
use Rattle.marks.specs.Places.{is_constant, is_system}
use Rattle.marks.specs.declared.range.Range.{Range}
use Rattle.marks.specs.Ranges.{IsInRange, IsLeastIn, NoneIn, covers}
use Rattle.memory_map.specs.declared.areas.TheConstants.{CONSTANTS, SYSTEM_MEMORY}
use Rattle.replay_runs.specs.Checks.{Check, Done, Least}
use Rattle.replay_runs.specs.Checks as checks
use Rattle.reference_recorder_findings.specs.declared.finding.Finding.{Finding}
use Rattle.reference_recorder_findings.specs.Findings.{IsFound, finding_of}

module _ (Bad : ℕ → Type 0) (Found : ℕ → checks.Finding → Type 0) where
  -- nothing is bad
  pub nothing : ((x : ℕ) → Bad x → ⊥) → IsFound (Check Bad Found Done) None
  nothing none = (none, tt)

  -- the least of what is bad
  pub least : (x : ℕ) (f : Finding) → Least Bad x → Found x (finding_of f) → IsFound (Check Bad Found Done) (Some f)
  least x f bad found = inl (x, bad, found)

-- what is bad is in other words what is so, and is found in other words
pub same_check : (P Q : ℕ → Type 0) (F G : ℕ → checks.Finding → Type 0) (o : Option Finding) → ((x : ℕ) → P x → Q x) → ((x : ℕ) → Q x → P x) →
    ((x : ℕ) (f : checks.Finding) → F x f → G x f) → IsFound (Check P F Done) o → IsFound (Check Q G Done) o
same_check P Q F G None to from say h = nothing Q G (λ x q. h.0 x (from x q))
same_check P Q F G (Some f) to from say h = elim h [
  | inl here ↦ least Q G here.0 f (to here.0 here.1.0, λ y q. here.1.1 y (from y q)) (say here.0 (finding_of f) here.2)
  | inr later ↦ absurd later.1
]

-- the first byte of a range at which P holds, where that is what is bad
module _ (r : Range) (P Bad : ℕ → Type 0) (to : (x : ℕ) → IsInRange r x → P x → Bad x) (from : (x : ℕ) → Bad x → IsInRange r x × P x)
    (Found : ℕ → checks.Finding → Type 0) where
  pub first_found : (x : ℕ) (f : Finding) → Found x (finding_of f) → IsLeastIn r P x → IsFound (Check Bad Found Done) (Some f)
  first_found x f say h = least Bad Found x f (to x h.in_range h.holds, λ y bad. let p = from y bad in h.least y p.0 p.1) say

  pub none_found : NoneIn r P → IsFound (Check Bad Found Done) None
  none_found h = nothing Bad Found (λ x bad. let p = from x bad in h x p.0 p.1)

pub covered : (r : Range) (x : ℕ) → IsInRange r x → covers r x ≡ true
covered r x inside = grind (arith, nat_tests)

-- ---- areas

pub system_in : (x : ℕ) → IsInRange SYSTEM_MEMORY x → is_system x ≡ true
system_in x inside = grind (arith, nat_tests)

pub in_system : (r : Range) (x : ℕ) → covers r x ≡ true → is_system x ≡ true → IsInRange r x × IsInRange SYSTEM_MEMORY x
in_system r x c e = ((grind (arith, nat_tests), grind (arith, nat_tests), grind (arith, nat_tests)), (grind (arith, nat_tests), grind (arith, nat_tests), grind (arith, nat_tests)))

pub constant_in : (x : ℕ) → IsInRange CONSTANTS x → is_constant x ≡ true
constant_in x inside = grind (arith, nat_tests)

pub in_constants : (r : Range) (x : ℕ) → covers r x ≡ true → is_constant x ≡ true → IsInRange r x × IsInRange CONSTANTS x
in_constants r x c e = ((grind (arith, nat_tests), grind (arith, nat_tests), grind (arith, nat_tests)), (grind (arith, nat_tests), grind (arith, nat_tests), grind (arith, nat_tests)))
