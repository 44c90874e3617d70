use Rattle.std.proofs.Common.{◌≡◌, ◌⊎◌, ℕ, ◌+◌, ◌-◌, ◌^◌, ◌≤◌, Bool, true, None, arith}
use Rattle.marks.specs.Ranges.{any_range}
use Rattle.marks.specs.Bytes.{Dead, IsHeld}
use Rattle.replay_runs.specs.Runs.{byte}
use Rattle.whole_runs.specs.World.{begin}
use Rattle.whole_runs.specs.Sides.{seen}
use Rattle.whole_runs.specs.Memory.{real}
use Rattle.whole_runs.specs.Below.{IsForbidden}
use Rattle.whole_runs.specs.Tests.{is_changed}
use Rattle.reference_recorder_scans.proofs.Found.{changed_held, forbidden_low, least_bad, some_changed}
use Rattle.reference_recorder_scans.proofs.laws.first_bytes_are_least.Goals as goal

pub returns-clause-dead : goal.returns-clause-dead
returns-clause-dead c = λ w p r first fits low h.
    least_bad r (λ x. (byte (begin w) x (seen p)).cell ≡ Dead) first (λ x past cov d. (fits, (low (2 ^ 64 - 1) (omega arith)).0)) h

pub returns-clause-pending : goal.returns-clause-pending
returns-clause-pending c = λ w p more r first low lives h.
    least_bad r (λ x. IsHeld (byte (begin w) x (seen p)).cell ⊎ (any_range more x ≡ true)) first (λ x past cov d. absurd (lives x cov (low x (omega (arith, past))).0)) h

pub returns-clause-forbidden : goal.returns-clause-forbidden
returns-clause-forbidden c = λ w p t write r first h.
    least_bad r (IsForbidden w p t write) first (λ x past cov f. absurd (forbidden_low x f.0 past)) h

pub returns-clause-lost : goal.returns-clause-lost
returns-clause-lost c = λ w p r first fits low h.
    least_bad r (λ x. real w p x ≡ None) first (λ x past cov d. (fits, (low (2 ^ 64 - 1) (omega arith)).1)) h

pub returns-clause-changed : goal.returns-clause-changed
returns-clause-changed c = λ w p memory r used first low h.
    let changed : ℕ → Bool = λ x. is_changed (byte (begin w) x (seen p)).cell (memory x) in
    some_changed r used changed first
    (least_bad r (λ x. (r.addr + used ≤ x) × (changed x ≡ true)) first (λ x past cov d. absurd (changed_held (byte (begin w) x (seen p)).cell (memory x) d.1 (low x (omega (arith, past))).0)) h)
