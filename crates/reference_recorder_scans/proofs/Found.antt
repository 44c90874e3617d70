-- Checks and scans find the same.
use Rattle.std.proofs.Common.{◌≡◌, ℕ, ◌+◌, ◌-◌, ◌^◌, ◌<◌, ◌≤◌, Bool, true, Option, Some, None, IsSome, refl, inl, inr, arith}
use Rattle.std.specs.Prelude.{◌⊎◌, ◌↔◌}
use Rattle.std.proofs.lemmas.Bool.{cases_lt}
use Rattle.std.proofs.lemmas.Bool.Decides.{nat_tests}
use Rattle.marks.specs.Places.{is_replay}
use Rattle.marks.specs.declared.range.Range.{Range}
use Rattle.marks.specs.Ranges.{IsFirstIn, IsInRange, covers}
use Rattle.marks.specs.Bytes.{Cell, Dead, Live, Held}
use Rattle.whole_runs.specs.Tests.{is_changed}
use Rattle.reference_recorder_scans.specs.Found.{IsLeastBad}
use Rattle.reference_recorder_scans.proofs.AboveCut.{inside_is}

pub covered : (r : Range) (x : ℕ) → IsInRange r x → covers r x ≡ true
covered r x inside = grind (arith, nat_tests)

abbrev last : ℕ
last = 2 ^ 64 - 1

-- what is beyond the last address is covered only where that is too
last_inside : (r : Range) (x : ℕ) → r.addr < 2 ^ 64 → 2 ^ 64 ≤ x → covers r x ≡ true → IsInRange r last
last_inside r x low past e = let upper = upper_is in (omega (arith, low), omega (arith, past, upper), omega arith)
  where
    upper_is : x < r.addr + r.len
    upper_is = grind (arith, nat_tests)

-- P holds at an address after the last one only where it holds there too
abbrev pub GoesOn : Range → (ℕ → Type 0) → Type 0
GoesOn r P = (x : ℕ) → 2 ^ 64 ≤ x → covers r x ≡ true → P x → (r.addr < 2 ^ 64) × P last

pub least_bad : (r : Range) (P : ℕ → Type 0) (first : Option ℕ) → GoesOn r P → IsFirstIn r P first →
    IsLeastBad (λ x. (covers r x ≡ true) × P x) first
least_bad r P None on none = λ x bad. by x bad (cases_lt x (2 ^ 64))
  where
    by : (x : ℕ) → (covers r x ≡ true) × P x → (x < 2 ^ 64) ⊎ (2 ^ 64 ≤ x) → ⊥
    by x bad (inl lt) = none x (inside_is r x lt bad.0) bad.1
    by x bad (inr past) = let to = on x past bad.0 bad.1 in none last (last_inside r x to.0 past bad.0) to.1
least_bad r P (Some a) on h = ((covered r a h.in_range, h.holds), λ y bad. by y bad (cases_lt y (2 ^ 64)))
  where
    by : (y : ℕ) → (covers r y ≡ true) × P y → (y < 2 ^ 64) ⊎ (2 ^ 64 ≤ y) → a ≤ y
    by y bad (inl lt) = h.least y (inside_is r y lt bad.0) bad.1
    by y bad (inr past) = let below = h.in_range.2 in omega (arith, past, below)

pub changed_held : (c : Cell) (now : Option ℕ) → is_changed c now ≡ true → c ≡ Dead → ⊥
changed_held Dead now e d = absurd cc
changed_held (Live v) now e d = absurd cc
changed_held (Held v) now e d = absurd cc

pub forbidden_low : (x : ℕ) → is_replay x ≡ true → 2 ^ 64 ≤ x → ⊥
forbidden_low x e past = grind (arith, nat_tests)

-- one is found exactly where one is changed
pub some_changed : (r : Range) (used : ℕ) (changed : ℕ → Bool) (o : Option ℕ) →
    IsLeastBad (λ x. (covers r x ≡ true) × ((r.addr + used ≤ x) × (changed x ≡ true))) o →
    IsSome o ↔ ((y : ℕ) × (covers r y ≡ true) × (r.addr + used ≤ y) × (changed y ≡ true))
some_changed r used changed None none = (λ e. absurd cc, λ s. absurd (none s.0 (s.1, (s.2, s.3))))
some_changed r used changed (Some a) h = (λ e. (a, h.0.0, h.0.1.0, h.0.1.1), λ s. refl)
