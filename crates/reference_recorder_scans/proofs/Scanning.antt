-- Going through a range byte by byte.
use Rattle.std.proofs.Common.{◌≡◌, ℕ, ◌+◌, ◌^◌, ◌<◌, ◌≤◌, inl, inr, subst, arith}
use Rattle.std.specs.Prelude.{◌⊎◌}
use Rattle.std.proofs.lemmas.Bool.{cases_lt}
use Rattle.marks.specs.declared.range.Range.{Range}
use Rattle.marks.specs.Ranges.{IsInRange, IsLeastIn, NoneIn}

-- P holds at none of the first bytes of the range, so many of them
abbrev pub NoneBefore : Range → (ℕ → Type 0) → (count : ℕ) → Type 0
NoneBefore r P n = (x : ℕ) → r.addr ≤ x → x < r.addr + n → ¬ P x

module _ (r : Range) (P : ℕ → Type 0) where
  pub none_yet : NoneBefore r P 0
  none_yet x le lt p = omega (arith, le, lt)

  -- at the byte that is looked at neither
  pub none_more : (i a : ℕ) → a ≡ r.addr + i → (P a → ⊥) → NoneBefore r P i → NoneBefore r P (i + 1)
  none_more i a is fine before x le lt p = by (cases_lt x (r.addr + i))
    where
      by : (x < r.addr + i) ⊎ (r.addr + i ≤ x) → ⊥
      by (inl earlier) = before x le earlier p
      by (inr later) = let same : x ≡ a = omega (arith, lt, later, is) in fine (subst P same p)

  -- it holds there
  pub first_here : (i a : ℕ) → a ≡ r.addr + i → a < 2 ^ 64 → i < r.len → P a → NoneBefore r P i → IsLeastIn r P a
  first_here i a is fits lt here before = record {
    in_range = (omega (arith, is), omega (arith, is, lt), fits);
    holds = here;
    least = λ y inside p. by y inside p (cases_lt y a);
  }
    where
      by : (y : ℕ) → IsInRange r y → P y → (y < a) ⊎ (a ≤ y) → a ≤ y
      by y inside p (inl earlier) = absurd (before y inside.0 (let lt' : y < a = earlier in omega (arith, lt', is)) p)
      by y inside p (inr later) = later

  -- the address is past the last one
  pub none_past : (i : ℕ) → 2 ^ 64 ≤ r.addr + i → NoneBefore r P i → NoneIn r P
  none_past i past before x inside p = before x inside.0 (let lt = inside.2 in omega (arith, lt, past)) p

  -- the range is
  pub none_in_all : (i : ℕ) → r.len ≤ i → NoneBefore r P i → NoneIn r P
  none_in_all i end before x inside p = before x inside.0 (let lt = inside.1 in omega (arith, lt, end)) p
