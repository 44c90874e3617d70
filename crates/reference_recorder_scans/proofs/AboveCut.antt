-- Going through what lies above the cut of a range.
use Rattle.std.proofs.Common.{◌≡◌, ℕ, ◌+◌, ◌^◌, ◌<◌, ◌≤◌, true, false, Option, Some, None, inl, inr, subst, arith}
use Rattle.std.specs.Prelude.{◌⊎◌}
use Rattle.std.proofs.lemmas.Bool.{cases_lt}
use Rattle.std.proofs.lemmas.Bool.Decides.{nat_tests}
use Rattle.marks.specs.Places.{is_replay}
use Rattle.marks.specs.declared.range.Range.{Range}
use Rattle.marks.specs.Ranges.{IsFirstIn, IsInRange, IsLeastIn, NoneIn, covers}
use Rattle.memory_map.specs.declared.areas.TheConstants.{REPLAY_MEMORY}

-- what holds at the same bytes holds first at the same one
pub first_same : (r : Range) (P Q : ℕ → Type 0) (o : Option ℕ) → ((x : ℕ) → P x → Q x) → ((x : ℕ) → IsInRange r x → Q x → P x) →
    IsFirstIn r P o → IsFirstIn r Q o
first_same r P Q None to from h = λ x inside q. h x inside (from x inside q)
first_same r P Q (Some a) to from h = record {
  in_range = h.in_range;
  holds = to a h.holds;
  least = λ y inside q. h.least y inside (from y inside q);
}

pub replay_in : (x : ℕ) → IsInRange REPLAY_MEMORY x → is_replay x ≡ true
replay_in x inside = grind (arith, nat_tests)

pub in_replay : (x : ℕ) → x < 2 ^ 64 → is_replay x ≡ true → IsInRange REPLAY_MEMORY x
in_replay x lt e = (grind (arith, nat_tests), grind (arith, nat_tests), lt)

pub before_end : (x : ℕ) → is_replay x ≡ true → x < 1073741824
before_end x e = grind (arith, nat_tests)

-- the address is a byte of the range
pub inside_is : (r : Range) (a : ℕ) → a < 2 ^ 64 → covers r a ≡ true → IsInRange r a
inside_is r a lt e = (grind (arith, nat_tests), grind (arith, nat_tests), lt)

-- it is none, and comes after one: so do all bytes of the range come before it
pub all_before : (r : Range) (a x : ℕ) → r.addr ≤ a → covers r a ≡ false → IsInRange r x → x < a
all_before r a x le e inside = by (cases_lt x a)
  where
    by : (x < a) ⊎ (a ≤ x) → x < a
    by (inl lt) = lt
    by (inr le') = let upper = inside.1 in absurd (grind (arith, nat_tests))

module _ (r : Range) (P : ℕ → Type 0) (a : ℕ) (before : (x : ℕ) → IsInRange r x → x < a → P x → ⊥) where
  pub none_before_end : ((x : ℕ) → IsInRange r x → P x → x < a) → NoneIn r P
  none_before_end all x inside p = before x inside (all x inside p) p

  pub least_here : IsInRange r a → P a → IsLeastIn r P a
  least_here inside p = record {
    in_range = inside;
    holds = p;
    least = λ y within q. by y within q (cases_lt y a);
  }
    where
      by : (y : ℕ) → IsInRange r y → P y → (y < a) ⊎ (a ≤ y) → a ≤ y
      by y within q (inl lt) = absurd (before y within lt q)
      by y within q (inr le) = le

  pub one_further : (P a → ⊥) → (x : ℕ) → IsInRange r x → x < a + 1 → P x → ⊥
  one_further fine x inside lt p = by (cases_lt x a)
    where
      by : (x < a) ⊎ (a ≤ x) → ⊥
      by (inl earlier) = before x inside earlier p
      by (inr later) = let same : x ≡ a = omega (arith, lt, later) in fine (subst P same p)
