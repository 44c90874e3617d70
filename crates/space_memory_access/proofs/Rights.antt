-- The first byte of replay memory that system code touches without right: the first that is dead or that no region serves.
use Rattle.std.proofs.Common.{◌≡◌, ◌≢◌, ℕ, ◌+◌, ◌^◌, ◌<◌, ◌≤◌, ◌⊎◌, Bool, true, false, List, Option, Some, None, refl, inl, inr, arith}
use Rattle.std.specs.List.{list_any}
use Rattle.std.proofs.lemmas.Bool.{cases_Bool, both_ways}
use Rattle.marks.specs.declared.range.Range.{Range}
use Rattle.marks.specs.Ranges.{IsInRange, IsFirstIn}
use Rattle.memory_map.specs.declared.areas.TheConstants.{REPLAY_MEMORY}
use Rattle.space_memory_bytes.specs.Areas.{AreaState, byte_at, IsDead}
use Rattle.space_memory_access.specs.declared.holder.Region.{Region}
use Rattle.space_memory_access.specs.declared.access.Access.{Access}
use Rattle.space_memory_access.specs.Held.{IsServed, earlier}
use Rattle.space_memory_access.specs.Accesses.{HasRight, IsWithoutRight}
use Rattle.space_memory_access.proofs.Firsts.{first_either}

-- a byte has a value, or is dead
dead_or : (found : Option ℕ) → (found ≡ None) ⊎ (found ≡ None → ⊥)
dead_or None = inl refl
dead_or (Some v) = inr (λ (wrong : Some v ≡ None). absurd (cc))

module _ (bytes : List AreaState) (regions : List Region) (a : Access) where
  -- without right is what is dead or not served
  split : (x : ℕ) → (HasRight bytes regions a x → ⊥) → IsDead bytes x ⊎ (IsServed regions a.thread a.write x → ⊥)
  split x without = elim (dead_or (byte_at bytes x)) [
    | inl dead ↦ inl dead
    | inr live ↦ inr (λ served. without (live, served))
  ]

  -- the part of the access in replay memory has the first
  pub first_without : (part : Range) → ((x : ℕ) → IsInRange a.range x → IsInRange REPLAY_MEMORY x → IsInRange part x) → ((x : ℕ) → IsInRange part x → IsInRange a.range x × IsInRange REPLAY_MEMORY x) → (dead unserved : Option ℕ) → IsFirstIn part (IsDead bytes) dead → IsFirstIn part (λ x. IsServed regions a.thread a.write x → ⊥) unserved → IsFirstIn a.range (IsWithoutRight bytes regions a) (earlier dead unserved)
  first_without part whole within dead unserved first_dead first_unserved =
      outward (earlier dead unserved) (first_either part (IsDead bytes) (λ x. IsServed regions a.thread a.write x → ⊥) (λ x. HasRight bytes regions a x → ⊥)
      (λ x in' without. split x without) (λ x is' right. right.0 is') (λ x not right. not right.1) dead unserved first_dead first_unserved)
    where
      outward : (o : Option ℕ) → IsFirstIn part (λ x. HasRight bytes regions a x → ⊥) o → IsFirstIn a.range (IsWithoutRight bytes regions a) o
      outward None none = λ x in' without. none x (whole x in' without.0) without.1
      outward (Some x) found = record {
        in_range = (within x found.in_range).0;
        holds = ((within x found.in_range).1, found.holds);
        least = λ y in' without. found.least y (whole y in' without.0) without.1;
      }
