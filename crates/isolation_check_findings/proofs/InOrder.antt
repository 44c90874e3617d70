-- Findings that are sorted, and each kept once.
use Rattle.std.proofs.Common.{◌≡◌, inl, inr, ℕ, zero, suc, ◌+◌, ◌<◌, Bool, true, false, List, [], ◌∷◌, length, map, get_or, refl, sym, ap, ◌∙◌, subst, arith}
use Rattle.std.specs.Prelude.{Some, slice_get}
use Rattle.std.specs.Cmp.{IsEquivalence, IsTotalOrder}
use Rattle.std.specs.Cmp.Lexicographic.{slice_cmp}
use Rattle.std.specs.List.{All, Contains, dedup}
use Rattle.std.specs.List.Sorted.{IsPermutation, IsSorted, IsStrictlySortedBy}
use Rattle.std.specs.Ordering.{eq_by_cmp, is_lt, nat_cmp}
use Rattle.std.specs.declared.cmp.Ordering.{Ordering}
use Rattle.std.specs.declared.cmp.Ordering.TheVariants.{Less, Equal}
use Rattle.std.proofs.lemmas.Bool.{cases_order}
use Rattle.std.proofs.lemmas.List.Filters.{All-dedup}
use Rattle.std.proofs.lemmas.List.Kept.{Any-dedup, Contains-from_dedup, IsStrictlySortedBy-dedup}
use Rattle.std.proofs.lemmas.List.Sorted.{All-permutation, Contains-permutation, IsPermutation-sym}
use Rattle.cut_graph_rules.specs.Findings as rules
use Rattle.cut_graph_rules.specs.Findings.{line_of}
use Rattle.isolation_check_findings.specs.declared.finding.Finding.{Finding}
use Rattle.isolation_check_findings.specs.Found.{HasLine, finding_of}
use Rattle.isolation_check_findings.specs.Sorted.{AreSorted}
use Rattle.isolation_check_findings.proofs.Ordered.{less_later, read_at, read_from, read_of}

-- the finding whose line stands at a place
line_at : (xs : List Finding) (k : ℕ) → k < length (map line_of (map finding_of xs))
    → (e : Finding) × (k < length xs) × ((d : Finding) → get_or xs k d ≡ e)
    × ((d : List ℕ) → get_or (map line_of (map finding_of xs)) k d ≡ line_of (finding_of e))
line_at [] k lt = absurd (omega arith)
line_at (x ∷ xs) zero lt = (x, omega arith, λ d. refl, λ d. refl)
line_at (x ∷ xs) (suc k) lt = let r = line_at xs k (omega arith) in (r.0, omega (arith, r.1), r.2, r.3)

module _ (R : Finding → Finding → Ordering) (o : IsTotalOrder R) (E : Finding → Finding → Bool) (alike : IsEquivalence E)
    (ties : (x y : Finding) → E x y ≡ eq_by_cmp R x y)
    (lines_first : (x y : Finding) → R x y ≡ Less → is_lt (slice_cmp nat_cmp y.line.items x.line.items) ≡ false)
    (equal : (x y : Finding) → x.line.items ≡ y.line.items → finding_of x ≡ finding_of y → R x y ≡ Equal)
    (same : (x y : Finding) → E x y ≡ true → finding_of x ≡ finding_of y) where
  to_found : (found s r : List Finding) → IsPermutation found s → r ≡ dedup E s → (x : rules.Finding) → Contains (map finding_of r) x → Contains (map finding_of found) x
  to_found found s r perm is x h =
      let q = read_from finding_of r x h in
      let among : Contains s q.0 = Contains-from_dedup E s q.0 (subst (λ (l : List Finding). Contains l q.0) is q.1) in
      subst (λ (y : rules.Finding). Contains (map finding_of found) y) q.2
      (read_of finding_of found q.0 (Contains-permutation s found q.0 (IsPermutation-sym found s perm) among))

  to_sorted : (found s r : List Finding) → IsPermutation found s → r ≡ dedup E s → (x : rules.Finding) → Contains (map finding_of found) x → Contains (map finding_of r) x
  to_sorted found s r perm is x h =
      let q = read_from finding_of found x h in
      let a = Any-dedup alike s q.0 (Contains-permutation found s q.0 perm q.1) in
      let among : Contains r a.1 = subst (λ (l : List Finding). Contains l a.1) (sym is) (a.0, a.2, a.3) in
      subst (λ (y : rules.Finding). Contains (map finding_of r) y) (sym (same q.0 a.1 a.4) ∙ q.2) (read_of finding_of r a.1 among)

  line_is : (r : List Finding) → All HasLine r → (k : ℕ) (e : Finding) → k < length r → ((d : Finding) → get_or r k d ≡ e) → HasLine e
  line_is r h k e lt at = subst HasLine (at e) (h k e lt)

  ordered : (r : List Finding) → IsStrictlySortedBy R r → All HasLine r → IsSorted (slice_cmp nat_cmp) (map line_of (map finding_of r))
  ordered r strict h = λ k d zero_le lt.
      let a = line_at r k (omega arith) in
      let b = line_at r (k + 1) lt in
      let less : R a.0 b.0 ≡ Less = subst (λ (x : Finding). R x b.0 ≡ Less) (a.2 a.0)
      (subst (λ (y : Finding). R (get_or r k a.0) y ≡ Less) (b.2 a.0) (less_later R r strict k (k + 1) a.0 (omega arith) b.1)) in
      let first : a.0.line.items ≡ get_or (map line_of (map finding_of r)) k d = line_is r h k a.0 a.1 a.2 ∙ sym (a.3 d) in
      let second : b.0.line.items ≡ get_or (map line_of (map finding_of r)) (k + 1) d = line_is r h (k + 1) b.0 b.1 b.2 ∙ sym (b.3 d) in
      subst (λ (l : List ℕ). is_lt (slice_cmp nat_cmp (get_or (map line_of (map finding_of r)) (k + 1) d) l) ≡ false) first
      (subst (λ (l : List ℕ). is_lt (slice_cmp nat_cmp l a.0.line.items) ≡ false) second (lines_first a.0 b.0 less))

  apart : (r : List Finding) → IsStrictlySortedBy R r → All HasLine r → (i j : ℕ) (x : rules.Finding) → i < j
      → slice_get (map finding_of r) i ≡ Some x → slice_get (map finding_of r) j ≡ Some x → ⊥
  apart r strict h i j x lt at_i at_j =
      let a = read_at finding_of r i x at_i in
      let b = read_at finding_of r j x at_j in
      let less : R a.0 b.0 ≡ Less = subst (λ (y : Finding). R y b.0 ≡ Less) (a.2 a.0)
      (subst (λ (y : Finding). R (get_or r i a.0) y ≡ Less) (b.2 a.0) (less_later R r strict i j a.0 lt b.1)) in
      let alike_now : finding_of a.0 ≡ finding_of b.0 = a.3 ∙ sym b.3 in
      let lines : a.0.line.items ≡ b.0.line.items = line_is r h i a.0 a.1 a.2 ∙ (ap line_of alike_now ∙ sym (line_is r h j b.0 b.1 b.2)) in
      let wrong : Less ≡ Equal = sym less ∙ equal a.0 b.0 lines alike_now in
      cc

  all_lines : (found s r : List Finding) → IsPermutation found s → r ≡ dedup E s → All HasLine found → All HasLine r
  all_lines found s r perm is h = subst (All HasLine) (sym is) (All-dedup E HasLine s (All-permutation HasLine found s perm h))

  strict_of : (s r : List Finding) → IsSorted R s → r ≡ dedup E s → IsStrictlySortedBy R r
  strict_of s r order is = subst (IsStrictlySortedBy R) (sym is) (IsStrictlySortedBy-dedup o ties s order)

  pub in_order : (found s r : List Finding) → IsPermutation found s → IsSorted R s → r ≡ dedup E s → AreSorted found r
  in_order found s r perm order is = record {
    same = λ x. (to_found found s r perm is x, to_sorted found s r perm is x);
    order = λ h. ordered r (strict_of s r order is) (all_lines found s r perm is h);
    once = λ h i j x at_i at_j.
        let strict = strict_of s r order is in
        let lines = all_lines found s r perm is h in
        elim (cases_order i j) [
          | inl e ↦ e
          | inr other ↦ (elim other [
            | inl lt ↦ absurd (apart r strict lines i j x lt at_i at_j)
            | inr gt ↦ absurd (apart r strict lines j i x gt at_j at_i)
          ])
        ];
    lines = λ h. all_lines found s r perm is h;
  }
