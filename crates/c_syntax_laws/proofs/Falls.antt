-- Heights fall from each node to its parts.
use Rattle.std.proofs.Common.{◌≡◌, ◌⊎◌, inl, inr, ℕ, zero, suc, ◌+◌, ◌-◌, ◌<◌, ◌≤◌, max, List, [], refl, sym, ap, ◌∙◌, arith}
use Rattle.std.proofs.lemmas.Bool.{cases_lt}
use Rattle.c_syntax_laws.specs.Heights.{greatest, height, Ends, ends, AllEnd, none_end, more_end}
use Rattle.c_syntax_laws.proofs.Pigeons.{no_more}

either : (a b r : ℕ) → r ≤ max a b → (r ≤ a) ⊎ (r ≤ b)
either a b r h = elim (cases_lt a b) [ inl l ↦ inr (omega arith) | inr l ↦ inl (omega arith) ]

module _ {V : Type 0} (parts : V → List V) where
  mutual
    rank : {v : V} → Ends parts v → ℕ
    rank (ends es) = suc (ranks es)

    ranks : {vs : List V} → AllEnd parts vs → ℕ
    ranks none_end = 0
    ranks (more_end e es) = max (rank e) (ranks es)

  mutual
    unfolding height rank ranks

    height_is : (k : ℕ) {v : V} (e : Ends parts v) → rank e ≤ k → height parts k v ≡ rank e
    height_is zero (ends es) h = absurd (omega arith)
    height_is (suc k) (ends es) h = ap suc (heights_are k es (omega arith))

    heights_are : (k : ℕ) {vs : List V} (es : AllEnd parts vs) → ranks es ≤ k → greatest (height parts k) vs ≡ ranks es
    heights_are k none_end h = refl
    heights_are k (more_end e es) h =
        let a = height_is k e (omega arith) in
        let b = heights_are k es (omega arith) in
        rw a (rw b refl)

  -- a node of this height
  record HasHeight (r : ℕ) : Type 0 where
    node : V
    end : Ends parts node
    is : rank end ≡ r

  -- a node, or a node of this height below it
  at_or_below : {v : V} (e : Ends parts v) (below r : ℕ) → rank e ≡ suc below → 1 ≤ r → r ≤ rank e → (r ≤ below → HasHeight r) → HasHeight r
  at_or_below e below r is low high rest = elim (cases_lt below r) [ inl h ↦ record { node = _; end = e; is = omega arith } | inr h ↦ rest h ]

  mutual
    unfolding rank ranks

    -- a node of each height from 1 to that of a node
    at : {v : V} (e : Ends parts v) (r : ℕ) → 1 ≤ r → r ≤ rank e → HasHeight r
    at (ends es) r low high = at_or_below (ends es) (ranks es) r refl low high (λ h. among es r low h)

    among : {vs : List V} (es : AllEnd parts vs) (r : ℕ) → 1 ≤ r → r ≤ ranks es → HasHeight r
    among none_end r low high = absurd (omega arith)
    among (more_end e es) r low high = elim (either (rank e) (ranks es) r high) [ inl h ↦ at e r low h | inr h ↦ among es r low h ]

  none_below : {vs : List V} (es : AllEnd parts vs) → vs ≡ [] → ranks es ≡ 0
  unfolding ranks
  none_below none_end h = refl
  none_below (more_end e es) h = absurd cc

  -- a node that names none has the height 1
  flat : {v : V} (e : Ends parts v) → parts v ≡ [] → rank e ≡ 1
  unfolding rank
  flat (ends es) h = ap suc (none_below es h)

  -- a node has one height
  same_rank : {v w : V} (d : Ends parts v) (e : Ends parts w) → v ≡ w → rank d ≡ rank e
  same_rank d e h =
      let k = rank d + rank e in
      let a : height parts k _ ≡ rank d = height_is k d (omega arith) in
      let b : height parts k _ ≡ rank e = height_is k e (omega arith) in
      sym a ∙ (ap (height parts k) h ∙ b)

  -- nodes have numbers, and those that name others have such below n
  module _ (number : V → ℕ) (one : (v w : V) → number v ≡ number w → v ≡ w) (n : ℕ) (inside : (v : V) → (number v < n) ⊎ (parts v ≡ [])) where
    low_number : {r : ℕ} (h : HasHeight r) → 2 ≤ r → number h.node < n
    low_number h two = elim (inside h.node) [ inl l ↦ l | inr e ↦ absurd (omega (arith, flat h.end e, h.is)) ]

    pick : (k m : ℕ) → (k < m) ⊎ (m ≤ k) → (k < m → HasHeight (k + 2)) → ℕ
    pick k m (inl h) f = number (f h).node
    pick k m (inr h) f = 0

    picked : (k m : ℕ) (c : (k < m) ⊎ (m ≤ k)) (f : k < m → HasHeight (k + 2)) → k < m → (h : HasHeight (k + 2)) × (number h.node ≡ pick k m c f)
    unfolding pick
    picked k m (inl h) f l = (f h, refl)
    picked k m (inr h) f l = absurd (omega arith)

    -- the number of a node of the height k + 2, for each k that is lower than a node's height by 2
    numbers : {v : V} → Ends parts v → ℕ → ℕ
    numbers e k = pick k (rank e - 1) (cases_lt k (rank e - 1)) (λ h. at e (k + 2) (omega arith) (omega arith))

    numbered : {v : V} (e : Ends parts v) (k : ℕ) → k < rank e - 1 → (h : HasHeight (k + 2)) × (number h.node ≡ numbers e k)
    unfolding numbers
    numbered e k l = picked k (rank e - 1) (cases_lt k (rank e - 1)) (λ h. at e (k + 2) (omega arith) (omega arith)) l

    numbers_low : {v : V} (e : Ends parts v) (k : ℕ) → k < rank e - 1 → numbers e k < n
    numbers_low e k l = let p = numbered e k l in omega (arith, low_number p.0 (omega arith), p.1)

    numbers_apart : {v : V} (e : Ends parts v) (j k : ℕ) → j < rank e - 1 → k < rank e - 1 → numbers e j ≡ numbers e k → j ≡ k
    numbers_apart e j k l m same =
        let p = numbered e j l in
        let q = numbered e k m in
        let nodes = one p.0.node q.0.node (p.1 ∙ (same ∙ sym q.1)) in
        omega (arith, same_rank p.0.end q.0.end nodes, p.0.is, q.0.is)

    bounded : {v : V} (e : Ends parts v) → rank e ≤ n + 1
    bounded e = omega (arith, no_more (rank e - 1) n (numbers e) (numbers_low e) (numbers_apart e))

    pub falls : {v : V} → Ends parts v → greatest (height parts (n + 1)) (parts v) < height parts (n + 1) v
    unfolding rank
    falls (ends es) =
        let b : suc (ranks es) ≤ n + 1 = bounded (ends es) in
        let a : height parts (n + 1) _ ≡ suc (ranks es) = height_is (n + 1) (ends es) b in
        let c : greatest (height parts (n + 1)) (parts _) ≡ ranks es = heights_are (n + 1) es (omega arith) in
        omega (arith, a, c)
