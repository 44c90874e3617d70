-- The first of what was found in some places is that of all.
use Rattle.std.proofs.Common.{◌≡◌, ℕ, ◌+◌, ◌^◌, ◌<◌, ◌≤◌, Bool, true, false, ◌&&◌, ◌||◌, cond, eqb, ltb, List, Option, Some, None, ◌⊎◌, inl, inr, ⊎_elim, refl, subst, arith}
use Rattle.marks.specs.declared.range.Range.{Range}
use Rattle.marks.specs.Ranges.{IsInRange}
use Rattle.race_watch.specs.declared.bytes.Bytes.{Bytes}
use Rattle.race_watch.specs.declared.seen.Seen.{Seen}
use Rattle.race_watch.specs.declared.first.Tested.{Tested}
use Rattle.race_watch.specs.Hits.{IsFirstOf, IsFirstHit, earlier}
use Rattle.race_watch.specs.Cells.{IsCommonPart}
use Rattle.race_watch.specs.Tables.{IsFirst, IsFirstFrom, HasHit}
use Rattle.race_watch.proofs.Earliest.{comes, stays}
use Rattle.race_watch.proofs.Epochs.{InArea, in_globals, in_stacks, in_pool}

pub first_part : (R : ℕ → ℕ → Type 0) (r : Range) (area b : Bytes) (result : Option (ℕ × ℕ)) → IsCommonPart r area b → area.to ≤ 0x40000000 → IsFirstFrom b.from b.to R result → IsFirst r (λ x u. R x u × (area.from ≤ x) × (x < area.to)) result
first_part R r area b None p small n = λ x u i q. let l = p.all x i q.1 q.2 in n x u l.0 l.1 q.0
first_part R r area b (Some f) p small h =
    record {
      in_range = (omega (arith, h.low, p.low), omega (arith, h.high, p.high), omega (arith, h.high, p.under, small));
      holds = (h.holds, omega (arith, h.low, p.above), omega (arith, h.high, p.under));
      least = λ x u i q. let l = p.all x i q.1 q.2 in h.least x u l.0 l.1 q.0;
    }

-- bytes of one area are all of a range
pub first_whole : (R : ℕ → ℕ → Type 0) (r : Range) (b : Bytes) (result : Option (ℕ × ℕ)) → b.from ≡ r.addr → b.to ≡ r.addr + r.len → ((x u : ℕ) → R x u → InArea x) → IsFirstFrom b.from b.to R result → IsFirst r R result
first_whole R r b None from to areas n = λ x u i q. n x u (omega (arith, from, i.0)) (omega (arith, to, i.1)) q
first_whole R r b (Some p) from to areas h = record {
  in_range = (omega (arith, from, h.low), omega (arith, to, h.high), small (areas p.0 p.1 h.holds));
  holds = h.holds;
  least = λ x u i q. h.least x u (omega (arith, from, i.0)) (omega (arith, to, i.1)) q;
}
  where
    small : InArea p.0 → p.0 < 2 ^ 64
    small (in_globals low high) = omega (arith, high)
    small (in_stacks low high) = omega (arith, high)
    small (in_pool low high) = omega (arith, high)

pub pick_globals : (R : ℕ → ℕ → Type 0) (r : Range) (p : ℕ × ℕ) → ((x u : ℕ) → R x u → InArea x) → IsFirst r (λ x u. R x u × (0x10000000 ≤ x) × (x < 0x10100000)) (Some p) → IsFirst r R (Some p)
pick_globals R r p areas h = record { in_range = h.in_range; holds = h.holds.0; least = λ x u i q. go x u i q (areas x u q) }
  where
    go : (x u : ℕ) → IsInRange r x → R x u → InArea x → (p.0 ≤ x) × (x ≡ p.0 → p.1 ≤ u)
    go x u i q (in_globals a b) = h.least x u i (q, a, b)
    go x u i q (in_stacks a b) = (omega (arith, h.holds.2, a), λ e. absurd (omega (arith, h.holds.2, a, e)))
    go x u i q (in_pool a b) = (omega (arith, h.holds.2, a), λ e. absurd (omega (arith, h.holds.2, a, e)))

pub pick_stacks : (R : ℕ → ℕ → Type 0) (r : Range) (p : ℕ × ℕ) → ((x u : ℕ) → R x u → InArea x) → IsFirst r (λ x u. R x u × (0x10000000 ≤ x) × (x < 0x10100000)) None → IsFirst r (λ x u. R x u × (0x20000000 ≤ x) × (x < 0x20200000)) (Some p) → IsFirst r R (Some p)
pick_stacks R r p areas n h = record { in_range = h.in_range; holds = h.holds.0; least = λ x u i q. go x u i q (areas x u q) }
  where
    go : (x u : ℕ) → IsInRange r x → R x u → InArea x → (p.0 ≤ x) × (x ≡ p.0 → p.1 ≤ u)
    go x u i q (in_globals a b) = absurd (n x u i (q, a, b))
    go x u i q (in_stacks a b) = h.least x u i (q, a, b)
    go x u i q (in_pool a b) = (omega (arith, h.holds.2, a), λ e. absurd (omega (arith, h.holds.2, a, e)))

pub pick_pool : (R : ℕ → ℕ → Type 0) (r : Range) (result : Option (ℕ × ℕ)) → ((x u : ℕ) → R x u → InArea x) → IsFirst r (λ x u. R x u × (0x10000000 ≤ x) × (x < 0x10100000)) None → IsFirst r (λ x u. R x u × (0x20000000 ≤ x) × (x < 0x20200000)) None → IsFirst r (λ x u. R x u × (0x30000000 ≤ x) × (x < 0x30100000)) result → IsFirst r R result
pick_pool R r None areas n m h = λ x u i q. go x u i q (areas x u q)
  where
    go : (x u : ℕ) → IsInRange r x → R x u → InArea x → ⊥
    go x u i q (in_globals a b) = n x u i (q, a, b)
    go x u i q (in_stacks a b) = m x u i (q, a, b)
    go x u i q (in_pool a b) = h x u i (q, a, b)
pick_pool R r (Some p) areas n m h = record { in_range = h.in_range; holds = h.holds.0; least = λ x u i q. go x u i q (areas x u q) }
  where
    go : (x u : ℕ) → IsInRange r x → R x u → InArea x → (p.0 ≤ x) × (x ≡ p.0 → p.1 ≤ u)
    go x u i q (in_globals a b) = absurd (n x u i (q, a, b))
    go x u i q (in_stacks a b) = absurd (m x u i (q, a, b))
    go x u i q (in_pool a b) = h.least x u i (q, a, b)

-- the list and the epochs

pub first_none : (a : Tested) (seen : List Seen) (Q : ℕ → ℕ → Type 0) (found : Option (ℕ × ℕ)) → IsFirstHit a seen None → IsFirst a.range Q found → IsFirst a.range (λ x u. HasHit a seen x u ⊎ Q x u) found
first_none a seen Q None h m = λ x u i q. ⊎_elim (λ (s : HasHit a seen x u). h s.0 x s.1 i s.3) (λ k. m x u i k) q
first_none a seen Q (Some p) h m = record { in_range = m.in_range; holds = inr m.holds; least = λ x u i q. ⊎_elim (λ (s : HasHit a seen x u). absurd (h s.0 x s.1 i s.3)) (λ k. m.least x u i k) q }

pub first_some : (a : Tested) (seen : List Seen) (Q : ℕ → ℕ → Type 0) (found : Option (ℕ × ℕ)) (addr other : ℕ) → IsFirstOf a seen addr other → IsFirst a.range Q found → IsFirst a.range (λ x u. HasHit a seen x u ⊎ Q x u) (earlier found (Some addr) other)
first_some a seen Q found addr other h m = by_epoch found m
  where
    own : (x u : ℕ) → IsInRange a.range x → HasHit a seen x u → (addr ≤ x) × (x ≡ addr → other ≤ u)
    own x u i s = let k = h.least s.0 x s.1 i s.3 in (k.0, λ e. subst (λ y. other ≤ y) s.2 (k.1 e))

    by_epoch : (found : Option (ℕ × ℕ)) → IsFirst a.range Q found → IsFirst a.range (λ x u. HasHit a seen x u ⊎ Q x u) (earlier found (Some addr) other)
    by_epoch None m = record { in_range = h.in_range; holds = inl h.by; least = λ x u i q. ⊎_elim (own x u i) (λ k. absurd (m x u i k)) q }
    by_epoch (Some p) m = go (ltb addr p.0 || (eqb addr p.0 && ltb other p.1)) refl
      where
        go : (b : Bool) → (ltb addr p.0 || (eqb addr p.0 && ltb other p.1)) ≡ b → IsFirst a.range (λ x u. HasHit a seen x u ⊎ Q x u) (cond b (Some (addr, other)) (Some p))
        go true e = record { in_range = h.in_range; holds = inl h.by; least = λ x u i q. ⊎_elim (own x u i) (λ k. before (comes addr other p.0 p.1 e) x u (m.least x u i k)) q }
          where
            before : (addr < p.0) ⊎ ((addr ≡ p.0) × (other < p.1)) → (x u : ℕ) → (p.0 ≤ x) × (x ≡ p.0 → p.1 ≤ u) → (addr ≤ x) × (x ≡ addr → other ≤ u)
            before (inl lt) x u k = (omega (arith, lt, k.0), λ is. absurd (omega (arith, lt, k.0, is)))
            before (inr w) x u k = (omega (arith, w.0, k.0), λ is. let z = k.1 (omega (arith, is, w.0)) in omega (arith, z, w.1))
        go false e =
            let w = stays addr other p.0 p.1 e in
            record { in_range = m.in_range; holds = inr m.holds; least = λ x u i q. ⊎_elim (λ s. let k = own x u i s in (omega (arith, k.0, w.0), λ is. let z : addr ≡ p.0 = omega (arith, k.0, w.0, is) in let y = k.1 (omega (arith, is, z)) in let v = w.1 z in omega (arith, y, v))) (m.least x u i) q }
