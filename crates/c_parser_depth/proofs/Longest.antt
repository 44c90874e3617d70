-- When a chain is a longest one of a piece.
use Rattle.std.proofs.Common.{◌≡◌, ◌⊎◌, ℕ, zero, suc, ◌+◌, ◌-◌, ◌<◌, ◌≤◌, ◌==◌, nat_lt, Bool, true, false, if◌then◌else◌, inl, inr, refl, arith}
use Rattle.std.proofs.lemmas.Bool.{ltb-true, ltb-false, eqb-true, eqb-false}
use Rattle.c_syntax.specs.Depth.{At, Leaf}
use Rattle.c_parser_depth.specs.declared.chain.Chain.{Chain}
use Rattle.c_parser_depth.specs.Chains.{no_chain, longer, under}

-- the chain ends at a node of these, each of which is given by how many hold it and by its offset; and none is held by more, if it isn't cut
pub record IsLongest (L : ℕ → ℕ → Type 0) (c : Chain) : Type 0 where
  pub ends : (n : ℕ) → c.nodes ≡ suc n → (k : ℕ) × (n ≤ k) × L k c.end
  pub bounds : c.nodes ≤ 201 → (k o : ℕ) → L k o → k < c.nodes

-- the same nodes
pub longest_same : {L M : ℕ → ℕ → Type 0} {c : Chain} → ((k o : ℕ) → L k o → M k o) → ((k o : ℕ) → M k o → L k o) → IsLongest L c → IsLongest M c
longest_same to back h = record { ends = λ n e. let w = h.ends n e in (w.0, w.1, to w.0 _ w.2); bounds = λ le k o m. h.bounds le k o (back k o m) }

pub longest_none : IsLongest (λ k o. ⊥) no_chain
longest_none = record { ends = λ n e. absurd (let z : 0 ≡ suc n = e in omega arith); bounds = λ le k o m. absurd m }

pub longest_leaf : (f : ℕ) → IsLongest (λ k o. Leaf f k o) (record { nodes = 1; end = f })
longest_leaf f = record { ends = λ n e. (0, (let z : 1 ≡ suc n = e in omega arith), (refl, refl)); bounds = λ le k o m. (let z : k ≡ 0 = m.0 in omega arith) }

longer_at : {L M : ℕ → ℕ → Type 0} {c d : Chain} (b : Bool) → nat_lt c.nodes d.nodes ≡ b → IsLongest L c → IsLongest M d → IsLongest (λ k o. L k o ⊎ M k o) (if b then d else c)
longer_at {c} {d} true e x y =
    let lt : c.nodes < d.nodes = ltb-true _ _ e in
    record {
      ends = λ n z. (let w = y.ends n z in (w.0, w.1, inr w.2));
      bounds = λ le k o m. elim m [ inl a ↦ (let up : k < c.nodes = x.bounds (omega arith) k o a in omega arith) | inr a ↦ y.bounds le k o a ];
    }
longer_at {c} {d} false e x y =
    let ge : d.nodes ≤ c.nodes = ltb-false _ _ e in
    record {
      ends = λ n z. (let w = x.ends n z in (w.0, w.1, inl w.2));
      bounds = λ le k o m. elim m [ inl a ↦ x.bounds le k o a | inr a ↦ (let up : k < d.nodes = y.bounds (omega arith) k o a in omega arith) ];
    }

pub longest_longer : {L M : ℕ → ℕ → Type 0} {c d : Chain} → IsLongest L c → IsLongest M d → IsLongest (λ k o. L k o ⊎ M k o) (longer c d)
longest_longer {c} {d} x y = longer_at (nat_lt c.nodes d.nodes) refl x y

below_node : (f : ℕ) (L : ℕ → ℕ → Type 0) (n : ℕ) → ((k o : ℕ) → L k o → k < n) → (k o : ℕ) → At f (λ j. L j o) k o → k < n + 1
below_node f L n h zero o m = omega arith
below_node f L n h (suc k) o m = let lt : k < n = h k o m in omega arith

under_at : {L : ℕ → ℕ → Type 0} {c : Chain} (f : ℕ) (b u : Bool) → (c.nodes == 0) ≡ b → nat_lt c.nodes 202 ≡ u → IsLongest L c →
    IsLongest (λ k o. At f (λ j. L j o) k o) (if b then record { nodes = 1; end = f } else if u then record c { nodes = c.nodes + 1 } else c)
under_at {L} {c} f true u e g x =
    let z : c.nodes ≡ 0 = eqb-true _ _ e in
    record {
      ends = λ n s. (0, (let y : 1 ≡ suc n = s in omega arith), refl);
      bounds = λ le k o m. below_node f L 0 (λ j p l. (let lt : j < c.nodes = x.bounds (omega arith) j p l in omega arith)) k o m;
    }
under_at {L} {c} f false true e g x =
    let z : c.nodes ≡ 0 → ⊥ = eqb-false _ _ e in
    record {
      ends = λ n s. (let y : c.nodes + 1 ≡ suc n = s in let w = x.ends (c.nodes - 1) (omega arith) in (suc w.0, (let le : c.nodes - 1 ≤ w.0 = w.1 in omega arith), w.2));
      bounds = λ le k o m. (let y : c.nodes + 1 ≤ 201 = le in below_node f L c.nodes (λ j p l. x.bounds (omega arith) j p l) k o m);
    }
under_at {L} {c} f false false e g x =
    let z : 202 ≤ c.nodes = ltb-false _ _ g in
    record {
      ends = λ n s. (let w = x.ends n s in (suc w.0, (let le : n ≤ w.0 = w.1 in omega arith), w.2));
      bounds = λ le k o m. absurd (let y : c.nodes ≤ 201 = le in omega arith);
    }

pub longest_under : {L : ℕ → ℕ → Type 0} {c : Chain} (f : ℕ) → IsLongest L c → IsLongest (λ k o. At f (λ j. L j o) k o) (under f c)
longest_under {c} f x = under_at f (c.nodes == 0) (nat_lt c.nodes 202) refl refl x

-- the longest of one, two, three or four that are on the stack, the last of which is at the top

pub longest_one : {L : ℕ → ℕ → Type 0} {c : Chain} → IsLongest L c → IsLongest L (longer no_chain c)
longest_one x = longest_same (λ k o m. elim m [ inl a ↦ absurd a | inr a ↦ a ]) (λ k o m. inr m) (longest_longer longest_none x)

pub longest_two : {L M : ℕ → ℕ → Type 0} {c d : Chain} → IsLongest L c → IsLongest M d → IsLongest (λ k o. L k o ⊎ M k o) (longer (longer no_chain d) c)
longest_two x y = longest_same (λ k o m. elim m [ inl a ↦ inr a | inr a ↦ inl a ]) (λ k o m. elim m [ inl a ↦ inr a | inr a ↦ inl a ]) (longest_longer (longest_one y) x)

-- the one at the top comes first
pub longest_turned : {L M : ℕ → ℕ → Type 0} {c d : Chain} → IsLongest L c → IsLongest M d → IsLongest (λ k o. M k o ⊎ L k o) (longer (longer no_chain d) c)
longest_turned x y = longest_same (λ k o m. elim m [ inl a ↦ inr a | inr a ↦ inl a ]) (λ k o m. elim m [ inl a ↦ inr a | inr a ↦ inl a ]) (longest_two x y)

pub longest_three : {L M N : ℕ → ℕ → Type 0} {c d e : Chain} → IsLongest L c → IsLongest M d → IsLongest N e →
    IsLongest (λ k o. (L k o ⊎ M k o) ⊎ N k o) (longer (longer (longer no_chain e) d) c)
longest_three x y z =
    longest_same
    (λ k o m. elim m [ inl (inl a) ↦ inr a | inl (inr a) ↦ inl (inr a) | inr a ↦ inl (inl a) ])
    (λ k o m. elim m [ inl (inl a) ↦ inr a | inl (inr a) ↦ inl (inr a) | inr a ↦ inl (inl a) ])
    (longest_longer (longest_longer (longest_one z) y) x)

pub longest_four : {L M N R : ℕ → ℕ → Type 0} {c d e g : Chain} → IsLongest L c → IsLongest M d → IsLongest N e → IsLongest R g →
    IsLongest (λ k o. ((L k o ⊎ M k o) ⊎ N k o) ⊎ R k o) (longer (longer (longer (longer no_chain g) e) d) c)
longest_four x y z w =
    longest_same
    (λ k o m. elim m [ inl (inl (inl a)) ↦ inr a | inl (inl (inr a)) ↦ inl (inr a) | inl (inr a) ↦ inl (inl (inr a)) | inr a ↦ inl (inl (inl a)) ])
    (λ k o m. elim m [ inl (inl (inl a)) ↦ inr a | inl (inl (inr a)) ↦ inl (inr a) | inl (inr a) ↦ inl (inl (inr a)) | inr a ↦ inl (inl (inl a)) ])
    (longest_longer (longest_longer (longest_longer (longest_one w) z) y) x)
