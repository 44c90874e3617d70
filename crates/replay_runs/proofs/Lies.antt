-- Where frames and blocks lie.
use Rattle.std.proofs.Common.{◌≡◌, ◌⊎◌, inl, inr, ⊎_elim, ℕ, ◌+◌, ◌<◌, ◌≤◌, Bool, true, false, cond, eqb, leb, ltb, List, [], ◌∷◌, refl, sym, subst, arith, eqb-true}
use Rattle.std.proofs.lemmas.Bool.{and_from, or_cases, or_from, true≢false, lt-ltb, le-leb, false_from_ne_true}
use Rattle.marks.specs.declared.side.Side.TheVariants.{Replay}
use Rattle.marks.specs.Places.{thread_count, stack, stack_size, replay_pool, pool_size}
use Rattle.marks.specs.declared.range.Range.{Range}
use Rattle.marks.specs.Ranges.{within, covers, any_range}
use Rattle.marks.proofs.Touched.{or_true_left, or_true_right}
use Rattle.replay_runs.specs.Threads.{end_of}
use Rattle.replay_runs.specs.Pool.{MeetsNone, without}
use Rattle.replay_runs.specs.Blocks.{LieApart, size_at}
use Rattle.replay_runs.specs.Unseen.{Stacked, InPool}
use Rattle.replay_runs.proofs.Blocks.{bounds}

pub inside : (at n x : ℕ) → at ≤ x → x < at + n → within at n x ≡ true
inside at n x le lt = and_from (leb at x) (ltb x (at + n)) (le-leb at x le) (lt-ltb x (at + n) lt)

pub ends_above : (base : ℕ) (fs : List Range) → Stacked base fs → base ≤ end_of base fs
ends_above base [] s = omega arith
ends_above base (f ∷ fs) s = let k = ends_above base fs s.1 in omega (arith, k, s.0)

pub one_stack : (t u x : ℕ) → stack Replay t ≤ x → x < stack Replay t + stack_size → stack Replay u ≤ x → x < stack Replay u + stack_size → t ≡ u
one_stack t u x a b c d = omega (arith, a, b, c, d)

pub not_both_areas : (t x : ℕ) → t < thread_count → x < stack Replay t + stack_size → replay_pool ≤ x → ⊥
not_both_areas t x a b c = absurd (omega (arith, a, b, c))

pub without_in_pool : (bs : List Range) (at : ℕ) → InPool bs → InPool (without at bs)
without_in_pool [] at h = tt
without_in_pool (b ∷ bs) at h = go (eqb b.addr at) (without_in_pool bs at h.2)
  where
    go : (c : Bool) → InPool (without at bs) → InPool (cond c bs (b ∷ without at bs))
    go true k = h.2
    go false k = (h.0, h.1, k)

pub block_in_pool : (bs : List Range) (at size : ℕ) → InPool bs → size_at at bs ≡ size → 1 ≤ size → (replay_pool ≤ at) × (at + size ≤ replay_pool + pool_size)
block_in_pool [] at size h e l = absurd (omega (arith, e, l))
block_in_pool (b ∷ bs) at size h e l = go (eqb b.addr at) refl e (λ g. block_in_pool bs at size h.2 g l)
  where
    go : (c : Bool) → eqb b.addr at ≡ c → cond c b.len (size_at at bs) ≡ size → (size_at at bs ≡ size → (replay_pool ≤ at) × (at + size ≤ replay_pool + pool_size)) → (replay_pool ≤ at) × (at + size ≤ replay_pool + pool_size)
    go true f g again = let z : b.addr ≡ at = eqb-true b.addr at f in (omega (arith, z, h.0), omega (arith, z, g, h.1))
    go false f g again = again g

pub meets_none_out : (bs : List Range) (at size x : ℕ) → MeetsNone bs at size → at ≤ x → x < at + size → any_range bs x ≡ false
meets_none_out [] at size x m le lt = refl
meets_none_out (b ∷ bs) at size x m le lt =
    or_from (covers b x) (any_range bs x)
    (false_from_ne_true (covers b x) (λ z. let w = bounds b.addr b.len x z in ⊎_elim (λ k. absurd (omega (arith, w.1, k, le))) (λ k. absurd (omega (arith, w.0, k, lt))) m.0))
    (meets_none_out bs at size x m.1 le lt)

-- a byte of the blocks is of those that are left, or of the one that is freed
pub left_or_freed : (bs : List Range) (at x : ℕ) → any_range bs x ≡ true → (any_range (without at bs) x ≡ true) ⊎ (within at (size_at at bs) x ≡ true)
left_or_freed [] at x e = absurd (true≢false (sym e))
left_or_freed (b ∷ bs) at x e = go (eqb b.addr at) refl (left_or_freed bs at x)
  where
    go : (c : Bool) → eqb b.addr at ≡ c → (any_range bs x ≡ true → (any_range (without at bs) x ≡ true) ⊎ (within at (size_at at bs) x ≡ true)) → (any_range (cond c bs (b ∷ without at bs)) x ≡ true) ⊎ (within at (cond c b.len (size_at at bs)) x ≡ true)
    go true f again = ⊎_elim (λ z. inr (subst (λ u. within u b.len x ≡ true) (eqb-true b.addr at f) z)) (λ z. inl z) (or_cases (covers b x) (any_range bs x) e)
    go false f again = ⊎_elim
        (λ z. inl (or_true_left (covers b x) (any_range (without at bs) x) z))
        (λ z. ⊎_elim (λ y. inl (or_true_right (covers b x) (any_range (without at bs) x) y)) (λ y. inr y) (again z))
        (or_cases (covers b x) (any_range bs x) e)

pub no_block_at_zero : (bs : List Range) → LieApart bs → size_at 0 bs ≡ 0
no_block_at_zero [] s = refl
no_block_at_zero (b ∷ bs) s = go (eqb b.addr 0) refl (no_block_at_zero bs s.3)
  where
    go : (c : Bool) → eqb b.addr 0 ≡ c → size_at 0 bs ≡ 0 → cond c b.len (size_at 0 bs) ≡ 0
    go true f k = absurd (omega (arith, eqb-true b.addr 0 f, s.0))
    go false f k = k
