-- The walk over the blocks to the first gap that is long enough.
use Rattle.std.proofs.Common.{◌≡◌, ℕ, ◌+◌, ◌*◌, ◌%◌, ◌<◌, ◌≤◌, List, ◌∷◌, length, get_or, take, drop, All, inl, inr, sym, ap, ◌∙◌, subst, arith}
use Rattle.std.proofs.lemmas.List.{drop_more, drop_all, take-append-drop}
use Rattle.std.specs.List.{insert}
use Rattle.std.proofs.lemmas.List.Edits.{length-insert}
use Rattle.std.proofs.lemmas.List.Elements.{All-nil, All-more, All-weaker, All-append}
use Rattle.pool_list.specs.declared.block.Block.{Block}
use Rattle.pool_list.specs.Blocks.{PoolState, LieBetween, end_of, with_block}
use Rattle.pool_list.specs.Places.{Misses, IsPlace, IsGap}
use Rattle.pool_list.proofs.Order.{lie_ends, lie_aligned, lie_count, addr_from, with_block_at, lie_with_block}

-- the walk has passed the first blocks: those end at the address or before it, the others lie from it on, and no lower
-- address is a place
pub record Passed (p : PoolState) (n at addr : ℕ) : Type 0 where
  pub aligned : addr % 16 ≡ 0
  pub from_base : p.base ≤ addr
  pub left : LieBetween addr (p.base + p.size) (drop at p.blocks)
  pub passed : All (λ b. end_of b ≤ addr) (take at p.blocks)
  pub least : (other : ℕ) → IsPlace p n other → addr ≤ other

-- what the code reads past a list's end
abbrev pub no_block : Block
no_block = record { addr = 0; len = 0 }

-- before the first block
pub passed_none : (p : PoolState) (n : ℕ) → p.base % 16 ≡ 0 → LieBetween p.base (p.base + p.size) p.blocks → Passed p n 0 p.base
passed_none p n aligned lie = record {
  aligned = aligned;
  from_base = omega arith;
  left = lie;
  passed = All-nil (λ b. end_of b ≤ p.base);
  least = λ other place. place.from_base;
}

-- blocks from an address on begin there or after it
all_from : (from to : ℕ) (bs : List Block) → LieBetween from to bs → All (λ b. from ≤ b.addr) bs
all_from from to bs lie k d in_list = addr_from from to bs lie k d in_list

module _ (p : PoolState) (n at addr : ℕ) (so_far : Passed p n at addr) where
  -- n bytes fit where the blocks that are left begin after them
  pub gap_here : at ≤ length p.blocks → LieBetween (addr + n) (p.base + p.size) (drop at p.blocks) → IsGap p n at addr
  gap_here in_list lie =
      let following = all_from (addr + n) (p.base + p.size) (drop at p.blocks) lie in
      let left = All-weaker (λ b. end_of b ≤ addr) (Misses addr n) (λ b before. inr before) (take at p.blocks) so_far.passed in
      let right = All-weaker (λ b. addr + n ≤ b.addr) (Misses addr n) (λ b after. inl after) (drop at p.blocks) following in
      record {
        least_place = record {
          is_place = record {
            aligned = so_far.aligned;
            from_base = so_far.from_base;
            in_pool = lie_ends (addr + n) (p.base + p.size) (drop at p.blocks) lie;
            free = subst (λ (bs : List Block). All (Misses addr n) bs) (take-append-drop at p.blocks) (All-append (Misses addr n) (take at p.blocks) (drop at p.blocks) left right);
          };
          least = so_far.least;
        };
        in_list = in_list;
        before = so_far.passed;
        after = following;
      }

  -- the block at the walk's place, and those after it
  pub left_at : at < length p.blocks → LieBetween addr (p.base + p.size) (get_or p.blocks at no_block ∷ drop (at + 1) p.blocks)
  left_at lt = subst (λ (bs : List Block). LieBetween addr (p.base + p.size) bs) (drop_more p.blocks at no_block lt) so_far.left

  -- n bytes fit before the next block where it begins after them
  pub gap_before : at < length p.blocks → addr + n ≤ (get_or p.blocks at no_block).addr → IsGap p n at addr
  gap_before lt room =
      let lie = left_at lt in
      gap_here (omega arith) (subst (λ (bs : List Block). LieBetween (addr + n) (p.base + p.size) bs) (sym (drop_more p.blocks at no_block lt)) (room, lie.1, lie.2, lie.3))

  -- where they don't fit, the walk goes on at the first multiple of 16 after the block
  pub passed_more : (next : ℕ) → at < length p.blocks → (p.base + p.size) % 16 ≡ 0 → (get_or p.blocks at no_block).addr < addr + n → next % 16 ≡ 0 → end_of (get_or p.blocks at no_block) ≤ next → next < end_of (get_or p.blocks at no_block) + 16 → Passed p n (at + 1) next
  passed_more next lt ends short aligned following near =
      let b = get_or p.blocks at no_block in
      let lie = left_at lt in
      let forward : addr ≤ next = omega (arith, lie.0, lie.2) in
      record {
        aligned = aligned;
        from_base = omega (arith, so_far.from_base);
        left = lie_aligned (end_of b) next (p.base + p.size) (drop (at + 1) p.blocks) aligned ends near lie.3;
        passed = All-more (λ b. end_of b ≤ next) p.blocks at no_block lt (All-weaker (λ b. end_of b ≤ addr) (λ b. end_of b ≤ next) (λ b before. omega arith) (take at p.blocks) so_far.passed) following;
        least = λ other place. elim (place.free at no_block lt) [
          | inl left ↦ absurd (omega (arith, so_far.least other place))
          | inr right ↦ omega (arith, place.aligned)
        ];
      }

  -- after the last block n bytes fit before the pool's end
  pub gap_at_end : length p.blocks ≤ at → at ≤ length p.blocks → addr + n ≤ p.base + p.size → IsGap p n at addr
  gap_at_end all in_list room = gap_here in_list (subst (λ (bs : List Block). LieBetween (addr + n) (p.base + p.size) bs) (sym (drop_all at p.blocks all)) room)

  -- or they fit nowhere
  pub no_gap : p.base + p.size < addr + n → (other : ℕ) → IsPlace p n other → ⊥
  no_gap short other place = omega (arith, so_far.least other place, place.in_pool)

module _ (p : PoolState) (n at addr : ℕ) (some : 1 ≤ n) (gap : IsGap p n at addr) (lie : LieBetween p.base (p.base + p.size) p.blocks) where
  -- a block in the gap stands at the gap's place in the list
  pub with_block_gap : with_block p.blocks (record { addr = addr; len = n }) ≡ insert p.blocks at (record { addr = addr; len = n })
  with_block_gap =
      with_block_at p.blocks (record { addr = addr; len = n }) at gap.in_list
      (All-weaker (λ b. end_of b ≤ addr) (λ b. b.addr ≤ addr) (λ b ends. omega arith) (take at p.blocks) gap.before)
      (All-weaker (λ b. addr + n ≤ b.addr) (λ b. addr < b.addr) (λ b begins. omega arith) (drop at p.blocks) gap.after)

  -- it lies among the others
  pub lie_gap : LieBetween p.base (p.base + p.size) (with_block p.blocks (record { addr = addr; len = n }))
  lie_gap =
      let place = gap.least_place.is_place in
      lie_with_block p.base (p.base + p.size) p.blocks (record { addr = addr; len = n }) place.from_base place.aligned some place.in_pool place.free lie

  -- so a pool with room for a block at each multiple of 16 has room for it
  pub room_for_gap : (room : ℕ) → p.base % 16 ≡ 0 → p.size % 16 ≡ 0 → p.size ≤ 16 * room → length p.blocks < room
  room_for_gap room base_aligned size_aligned enough =
      let count = lie_count p.base (p.base + p.size) (with_block p.blocks (record { addr = addr; len = n })) base_aligned (omega (arith, base_aligned, size_aligned)) lie_gap in
      let more : length (with_block p.blocks (record { addr = addr; len = n })) ≡ length p.blocks + 1 = ap length with_block_gap ∙ length-insert p.blocks at (record { addr = addr; len = n }) gap.in_list in
      omega arith
