-- Where a new block may lie, and where it does.
use Rattle.std.specs.Prelude.{◌≡◌, ℕ, ◌+◌, ◌%◌, ◌≤◌, ◌⊎◌, All, length, take, drop}
use Rattle.pool_list.specs.declared.block.Block.{Block}
use Rattle.pool_list.specs.Blocks.{PoolState, end_of}

-- none of the n bytes from the address on is a byte of the block
abbrev pub Misses : ℕ → ℕ → Block → Type 0
Misses addr n b = (addr + n ≤ b.addr) ⊎ (end_of b ≤ addr)

-- n bytes may lie at the address: a multiple of 16 from which they lie in the pool and meet no live block
pub record IsPlace (pool : PoolState) (n addr : ℕ) : Type 0 where
  pub aligned : addr % 16 ≡ 0
  pub from_base : pool.base ≤ addr
  pub in_pool : addr + n ≤ pool.base + pool.size
  pub free : All (Misses addr n) pool.blocks

-- the address is the least at which n bytes may lie
pub record IsLeastPlace (pool : PoolState) (n addr : ℕ) : Type 0 where
  pub is_place : IsPlace pool n addr
  pub least : (other : ℕ) → IsPlace pool n other → addr ≤ other

-- the least place, and where a block there stands in the list
pub record IsGap (pool : PoolState) (n at addr : ℕ) : Type 0 where
  pub least_place : IsLeastPlace pool n addr
  pub in_list : at ≤ length pool.blocks
  pub before : All (λ b. end_of b ≤ addr) (take at pool.blocks)
  pub after : All (λ b. addr + n ≤ b.addr) (drop at pool.blocks)
