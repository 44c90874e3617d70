-- Lists of live blocks in address order, and what they hold.
use Rattle.std.specs.Prelude.{◌≡◌, ℕ, ◌+◌, ◌*◌, ◌%◌, ◌^◌, ◌≤◌, ◌<◌, List, [], ◌∷◌, Option, Some, None, if◌then◌else◌, ◌==◌, nat_lt, filter, not, length}
use Rattle.std.specs.List.{HoldsAt}
use Rattle.pool_list.specs.declared.block.Block.{Block}

-- a pool: where it begins, how many bytes it has, and its live blocks in address order
pub record PoolState : Type 0 where
  pub base : ℕ
  pub size : ℕ
  pub blocks : List Block

-- the address after the last byte of a block
abbrev pub end_of : Block → ℕ
end_of b = b.addr + b.len

-- blocks in address order between two addresses: none is empty, each begins at a multiple of 16, none meets
-- another
abbrev pub LieBetween : ℕ → ℕ → List Block → Type 0
LieBetween from to [] = from ≤ to
LieBetween from to (b ∷ bs) = (from ≤ b.addr) × (b.addr % 16 ≡ 0) × (1 ≤ b.len) ×
    LieBetween (end_of b) to bs

-- the live blocks lie in the pool, in address order, and none meets another
abbrev pub IsLaidOut : PoolState → Type 0
IsLaidOut p = LieBetween p.base (p.base + p.size) p.blocks

-- what a pool with room for so many blocks keeps: its ends are multiples of 16 and addresses, and a block
-- at each
-- multiple of 16 would have room
pub record IsKept (base size room : ℕ) (blocks : List Block) : Type 0 where
  pub base_aligned : base % 16 ≡ 0
  pub size_aligned : size % 16 ≡ 0
  pub ends : base + size < 2 ^ 64
  pub enough_room : size ≤ 16 * room
  pub laid_out : LieBetween base (base + size) blocks

-- the length of the block that begins at the address, if one does
abbrev pub length_at : List Block → ℕ → Option ℕ
length_at [] addr = None
length_at (b ∷ bs) addr = if b.addr == addr then Some b.len else length_at bs addr

-- the blocks with one more, in its place by address
abbrev pub with_block : List Block → Block → List Block
with_block [] new = new ∷ []
with_block (b ∷ bs) new = if nat_lt new.addr b.addr then new ∷ b ∷ bs else b ∷ with_block bs new

-- the blocks but for the one that begins at the address
abbrev pub without_block : List Block → ℕ → List Block
without_block bs addr = filter (λ b. not (b.addr == addr)) bs

-- the block at a place of the list begins at the address
abbrev pub IsAt : List Block → ℕ → ℕ → Type 0
IsAt bs addr at = (at < length bs) × HoldsAt (λ b. b.addr ≡ addr) bs at
