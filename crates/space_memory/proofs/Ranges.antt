-- Ranges that lie in one another, and the addresses that they cover.
use Rattle.std.proofs.Common.{◌≡◌, ℕ, ◌+◌, ◌<◌, ◌≤◌, ◌⊎◌, true, false, leb, ltb, List, [], ◌∷◌, IfSome, inl, inr, arith}
use Rattle.std.proofs.lemmas.Bool.{cases_lt, lt-ltb, le-ltb, le-leb, lt-leb, and_from, and_left, and_right, cases_eq, eq-eqb, ne_eqb}
use Rattle.marks.specs.declared.range.Range.{Range}
use Rattle.marks.specs.Ranges.{covers}
use Rattle.space_memory_bytes.specs.Areas.{LiesIn}
use Rattle.pool_list.specs.declared.block.Block.{Block}
use Rattle.pool_list.specs.Blocks.{LieBetween, end_of, length_at}
use Rattle.space_memory.specs.Sides.{IsWithin}

-- an address is covered by a range, or lies before or after it
pub cover_cases : (r : Range) (x : ℕ) → record { is : covers r x ≡ true; from : r.addr ≤ x; below : x < r.addr + r.len } ⊎ record { is : covers r x ≡ false; out : (x < r.addr) ⊎ (r.addr + r.len ≤ x) }
cover_cases r x = elim (cases_lt x r.addr) [
  | inl before ↦ inr (record { is = and_left (leb r.addr x) (ltb x (r.addr + r.len)) (lt-leb r.addr x before); out = inl before })
  | inr from ↦ elim (cases_lt x (r.addr + r.len)) [
    | inl below ↦ inl (record { is = and_from (leb r.addr x) (ltb x (r.addr + r.len)) (le-leb r.addr x from) (lt-ltb x (r.addr + r.len) below); from = from; below = below })
    | inr after ↦ inr (record { is = and_right (leb r.addr x) (ltb x (r.addr + r.len)) (le-ltb x (r.addr + r.len) after); out = inr after })
  ]
]

-- a part of a range lies where the range lies
pub part_lies : (r part : Range) (ranges : List Range) → r.addr ≤ part.addr → part.addr + part.len ≤ r.addr + r.len → LiesIn r ranges → LiesIn part ranges
part_lies r part ranges from to (k, e, lt, is, room) = (k, e, lt, is, (omega (arith, room.0), omega (arith, room.1)))

pub within_lies : (outer inner : Range) (ranges : List Range) → IsWithin outer inner → LiesIn outer ranges → LiesIn inner ranges
within_lies outer inner ranges within lies = part_lies outer inner ranges within.from within.to lies

-- the bounds of blocks are in order
lie_ends : (from to : ℕ) (bs : List Block) → LieBetween from to bs → from ≤ to
lie_ends from to [] lie = lie
lie_ends from to (b ∷ bs) lie = let rest : end_of b ≤ to = lie_ends (end_of b) to bs lie.3 in omega (arith, lie.0, lie.2)

-- the block that begins at an address lies between them
pub block_within : (from size low : ℕ) (bs : List Block) (addr : ℕ) → from ≤ low → LieBetween low (from + size) bs → IfSome (length_at bs addr) (λ len. IsWithin (record { addr = from; len = size }) (record { addr = addr; len = len }))
block_within from size low [] addr le lie = tt
block_within from size low (b ∷ bs) addr le lie =
    let rest : end_of b ≤ from + size = lie_ends (end_of b) (from + size) bs lie.3 in
    elim (cases_eq b.addr addr) [
      | inl same ↦ rw (eq-eqb b.addr addr same) (record { from = omega (arith, lie.0); to = omega arith })
      | inr other ↦ rw (ne_eqb b.addr addr other) (block_within from size (end_of b) bs addr (omega (arith, lie.0)) lie.3)
    ]
