-- Tests of a place in a pool.
use Rattle.std.specs.Prelude.{ℕ, ◌+◌, Bool, false, ◌&&◌, ◌||◌, not, leb, ltb, List, [], ◌∷◌}
use Rattle.marks.specs.Places.{pool_size}
use Rattle.marks.specs.declared.range.Range.{Range}

-- whether so many bytes from there on meet this block
abbrev pub meets : Range → (at size : ℕ) → Bool
meets b at size = ltb at (b.addr + b.len) && ltb b.addr (at + size)

-- whether they meet one of these
abbrev pub meets_any : List Range → (at size : ℕ) → Bool
meets_any [] at size = false
meets_any (b ∷ bs) at size = meets b at size || meets_any bs at size

-- whether there are some, they end in the pool, and they meet none
abbrev pub fits : (pool : ℕ) → List Range → (size at : ℕ) → Bool
fits pool bs size at = ltb 0 size && (leb (at + size) (pool + pool_size) && not (meets_any bs at size))
