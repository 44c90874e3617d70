-- Blocks in address order: what stands where, and what an edit keeps.
use Rattle.std.proofs.Common.{◌≡◌, ℕ, zero, suc, ◌+◌, ◌*◌, ◌%◌, ◌<◌, ◌≤◌, ◌≢◌, true, false, not, cond, eqb, List, [], ◌∷◌, length, get_or, take, drop, Some, None, Result, Ok, Err, IfSome, IfNone, All, sym, refl, ap, inl, inr, arith}
use Rattle.std.specs.List.{insert, remove}
use Rattle.std.specs.List.Sorted.{IsNonDecreasingBy, IsSearchInRange, IsBinarySearchResult}
use Rattle.std.specs.Ordering.{nat_cmp, ordering_index}
use Rattle.std.specs.Result.{result_ok}
use Rattle.std.proofs.lemmas.Cmp.{ranked}
use Rattle.std.proofs.lemmas.Bool.{lt-ltb, le-ltb, eq-eqb, ne_eqb, cases_lt}
use Rattle.std.proofs.lemmas.List.Sorted.{IsNonDecreasingBy-from_default}
use Rattle.std.proofs.lemmas.List.Elements.{All-head, All-tail}
use Rattle.std.proofs.lemmas.Bool.Decides.{nat_tests}
use Rattle.pool_list.specs.declared.block.Block.{Block}
use Rattle.pool_list.specs.Blocks.{LieBetween, end_of, length_at, with_block, without_block, IsAt}
use Rattle.pool_list.specs.Places.{Misses}

-- a bound below serves as well
pub lie_wider : (from wider to : ℕ) (bs : List Block) → wider ≤ from → LieBetween from to bs → LieBetween wider to bs
lie_wider from wider to [] le lie = omega arith
lie_wider from wider to (b ∷ bs) le lie = (omega (arith, lie.0), lie.1, lie.2, lie.3)

-- the bounds are in order
pub lie_ends : (from to : ℕ) (bs : List Block) → LieBetween from to bs → from ≤ to
lie_ends from to [] lie = lie
lie_ends from to (b ∷ bs) lie = let rest : end_of b ≤ to = lie_ends (end_of b) to bs lie.3 in omega (arith, lie.0, lie.2)

-- up to the next multiple of 16 no block begins
pub lie_aligned : (from next to : ℕ) (bs : List Block) → next % 16 ≡ 0 → to % 16 ≡ 0 → next < from + 16 → LieBetween from to bs → LieBetween next to bs
lie_aligned from next to [] n t near lie = omega arith
lie_aligned from next to (b ∷ bs) n t near lie = (omega (arith, lie.0, lie.1), lie.1, lie.2, lie.3)

-- each block takes 16 bytes at least
pub lie_count : (from to : ℕ) (bs : List Block) → from % 16 ≡ 0 → to % 16 ≡ 0 → LieBetween from to bs → from + 16 * length bs ≤ to
lie_count from to [] f t lie = omega arith
lie_count from to (b ∷ bs) f t lie =
    let next : (b.addr + 16) % 16 ≡ 0 = omega (arith, lie.1) in
    let rest = lie_aligned (end_of b) (b.addr + 16) to bs next t (omega (arith, lie.2)) lie.3 in
    omega (arith, lie.0, lie_count (b.addr + 16) to bs next t rest)

-- every block begins at the lower bound or after it
pub addr_from : (from to : ℕ) (bs : List Block) → LieBetween from to bs → (at : ℕ) (d : Block) → at < length bs → from ≤ (get_or bs at d).addr
addr_from from to [] lie at d lt = absurd (omega arith)
addr_from from to (b ∷ bs) lie zero d lt = lie.0
addr_from from to (b ∷ bs) lie (suc at) d lt =
    let later : end_of b ≤ (get_or bs at d).addr = addr_from (end_of b) to bs lie.3 at d (omega arith) in
    omega (arith, lie.0)

-- the addresses rise
pub addr_rises : (from to : ℕ) (bs : List Block) → LieBetween from to bs → (i j : ℕ) (d : Block) → i < j → j < length bs → (get_or bs i d).addr < (get_or bs j d).addr
addr_rises from to [] lie i j d lt in_list = absurd (omega arith)
addr_rises from to (b ∷ bs) lie i zero d lt in_list = absurd (omega arith)
addr_rises from to (b ∷ bs) lie zero (suc j) d lt in_list =
    let later : end_of b ≤ (get_or bs j d).addr = addr_from (end_of b) to bs lie.3 j d (omega arith) in
    omega (arith, lie.2)
addr_rises from to (b ∷ bs) lie (suc i) (suc j) d lt in_list = addr_rises (end_of b) to bs lie.3 i j d (omega arith) (omega arith)

-- so the comparisons with an address rise too, as a binary search asks
pub comparisons_rise : (from to : ℕ) (bs : List Block) (addr : ℕ) → LieBetween from to bs → IsNonDecreasingBy (λ b. ordering_index (nat_cmp b.addr addr)) bs
comparisons_rise from to bs addr lie = IsNonDecreasingBy-from_default (λ b. ordering_index (nat_cmp b.addr addr)) bs (record { addr = 0; len = 0 }) rises
  where
    d : Block
    d = record { addr = 0; len = 0 }

    rises : (i j : ℕ) → i ≤ j → j < length bs → ordering_index (nat_cmp (get_or bs i d).addr addr) ≤ ordering_index (nat_cmp (get_or bs j d).addr addr)
    rises i j le in_list =
        let order : (get_or bs i d).addr ≤ (get_or bs j d).addr = grind (arith, addr_rises from to bs lie i j d, λ (same : i ≡ j). ap (λ k. (get_or bs k d).addr) same) in
        grind (arith, nat_tests)

-- no block begins where none of the list does
pub length_at_none : (bs : List Block) (addr : ℕ) → ((at : ℕ) (d : Block) → at < length bs → (get_or bs at d).addr ≢ addr) → length_at bs addr ≡ None
length_at_none [] addr none = refl
length_at_none (b ∷ bs) addr none = rw (ne_eqb b.addr addr (none 0 b (omega arith))) (length_at_none bs addr (λ at d lt. none (suc at) d (omega arith)))

-- the block that stands at a place is the one that begins at its address
pub length_at_some : (from to : ℕ) (bs : List Block) → LieBetween from to bs → (addr at : ℕ) (d : Block) → at < length bs → (get_or bs at d).addr ≡ addr → length_at bs addr ≡ Some (get_or bs at d).len
length_at_some from to [] lie addr at d lt is = absurd (omega arith)
length_at_some from to (b ∷ bs) lie addr zero d lt is = rw (eq-eqb b.addr addr is) refl
length_at_some from to (b ∷ bs) lie addr (suc at) d lt is =
    let later : end_of b ≤ (get_or bs at d).addr = addr_from (end_of b) to bs lie.3 at d (omega arith) in
    rw (ne_eqb b.addr addr (λ same. omega (arith, lie.2))) (length_at_some (end_of b) to bs lie.3 addr at d (omega arith) is)

-- a search by the address ends at the block that begins there, or where none does
pub searched : (from to : ℕ) (bs : List Block) → LieBetween from to bs → (addr : ℕ) (r : Result ℕ ℕ) → IsSearchInRange r (length bs) → IsBinarySearchResult (λ b. nat_cmp b.addr addr) bs r → record { found : IfSome (result_ok r) (IsAt bs addr); absent : IfNone (result_ok r) (length_at bs addr ≡ None) }
searched from to bs lie addr (Ok at) in_range equal = record {
  found = (in_range, λ d. ranked _ addr _ (sym (equal d)));
  absent = tt;
}
searched from to bs lie addr (Err at) in_range parted =
    let sides = parted (comparisons_rise from to bs addr lie) in
    record {
      found = tt;
      absent = length_at_none bs addr (λ k d in_list same. elim (cases_lt k at) [
        | inl before ↦ (let lt : (get_or bs k d).addr < addr = ranked _ addr _ (sym (sides.0 k d (omega arith) before)) in omega arith)
        | inr after ↦ (let gt : addr < (get_or bs k d).addr = ranked _ addr _ (sym (sides.1 k d after in_list)) in omega arith)
      ]);
    }

-- nothing is taken out where no block begins
without_block_none : (bs : List Block) (addr : ℕ) → ((at : ℕ) (d : Block) → at < length bs → (get_or bs at d).addr ≢ addr) → without_block bs addr ≡ bs
without_block_none [] addr none = refl
without_block_none (b ∷ bs) addr none = rw (ne_eqb b.addr addr (none 0 b (omega arith))) (ap (λ r. b ∷ r) (without_block_none bs addr (λ at d lt. none (suc at) d (omega arith))))

-- taking out by the address is taking out by the place
pub without_block_at : (from to : ℕ) (bs : List Block) → LieBetween from to bs → (addr at : ℕ) (d : Block) → at < length bs → (get_or bs at d).addr ≡ addr → without_block bs addr ≡ remove bs at
without_block_at from to [] lie addr at d lt is = absurd (omega arith)
without_block_at from to (b ∷ bs) lie addr zero d lt is =
    rw (eq-eqb b.addr addr is) (without_block_none bs addr (λ k e in_list same.
    let later : end_of b ≤ (get_or bs k e).addr = addr_from (end_of b) to bs lie.3 k e in_list in
    omega (arith, lie.2)))
without_block_at from to (b ∷ bs) lie addr (suc at) d lt is =
    let later : end_of b ≤ (get_or bs at d).addr = addr_from (end_of b) to bs lie.3 at d (omega arith) in
    rw (ne_eqb b.addr addr (λ same. omega (arith, lie.2))) (ap (λ r. b ∷ r) (without_block_at (end_of b) to bs lie.3 addr at d (omega arith) is))

-- what is left lies as before
pub lie_without_block : (from to : ℕ) (bs : List Block) (addr : ℕ) → LieBetween from to bs → LieBetween from to (without_block bs addr)
lie_without_block from to [] addr lie = lie
lie_without_block from to (b ∷ bs) addr lie =
    let rest = lie_without_block (end_of b) to bs addr lie.3 in
    elim (eqb b.addr addr) as (λ t. LieBetween from to (cond (not t) (b ∷ without_block bs addr) (without_block bs addr))) [
      | true ↦ lie_wider (end_of b) from to (without_block bs addr) (omega (arith, lie.0)) rest
      | false ↦ (lie.0, lie.1, lie.2, rest)
    ]

-- a block that goes between those before a place and those from it on stands at that place
pub with_block_at : (bs : List Block) (new : Block) (at : ℕ) → at ≤ length bs → All (λ b. b.addr ≤ new.addr) (take at bs) → All (λ b. new.addr < b.addr) (drop at bs) → with_block bs new ≡ insert bs at new
with_block_at [] new zero le before after = refl
with_block_at [] new (suc at) le before after = absurd (omega arith)
with_block_at (b ∷ bs) new zero le before after = rw (lt-ltb new.addr b.addr (All-head (λ b. new.addr < b.addr) b bs after)) refl
with_block_at (b ∷ bs) new (suc at) le before after =
    let head : b.addr ≤ new.addr = All-head (λ b. b.addr ≤ new.addr) b (take at bs) before in
    rw (le-ltb new.addr b.addr head) (ap (λ r. b ∷ r) (with_block_at bs new at (omega arith) (All-tail (λ b. b.addr ≤ new.addr) b (take at bs) before) after))

-- a new block that meets no other lies among them
pub lie_with_block : (from to : ℕ) (bs : List Block) (new : Block) → from ≤ new.addr → new.addr % 16 ≡ 0 → 1 ≤ new.len → end_of new ≤ to → All (Misses new.addr new.len) bs → LieBetween from to bs → LieBetween from to (with_block bs new)
lie_with_block from to [] new low aligned some high misses lie = (low, aligned, some, high)
lie_with_block from to (b ∷ bs) new low aligned some high misses lie =
    let here : Misses new.addr new.len b = All-head (Misses new.addr new.len) b bs misses in
    let rest = All-tail (Misses new.addr new.len) b bs misses in
    elim (cases_lt new.addr b.addr) [
      | inl below ↦ rw (lt-ltb new.addr b.addr below) (low, aligned, some, (elim here [ inl left ↦ left | inr right ↦ absurd (omega (arith, lie.2)) ], lie.1, lie.2, lie.3))
      | inr above ↦ rw (le-ltb new.addr b.addr above) (lie.0, lie.1, lie.2, lie_with_block (end_of b) to bs new (elim here [ inl left ↦ absurd (omega arith) | inr right ↦ right ]) aligned some high rest lie.3)
    ]
