-- Blocks in address order, with one more and with one less.
use Rattle.std.proofs.Common.{◌≡◌, ℕ, ◌+◌, ◌%◌, ◌<◌, ◌≤◌, Bool, true, false, not, cond, ◌||◌, eqb, ltb, List, [], ◌∷◌, Option, Some, None, All, inl, inr, refl, ap, sym, ◌∙◌, subst, arith, eqb-true}
use Rattle.std.proofs.lemmas.Bool.{lt-ltb, le-ltb, eq-eqb, ne_eqb, cases_lt, cases_eq, cond-true, cond-false, true≢false}
use Rattle.std.proofs.lemmas.List.Elements.{All-nil, All-cons, All-head, All-tail}
use Rattle.marks.specs.declared.range.Range.{Range}
use Rattle.marks.specs.Ranges.{covers, any_range}
use Rattle.pool_list.specs.declared.block.Block.{Block}
use Rattle.pool_list.specs.Blocks.{LieBetween, end_of, length_at, with_block, without_block}
use Rattle.pool_list.specs.Places.{Misses}
use Rattle.replay_runs.specs.Pool.{without, MeetsNone}
use Rattle.space_memory_laws.specs.Shown.{by_address}
use Rattle.space_memory_laws.proofs.Cells.{cover_cases}

-- the addresses of a block
abbrev pub block_range : Block → Range
block_range b = record { addr = b.addr; len = b.len }

abbrev pub block_of : Range → Block
block_of r = record { addr = r.addr; len = r.len }

-- a bound below serves as well
lie_wider : (from wider to : ℕ) (bs : List Block) → wider ≤ from → LieBetween from to bs → LieBetween wider to bs
lie_wider from wider to [] le lie = omega (arith, lie, le)
lie_wider from wider to (b ∷ bs) le lie = (omega (arith, lie.0, le), lie.1, lie.2, lie.3)

lie_ends : (from to : ℕ) (bs : List Block) → LieBetween from to bs → from ≤ to
lie_ends from to [] lie = lie
lie_ends from to (b ∷ bs) lie = let rest : end_of b ≤ to = lie_ends (end_of b) to bs lie.3 in omega (arith, lie.0, lie.2)

-- a block that begins at an address, or none
pub is_at : Block → ℕ → Bool
is_at b addr = eqb b.addr addr

-- the blocks but for one more
pub lie_less : (from to : ℕ) (bs : List Block) (new : Block) → LieBetween from to (with_block bs new) → LieBetween from to bs
lie_less from to [] new lie = lie_ends from to (new ∷ []) lie
lie_less from to (b ∷ bs) new lie = elim (cases_lt new.addr b.addr) [
  | inl before ↦
      let all : LieBetween from to (new ∷ b ∷ bs) = subst (λ c. LieBetween from to (cond c (new ∷ b ∷ bs) (b ∷ with_block bs new))) (lt-ltb new.addr b.addr before) lie in
      lie_wider (end_of new) from to (b ∷ bs) (omega (arith, all.0)) all.3
  | inr after ↦
      let all : LieBetween from to (b ∷ with_block bs new) = subst (λ c. LieBetween from to (cond c (new ∷ b ∷ bs) (b ∷ with_block bs new))) (le-ltb new.addr b.addr after) lie in
      (all.0, all.1, all.2, lie_less (end_of b) to bs new all.3)
]

-- where that one lies
pub lie_new : (from to : ℕ) (bs : List Block) (new : Block) → LieBetween from to (with_block bs new) → (from ≤ new.addr) × (1 ≤ new.len) × (end_of new ≤ to)
lie_new from to [] new lie = (lie.0, lie.2, lie.3)
lie_new from to (b ∷ bs) new lie = elim (cases_lt new.addr b.addr) [
  | inl before ↦
      let all : LieBetween from to (new ∷ b ∷ bs) = subst (λ c. LieBetween from to (cond c (new ∷ b ∷ bs) (b ∷ with_block bs new))) (lt-ltb new.addr b.addr before) lie in
      (all.0, all.2, lie_ends (end_of new) to (b ∷ bs) all.3)
  | inr after ↦
      let all : LieBetween from to (b ∷ with_block bs new) = subst (λ c. LieBetween from to (cond c (new ∷ b ∷ bs) (b ∷ with_block bs new))) (le-ltb new.addr b.addr after) lie in
      let rest = lie_new (end_of b) to bs new all.3 in
      (omega (arith, all.0, rest.0), rest.1, rest.2)
]

-- a new block that meets no other lies among them
pub lie_with_block : (from to : ℕ) (bs : List Block) (new : Block) → from ≤ new.addr → new.addr % 16 ≡ 0 → 1 ≤ new.len → end_of new ≤ to →
    All (Misses new.addr new.len) bs → LieBetween from to bs → LieBetween from to (with_block bs new)
lie_with_block from to [] new low aligned some high misses lie = (low, aligned, some, high)
lie_with_block from to (b ∷ bs) new low aligned some high misses lie =
    let here : Misses new.addr new.len b = All-head (Misses new.addr new.len) b bs misses in
    let rest = All-tail (Misses new.addr new.len) b bs misses in
    elim (cases_lt new.addr b.addr) [
      | inl below ↦ rw (lt-ltb new.addr b.addr below) (low, aligned, some, (elim here [ inl left ↦ left | inr right ↦ absurd (omega (arith, lie.2)) ], lie.1, lie.2, lie.3))
      | inr above ↦ rw (le-ltb new.addr b.addr above) (lie.0, lie.1, lie.2, lie_with_block (end_of b) to bs new (elim here [ inl left ↦ absurd (omega arith) | inr right ↦ right ]) aligned some high rest lie.3)
    ]

-- what is left lies as before
pub lie_without : (from to : ℕ) (bs : List Block) (addr : ℕ) → LieBetween from to bs → LieBetween from to (without_block bs addr)
lie_without from to [] addr lie = lie
lie_without from to (b ∷ bs) addr lie =
    let rest = lie_without (end_of b) to bs addr lie.3 in
    elim (eqb b.addr addr) as (λ t. LieBetween from to (cond (not t) (b ∷ without_block bs addr) (without_block bs addr))) [
      | true ↦ lie_wider (end_of b) from to (without_block bs addr) (omega (arith, lie.0)) rest
      | false ↦ (lie.0, lie.1, lie.2, rest)
    ]

-- nothing is taken out below all blocks
without_below : (from to : ℕ) (bs : List Block) (addr : ℕ) → LieBetween from to bs → addr < from → without_block bs addr ≡ bs
without_below from to [] addr lie lt = refl
without_below from to (b ∷ bs) addr lie lt = rw (ne_eqb b.addr addr (λ e. absurd (omega (arith, e, lie.0, lt)))) (ap (λ r. b ∷ r) (without_below (end_of b) to bs addr lie.3 (omega (arith, lie.0, lie.2, lt))))

-- a block before all others stands first
with_prefix : (from to : ℕ) (bs : List Block) (new : Block) → LieBetween from to bs → new.addr < from → with_block bs new ≡ new ∷ bs
with_prefix from to [] new lie lt = refl
with_prefix from to (b ∷ bs) new lie lt = rw (lt-ltb new.addr b.addr (omega (arith, lie.0, lt))) refl

-- the new block taken out again
pub without_new : (from to : ℕ) (bs : List Block) (new : Block) (addr : ℕ) → LieBetween from to (with_block bs new) → new.addr ≡ addr → without_block (with_block bs new) addr ≡ bs
without_new from to [] new addr lie e = rw (eq-eqb new.addr addr e) refl
without_new from to (b ∷ bs) new addr lie e = elim (cases_lt new.addr b.addr) [
  | inl before ↦
      let all : LieBetween from to (new ∷ b ∷ bs) = subst (λ c. LieBetween from to (cond c (new ∷ b ∷ bs) (b ∷ with_block bs new))) (lt-ltb new.addr b.addr before) lie in
      rw (lt-ltb new.addr b.addr before, eq-eqb new.addr addr e) (without_below (end_of new) to (b ∷ bs) addr all.3 (omega (arith, e, all.2)))
  | inr after ↦
      let all : LieBetween from to (b ∷ with_block bs new) = subst (λ c. LieBetween from to (cond c (new ∷ b ∷ bs) (b ∷ with_block bs new))) (le-ltb new.addr b.addr after) lie in
      let rest = lie_new (end_of b) to bs new all.3 in
      rw (le-ltb new.addr b.addr after, ne_eqb b.addr addr (λ z. absurd (omega (arith, z, e, rest.0, all.2)))) (ap (λ r. b ∷ r) (without_new (end_of b) to bs new addr all.3 e))
]

-- another block taken out
pub without_old : (from to : ℕ) (bs : List Block) (new : Block) (addr : ℕ) → LieBetween from to (with_block bs new) → (new.addr ≡ addr → ⊥) →
    without_block (with_block bs new) addr ≡ with_block (without_block bs addr) new
without_old from to [] new addr lie ne = rw (ne_eqb new.addr addr ne) refl
without_old from to (b ∷ bs) new addr lie ne = elim (cases_lt new.addr b.addr) [
  | inl before ↦
      let all : LieBetween from to (new ∷ b ∷ bs) = subst (λ c. LieBetween from to (cond c (new ∷ b ∷ bs) (b ∷ with_block bs new))) (lt-ltb new.addr b.addr before) lie in
      ap (λ c. without_block (cond c (new ∷ b ∷ bs) (b ∷ with_block bs new)) addr) (lt-ltb new.addr b.addr before)
      ∙ ap (λ c. cond (not c) (new ∷ without_block (b ∷ bs) addr) (without_block (b ∷ bs) addr)) (ne_eqb new.addr addr ne)
      ∙ sym (with_prefix (end_of new) to (without_block (b ∷ bs) addr) new (lie_without (end_of new) to (b ∷ bs) addr all.3) (omega (arith, all.2)))
  | inr after ↦
      let all : LieBetween from to (b ∷ with_block bs new) = subst (λ c. LieBetween from to (cond c (new ∷ b ∷ bs) (b ∷ with_block bs new))) (le-ltb new.addr b.addr after) lie in
      let rest = without_old (end_of b) to bs new addr all.3 ne in
      ap (λ c. without_block (cond c (new ∷ b ∷ bs) (b ∷ with_block bs new)) addr) (le-ltb new.addr b.addr after)
      ∙ elim (eqb b.addr addr) as (λ c. cond (not c) (b ∷ without_block (with_block bs new) addr) (without_block (with_block bs new) addr) ≡ with_block (cond (not c) (b ∷ without_block bs addr) (without_block bs addr)) new) [
        | true ↦ rest
        | false ↦ ap (λ r. b ∷ r) rest ∙ sym (ap (λ c. cond c (new ∷ b ∷ without_block bs addr) (b ∷ with_block (without_block bs addr) new)) (le-ltb new.addr b.addr after))
      ]
]

-- a list of a run and the list by address lose the same block
pub by_address_without : (from to : ℕ) (bs : List Range) (at : ℕ) → LieBetween from to (by_address bs) → by_address (without at bs) ≡ without_block (by_address bs) at
by_address_without from to [] at lie = refl
by_address_without from to (b ∷ bs) at lie =
    let rest = by_address_without from to bs at (lie_less from to (by_address bs) (block_of b) lie) in
    elim (cases_eq b.addr at) [
      | inl e ↦ ap by_address (cond-true (eqb b.addr at) bs (b ∷ without at bs) (eq-eqb b.addr at e)) ∙ sym (without_new from to (by_address bs) (block_of b) at lie e)
      | inr ne ↦
          ap by_address (cond-false (eqb b.addr at) bs (b ∷ without at bs) (ne_eqb b.addr at ne))
          ∙ ap (λ l. with_block l (block_of b)) rest
          ∙ sym (without_old from to (by_address bs) (block_of b) at lie ne)
    ]

-- nothing is taken out where no block can begin
pub nothing_without : (from to : ℕ) (bs : List Range) (at : ℕ) → LieBetween from to (by_address bs) → at < from → without at bs ≡ bs
nothing_without from to [] at lie lt = refl
nothing_without from to (b ∷ bs) at lie lt =
    let new = lie_new from to (by_address bs) (block_of b) lie in
    cond-false (eqb b.addr at) bs (b ∷ without at bs) (ne_eqb b.addr at (λ e. absurd (omega (arith, e, lt, new.0)))) ∙ ap (λ l. b ∷ l) (nothing_without from to bs at (lie_less from to (by_address bs) (block_of b) lie) lt)

-- whether a block has an address
pub any_block : List Block → ℕ → Bool
any_block [] x = false
any_block (b ∷ bs) x = covers (block_range b) x || any_block bs x

or_swap : (a b c : Bool) → (a || (b || c)) ≡ (b || (a || c))
or_swap true true c = refl
or_swap true false c = refl
or_swap false b c = refl

any_with : (bs : List Block) (new : Block) (x : ℕ) → any_block (with_block bs new) x ≡ (covers (block_range new) x || any_block bs x)
unfolding any_block
any_with [] new x = refl
any_with (b ∷ bs) new x =
    let rest = any_with bs new x in
    elim (ltb new.addr b.addr) as (λ c. any_block (cond c (new ∷ b ∷ bs) (b ∷ with_block bs new)) x ≡ (covers (block_range new) x || (covers (block_range b) x || any_block bs x))) [
      | true ↦ refl
      | false ↦ ap (λ c. covers (block_range b) x || c) rest ∙ or_swap (covers (block_range b) x) (covers (block_range new) x) (any_block bs x)
    ]

pub any_is : (bs : List Range) (x : ℕ) → any_range bs x ≡ any_block (by_address bs) x
unfolding any_block
any_is [] x = refl
any_is (b ∷ bs) x = ap (λ c. covers b x || c) (any_is bs x) ∙ sym (any_with (by_address bs) (block_of b) x)

-- no block has an address below all
none_below : (from to : ℕ) (bs : List Block) (x : ℕ) → LieBetween from to bs → x < from → any_block bs x ≡ false
unfolding any_block
none_below from to [] x lie lt = refl
none_below from to (b ∷ bs) x lie lt = elim (cover_cases (block_range b) x) [
  | inl in' ↦ absurd (omega (arith, in'.from, lie.0, lt))
  | inr out ↦ ap (λ c. c || any_block bs x) out.is ∙ none_below (end_of b) to bs x lie.3 (omega (arith, lie.0, lie.2, lt))
]

-- a block that begins somewhere begins after all that end before
pub begins_from : (from to : ℕ) (bs : List Block) (addr size : ℕ) → LieBetween from to bs → length_at bs addr ≡ Some size → (from ≤ addr) × (1 ≤ size) × (addr + size ≤ to)
begins_from from to [] addr size lie is = absurd (none_some size is)
  where
    none_some : (n : ℕ) → ◌≡◌ {A = Option ℕ} None (Some n) → ⊥
    none_some n e = absurd cc
begins_from from to (b ∷ bs) addr size lie is = elim (cases_eq b.addr addr) [
  | inl e ↦
      let len : b.len ≡ size = some_same b.len size (sym (cond-true (eqb b.addr addr) (Some b.len) (length_at bs addr) (eq-eqb b.addr addr e)) ∙ is) in
      let ends = lie_ends (end_of b) to bs lie.3 in
      (omega (arith, lie.0, e), omega (arith, lie.2, len), omega (arith, e, len, ends))
  | inr ne ↦
      let rest = begins_from (end_of b) to bs addr size lie.3 (sym (cond-false (eqb b.addr addr) (Some b.len) (length_at bs addr) (ne_eqb b.addr addr ne)) ∙ is) in
      (omega (arith, lie.0, rest.0), rest.1, rest.2)
]
  where
    some_same : (a c : ℕ) → ◌≡◌ {A = Option ℕ} (Some a) (Some c) → a ≡ c
    some_same a c e = cc

-- without a block its addresses are in none
pub any_without : (from to : ℕ) (bs : List Block) (addr size x : ℕ) → LieBetween from to bs → length_at bs addr ≡ Some size →
    any_block (without_block bs addr) x ≡ cond (covers (record { addr = addr; len = size }) x) false (any_block bs x)
unfolding any_block
any_without from to [] addr size x lie is = absurd (none_some size is)
  where
    none_some : (n : ℕ) → ◌≡◌ {A = Option ℕ} None (Some n) → ⊥
    none_some n e = absurd cc
any_without from to (b ∷ bs) addr size x lie is = elim (cases_eq b.addr addr) [
  | inl e ↦
      let len : b.len ≡ size = some_same b.len size (sym (cond-true (eqb b.addr addr) (Some b.len) (length_at bs addr) (eq-eqb b.addr addr e)) ∙ is) in
      let same : covers (block_range b) x ≡ covers (record { addr = addr; len = size }) x = ap (λ a. covers (record { addr = a; len = b.len }) x) e ∙ ap (λ n. covers (record { addr = addr; len = n }) x) len in
      ap (λ c. any_block (cond (not c) (b ∷ without_block bs addr) (without_block bs addr)) x) (eq-eqb b.addr addr e)
      ∙ ap (λ l. any_block l x) (without_below (end_of b) to bs addr lie.3 (omega (arith, e, lie.2)))
      ∙ elim (cover_cases (block_range b) x) [
        | inl in' ↦ none_below (end_of b) to bs x lie.3 in'.below ∙ sym (cond-true (covers (record { addr = addr; len = size }) x) false _ (sym same ∙ in'.is))
        | inr out ↦ sym (cond-false (covers (record { addr = addr; len = size }) x) false _ (sym same ∙ out.is) ∙ ap (λ c. c || any_block bs x) out.is)
      ]
  | inr ne ↦
      let left : length_at bs addr ≡ Some size = sym (cond-false (eqb b.addr addr) (Some b.len) (length_at bs addr) (ne_eqb b.addr addr ne)) ∙ is in
      let begin = begins_from (end_of b) to bs addr size lie.3 left in
      ap (λ c. any_block (cond (not c) (b ∷ without_block bs addr) (without_block bs addr)) x) (ne_eqb b.addr addr ne)
      ∙ ap (λ c. covers (block_range b) x || c) (any_without (end_of b) to bs addr size x lie.3 left)
      ∙ elim (cover_cases (record { addr = addr; len = size }) x) [
        | inl in' ↦ apart (covers (block_range b) x) (covers (record { addr = addr; len = size }) x) (any_block bs x) in'.is (before x begin.0 in'.from)
        | inr out ↦ outside (covers (block_range b) x) (covers (record { addr = addr; len = size }) x) (any_block bs x) out.is
      ]
]
  where
    some_same : (a c : ℕ) → ◌≡◌ {A = Option ℕ} (Some a) (Some c) → a ≡ c
    some_same a c e = cc

    before : (x : ℕ) → end_of b ≤ addr → addr ≤ x → covers (block_range b) x ≡ false
    before x le le' = elim (cover_cases (block_range b) x) [ inl in' ↦ absurd (omega (arith, in'.below, le, le')) | inr out ↦ out.is ]

    apart : (p q r : Bool) → q ≡ true → p ≡ false → (p || cond q false r) ≡ cond q false (p || r)
    apart p true r e f = ap (λ c. c || false) f
    apart p false r e f = absurd (true≢false (sym e))

    outside : (p q r : Bool) → q ≡ false → (p || cond q false r) ≡ cond q false (p || r)
    outside p true r e = absurd (true≢false e)
    outside p false r e = refl

-- the block that begins at an address, with one block more
pub length_with : (bs : List Block) (new : Block) (x : ℕ) → length_at bs new.addr ≡ None → length_at (with_block bs new) x ≡ cond (eqb new.addr x) (Some new.len) (length_at bs x)
length_with [] new x none = refl
length_with (b ∷ bs) new x none =
    let away : (b.addr ≡ new.addr → ⊥) = λ e. some_none b.len (sym (cond-true (eqb b.addr new.addr) (Some b.len) (length_at bs new.addr) (eq-eqb b.addr new.addr e)) ∙ none) in
    let left : length_at bs new.addr ≡ None = sym (cond-false (eqb b.addr new.addr) (Some b.len) (length_at bs new.addr) (ne_eqb b.addr new.addr away)) ∙ none in
    let rest = length_with bs new x left in
    elim (ltb new.addr b.addr) as (λ c. length_at (cond c (new ∷ b ∷ bs) (b ∷ with_block bs new)) x ≡ cond (eqb new.addr x) (Some new.len) (cond (eqb b.addr x) (Some b.len) (length_at bs x))) [
      | true ↦ refl
      | false ↦ ap (cond (eqb b.addr x) (Some b.len)) rest ∙ swap (eqb b.addr x) (eqb new.addr x) (λ p q. away (eqb-true b.addr x p ∙ sym (eqb-true new.addr x q)))
    ]
  where
    some_none : (n : ℕ) → ◌≡◌ {A = Option ℕ} (Some n) None → ⊥
    some_none n e = absurd cc

    swap : (p q : Bool) → (p ≡ true → q ≡ true → ⊥) → cond p (Some b.len) (cond q (Some new.len) (length_at bs x)) ≡ cond q (Some new.len) (cond p (Some b.len) (length_at bs x))
    swap true true both = absurd (both refl refl)
    swap true false both = refl
    swap false q both = refl

-- none begins in a range that meets none
pub none_begins : (from to : ℕ) (bs : List Block) (addr size x : ℕ) → LieBetween from to bs → All (Misses addr size) bs → addr ≤ x → x < addr + size → length_at bs x ≡ None
none_begins from to [] addr size x lie misses le lt = refl
none_begins from to (b ∷ bs) addr size x lie misses le lt =
    let here : Misses addr size b = All-head (Misses addr size) b bs misses in
    cond-false (eqb b.addr x) (Some b.len) (length_at bs x) (ne_eqb b.addr x (λ e. elim here [ inl left ↦ absurd (omega (arith, left, e, lt)) | inr right ↦ absurd (omega (arith, right, e, le, lie.2)) ]))
    ∙ none_begins (end_of b) to bs addr size x lie.3 (All-tail (Misses addr size) b bs misses) le lt

-- the block that begins at an address, with one less
pub length_without : (bs : List Block) (addr x : ℕ) → length_at (without_block bs addr) x ≡ cond (eqb addr x) None (length_at bs x)
length_without [] addr x = elim (eqb addr x) as (λ c. ◌≡◌ {A = Option ℕ} None (cond c None None)) [ true ↦ refl | false ↦ refl ]
length_without (b ∷ bs) addr x = elim (cases_eq b.addr addr) [
  | inl e ↦
      ap (λ c. length_at (cond (not c) (b ∷ without_block bs addr) (without_block bs addr)) x) (eq-eqb b.addr addr e)
      ∙ length_without bs addr x
      ∙ gone (eqb addr x) (eqb b.addr x) (ap (λ a. eqb a x) (sym e))
  | inr ne ↦
      ap (λ c. length_at (cond (not c) (b ∷ without_block bs addr) (without_block bs addr)) x) (ne_eqb b.addr addr ne)
      ∙ ap (cond (eqb b.addr x) (Some b.len)) (length_without bs addr x)
      ∙ kept (eqb b.addr x) (eqb addr x) (λ p q. ne (eqb-true b.addr x p ∙ sym (eqb-true addr x q)))
]
  where
    gone : (p q : Bool) → p ≡ q → cond p None (length_at bs x) ≡ cond p None (cond q (Some b.len) (length_at bs x))
    gone true q e = refl
    gone false q e = ap (λ c. cond c (Some b.len) (length_at bs x)) e

    kept : (p q : Bool) → (p ≡ true → q ≡ true → ⊥) → cond p (Some b.len) (cond q None (length_at bs x)) ≡ cond q None (cond p (Some b.len) (length_at bs x))
    kept true true both = absurd (both refl refl)
    kept true false both = refl
    kept false q both = refl

length_below : (from to : ℕ) (bs : List Block) (x : ℕ) → LieBetween from to bs → x < from → length_at bs x ≡ None
length_below from to [] x lie lt = refl
length_below from to (b ∷ bs) x lie lt =
    cond-false (eqb b.addr x) (Some b.len) (length_at bs x) (ne_eqb b.addr x (λ e. absurd (omega (arith, e, lie.0, lt))))
    ∙ length_below (end_of b) to bs x lie.3 (omega (arith, lie.0, lie.2, lt))

-- no block begins inside another
pub none_inside : (from to : ℕ) (bs : List Block) (addr size x : ℕ) → LieBetween from to bs → length_at bs addr ≡ Some size → addr < x → x < addr + size → length_at bs x ≡ None
none_inside from to [] addr size x lie is lt below = refl
none_inside from to (b ∷ bs) addr size x lie is lt below = elim (cases_eq b.addr addr) [
  | inl e ↦
      let len : b.len ≡ size = some_same b.len size (sym (cond-true (eqb b.addr addr) (Some b.len) (length_at bs addr) (eq-eqb b.addr addr e)) ∙ is) in
      cond-false (eqb b.addr x) (Some b.len) (length_at bs x) (ne_eqb b.addr x (λ z. absurd (omega (arith, z, e, lt))))
      ∙ length_below (end_of b) to bs x lie.3 (omega (arith, e, len, below))
  | inr ne ↦
      let left : length_at bs addr ≡ Some size = sym (cond-false (eqb b.addr addr) (Some b.len) (length_at bs addr) (ne_eqb b.addr addr ne)) ∙ is in
      let begin = begins_from (end_of b) to bs addr size lie.3 left in
      cond-false (eqb b.addr x) (Some b.len) (length_at bs x) (ne_eqb b.addr x (λ z. absurd (omega (arith, z, begin.0, lt, lie.2))))
      ∙ none_inside (end_of b) to bs addr size x lie.3 left lt below
]
  where
    some_same : (a c : ℕ) → ◌≡◌ {A = Option ℕ} (Some a) (Some c) → a ≡ c
    some_same a c e = cc

-- what holds of all blocks, with one more
all_with : (P : Block → Type 0) (bs : List Block) (new : Block) → P new → All P bs → All P (with_block bs new)
all_with P [] new p all = All-cons P new [] p all
all_with P (b ∷ bs) new p all =
    let rest = all_with P bs new p (All-tail P b bs all) in
    elim (ltb new.addr b.addr) as (λ c. All P (cond c (new ∷ b ∷ bs) (b ∷ with_block bs new))) [
      | true ↦ All-cons P new (b ∷ bs) p all
      | false ↦ All-cons P b (with_block bs new) (All-head P b bs all) rest
    ]

all_less : (P : Block → Type 0) (bs : List Block) (new : Block) → All P (with_block bs new) → P new × All P bs
all_less P [] new all = (All-head P new [] all, All-nil P)
all_less P (b ∷ bs) new all =
    let again = all_less P bs new in
    (elim (ltb new.addr b.addr) as (λ c. All P (cond c (new ∷ b ∷ bs) (b ∷ with_block bs new)) → P new × All P (b ∷ bs)) [
      | true ↦ λ h. (All-head P new (b ∷ bs) h, All-tail P new (b ∷ bs) h)
      | false ↦ λ h. (let k = again (All-tail P b (with_block bs new) h) in (k.0, All-cons P b bs (All-head P b (with_block bs new) h) k.1))
    ]) all

pub meets_none : (bs : List Range) (at n : ℕ) → All (Misses at n) (by_address bs) → MeetsNone bs at n
meets_none [] at n all = tt
meets_none (b ∷ bs) at n all =
    let k = all_less (Misses at n) (by_address bs) (block_of b) all in
    ((elim k.0 [ inl left ↦ inr left | inr right ↦ inl right ]), meets_none bs at n k.1)

pub misses_all : (bs : List Range) (at n : ℕ) → MeetsNone bs at n → All (Misses at n) (by_address bs)
misses_all [] at n none = All-nil (Misses at n)
misses_all (b ∷ bs) at n none = all_with (Misses at n) (by_address bs) (block_of b) (elim none.0 [ inl left ↦ inr left | inr right ↦ inl right ]) (misses_all bs at n none.1)

-- a range that meets none has no byte of one
pub none_meets : (bs : List Range) (at n x : ℕ) → MeetsNone bs at n → at ≤ x → x < at + n → any_range bs x ≡ false
none_meets [] at n x none from below = refl
none_meets (b ∷ bs) at n x none from below = elim (cover_cases (block_range (block_of b)) x) [
  | inl in' ↦ absurd (elim none.0 [ inl left ↦ omega (arith, left, in'.below, from) | inr right ↦ omega (arith, right, in'.from, below) ])
  | inr out ↦ ap (λ c. c || any_range bs x) out.is ∙ none_meets bs at n x none.1 from below
]

-- a block has its bytes
pub any_there : (from to : ℕ) (bs : List Block) (addr size x : ℕ) → LieBetween from to bs → length_at bs addr ≡ Some size → covers (record { addr = addr; len = size }) x ≡ true → any_block bs x ≡ true
unfolding any_block
any_there from to [] addr size x lie is c = absurd (none_some size is)
  where
    none_some : (n : ℕ) → ◌≡◌ {A = Option ℕ} None (Some n) → ⊥
    none_some n e = absurd cc
any_there from to (b ∷ bs) addr size x lie is c = elim (cases_eq b.addr addr) [
  | inl e ↦
      let len : b.len ≡ size = some_same b.len size (sym (cond-true (eqb b.addr addr) (Some b.len) (length_at bs addr) (eq-eqb b.addr addr e)) ∙ is) in
      let same : covers (block_range b) x ≡ covers (record { addr = addr; len = size }) x = ap (λ a. covers (record { addr = a; len = b.len }) x) e ∙ ap (λ n. covers (record { addr = addr; len = n }) x) len in
      ap (λ q. q || any_block bs x) (same ∙ c)
  | inr ne ↦
      let rest = any_there (end_of b) to bs addr size x lie.3 (sym (cond-false (eqb b.addr addr) (Some b.len) (length_at bs addr) (ne_eqb b.addr addr ne)) ∙ is) c in
      either (covers (block_range b) x) (any_block bs x) rest
]
  where
    some_same : (a d : ℕ) → ◌≡◌ {A = Option ℕ} (Some a) (Some d) → a ≡ d
    some_same a d e = cc

    either : (p q : Bool) → q ≡ true → (p || q) ≡ true
    either true q e = refl
    either false q e = e
