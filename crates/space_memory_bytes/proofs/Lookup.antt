-- Which area has an address, and what a change of one area changes.
use Rattle.std.proofs.Common.{◌≡◌, ℕ, zero, suc, ◌+◌, ◌-◌, ◌^◌, ◌<◌, ◌≤◌, true, false, cond, ltb, leb, List, [], ◌∷◌, ◌++◌, length, take, replicate, get_or, set, Option, None, refl, ap, sym, ◌∙◌, inl, inr, arith}
use Rattle.std.proofs.lemmas.Bool.{cases_lt, lt-ltb, le-ltb, le-leb, lt-leb, leb-true, ltb-true, cond-true, cond-false, cond_both, cases_Bool, and_from, and_left, and_right, and_parts}
use Rattle.std.proofs.lemmas.List.{get_or-replicate, get_or_past, length-replicate, map-append, take_more}
use Rattle.marks.specs.declared.range.Range.{Range}
use Rattle.space_memory_bytes.specs.Areas.{AreaState, holds, cell, byte_at, extent, extents, RiseFrom}

-- an area holds an address exactly where it lies in it
pub holds_from : (a : AreaState) (x : ℕ) → a.base ≤ x → x < a.base + length a.cells → holds a x ≡ true
holds_from a x from below = and_from (leb a.base x) (ltb (x - a.base) (length a.cells)) (le-leb a.base x from) (lt-ltb (x - a.base) (length a.cells) (omega arith))

pub holds_parts : (a : AreaState) (x : ℕ) → holds a x ≡ true → (a.base ≤ x) × (x < a.base + length a.cells)
holds_parts a x h =
    let parts = and_parts (leb a.base x) (ltb (x - a.base) (length a.cells)) h in
    let from : a.base ≤ x = leb-true a.base x parts.0 in
    let below : x - a.base < length a.cells = ltb-true (x - a.base) (length a.cells) parts.1 in
    (from, omega arith)

pub misses_before : (a : AreaState) (x : ℕ) → x < a.base → holds a x ≡ false
misses_before a x before = and_left (leb a.base x) (ltb (x - a.base) (length a.cells)) (lt-leb a.base x before)

pub misses_after : (a : AreaState) (x : ℕ) → a.base + length a.cells ≤ x → holds a x ≡ false
misses_after a x after = and_right (leb a.base x) (ltb (x - a.base) (length a.cells)) (le-ltb (x - a.base) (length a.cells) (omega arith))

-- every area begins at the bound or after it
pub rise_from : (from : ℕ) (areas : List AreaState) → RiseFrom from (extents areas) → (at : ℕ) (d : AreaState) → at < length areas → from ≤ (get_or areas at d).base
rise_from from [] rise at d lt = absurd (omega arith)
rise_from from (a ∷ rest) rise zero d lt = rise.0
rise_from from (a ∷ rest) rise (suc at) d lt = omega (arith, rise.0, rise_from (a.base + length a.cells + 1) rest rise.1 at d (omega arith))

-- and ends before the last address
pub rise_ends : (from : ℕ) (areas : List AreaState) → RiseFrom from (extents areas) → (at : ℕ) (d : AreaState) → at < length areas → (get_or areas at d).base + length (get_or areas at d).cells < 2 ^ 64
rise_ends from [] rise at d lt = absurd (omega arith)
rise_ends from (a ∷ []) rise zero d lt = omega (arith, rise.1)
rise_ends from (a ∷ b ∷ rest) rise zero d lt = omega (arith, rise.1.0, rise_ends (a.base + length a.cells + 1) (b ∷ rest) rise.1 0 d (omega arith))
rise_ends from (a ∷ rest) rise (suc at) d lt = rise_ends (a.base + length a.cells + 1) rest rise.1 at d (omega arith)

-- a later area begins after an earlier one
pub rise_order : (from : ℕ) (areas : List AreaState) → RiseFrom from (extents areas) → (i j : ℕ) (d : AreaState) → i < j → j < length areas → (get_or areas i d).base + length (get_or areas i d).cells < (get_or areas j d).base
rise_order from [] rise i j d lt in_list = absurd (omega arith)
rise_order from (a ∷ rest) rise i zero d lt in_list = absurd (omega arith)
rise_order from (a ∷ rest) rise zero (suc j) d lt in_list = omega (arith, rise_from (a.base + length a.cells + 1) rest rise.1 j d (omega arith))
rise_order from (a ∷ rest) rise (suc i) (suc j) d lt in_list = rise_order (a.base + length a.cells + 1) rest rise.1 i j d (omega arith) (omega arith)

-- an address that no area holds is dead
pub byte_at_absent : (areas : List AreaState) (x : ℕ) → ((at : ℕ) (d : AreaState) → at < length areas → holds (get_or areas at d) x ≡ false) → byte_at areas x ≡ None
unfolding byte_at
byte_at_absent [] x none = refl
byte_at_absent (a ∷ rest) x none =
    cond-false (holds a x) (cell a x) (byte_at rest x) (none 0 a (omega arith)) ∙ byte_at_absent rest x (λ at d lt. none (suc at) d (omega arith))

-- so is one below all areas
byte_at_below : (from : ℕ) (areas : List AreaState) (x : ℕ) → RiseFrom from (extents areas) → x < from → byte_at areas x ≡ None
byte_at_below from areas x rise below =
    byte_at_absent areas x (λ at d lt. misses_before (get_or areas at d) x (omega (arith, rise_from from areas rise at d lt)))

-- an address that an area holds is that area's
pub byte_at_held : (from : ℕ) (areas : List AreaState) (x : ℕ) → RiseFrom from (extents areas) → (at : ℕ) (d : AreaState) → at < length areas → holds (get_or areas at d) x ≡ true → byte_at areas x ≡ cell (get_or areas at d) x
unfolding byte_at
byte_at_held from [] x rise at d lt held = absurd (omega arith)
byte_at_held from (a ∷ rest) x rise zero d lt held = cond-true (holds a x) (cell a x) (byte_at rest x) held
byte_at_held from (a ∷ rest) x rise (suc at) d lt held =
    let later = rise_from (a.base + length a.cells + 1) rest rise.1 at d (omega arith) in
    let inside = holds_parts (get_or rest at d) x held in
    cond-false (holds a x) (cell a x) (byte_at rest x) (misses_after a x (omega arith)) ∙ byte_at_held (a.base + length a.cells + 1) rest x rise.1 at d (omega arith) held

-- the byte right after an area is dead
pub byte_at_end : (from : ℕ) (areas : List AreaState) → RiseFrom from (extents areas) → (at : ℕ) (d : AreaState) → at < length areas → byte_at areas ((get_or areas at d).base + length (get_or areas at d).cells) ≡ None
unfolding byte_at
byte_at_end from [] rise at d lt = absurd (omega arith)
byte_at_end from (a ∷ rest) rise zero d lt =
    cond-false (holds a (a.base + length a.cells)) (cell a (a.base + length a.cells)) (byte_at rest (a.base + length a.cells)) (misses_after a (a.base + length a.cells) (omega arith))
    ∙ byte_at_below (a.base + length a.cells + 1) rest (a.base + length a.cells) rise.1 (omega arith)
byte_at_end from (a ∷ rest) rise (suc at) d lt =
    let later = rise_from (a.base + length a.cells + 1) rest rise.1 at d (omega arith) in
    let x = (get_or rest at d).base + length (get_or rest at d).cells in
    cond-false (holds a x) (cell a x) (byte_at rest x) (misses_after a x (omega arith)) ∙ byte_at_end (a.base + length a.cells + 1) rest rise.1 at d (omega arith)

-- a change of one area that leaves its addresses changes no other byte
pub byte_at_set_other : (areas : List AreaState) (at : ℕ) (d new : AreaState) (x : ℕ) → at < length areas → new.base ≡ (get_or areas at d).base → length new.cells ≡ length (get_or areas at d).cells → holds (get_or areas at d) x ≡ false → byte_at (set areas at new) x ≡ byte_at areas x
unfolding byte_at
byte_at_set_other [] at d new x lt base size held = refl
byte_at_set_other (a ∷ rest) zero d new x lt base size held =
    let gone : holds new x ≡ false = rw (base, size) held in
    cond-false (holds new x) (cell new x) (byte_at rest x) gone ∙ sym (cond-false (holds a x) (cell a x) (byte_at rest x) held)
byte_at_set_other (a ∷ rest) (suc at) d new x lt base size held =
    ap (λ other. cond (holds a x) (cell a x) other) (byte_at_set_other rest at d new x (omega arith) base size held)

-- nor the addresses
pub extents_set : (areas : List AreaState) (at : ℕ) (d new : AreaState) → at < length areas → new.base ≡ (get_or areas at d).base → length new.cells ≡ length (get_or areas at d).cells → extents (set areas at new) ≡ extents areas
extents_set [] at d new lt base size = refl
extents_set (a ∷ rest) zero d new lt base size = rw (base, size) refl
extents_set (a ∷ rest) (suc at) d new lt base size = ap (λ (es : List Range). record { addr = a.base; len = length a.cells } ∷ es) (extents_set rest at d new (omega arith) base size)

-- a range ends before the last address
pub range_ends : (from : ℕ) (ranges : List Range) → RiseFrom from ranges → (at : ℕ) (d : Range) → at < length ranges → (get_or ranges at d).addr + (get_or ranges at d).len < 2 ^ 64
range_ends from [] rise at d lt = absurd (omega arith)
range_ends from (r ∷ []) rise zero d lt = omega (arith, rise.1)
range_ends from (r ∷ q ∷ rest) rise zero d lt = omega (arith, rise.1.0, range_ends (r.addr + r.len + 1) (q ∷ rest) rise.1 0 d (omega arith))
range_ends from (r ∷ rest) rise (suc at) d lt = range_ends (r.addr + r.len + 1) rest rise.1 at d (omega arith)

-- an area of dead bytes
pub dead_cell : (base n x : ℕ) → cell (record { base = base; cells = replicate n None }) x ≡ None
dead_cell base n x = elim (cases_lt (x - base) n) [
  | inl within ↦ get_or-replicate n (x - base) None None within
  | inr past ↦ get_or_past (replicate n None) (x - base) None (omega (arith, length-replicate {A = Option ℕ} n None))
]

-- makes no byte live
pub byte_at_push : (areas : List AreaState) (a : AreaState) (x : ℕ) → byte_at areas x ≡ None → cell a x ≡ None → byte_at (areas ++ a ∷ []) x ≡ None
unfolding byte_at
byte_at_push [] a x none dead = cond_both (holds a x) (cell a x) None (λ o. o ≡ None) (λ _. dead) (λ _. refl)
byte_at_push (b ∷ rest) a x none dead = elim (cases_Bool (holds b x)) [
  | inl here ↦ cond-true (holds b x) (cell b x) (byte_at (rest ++ a ∷ []) x) here ∙ sym (cond-true (holds b x) (cell b x) (byte_at rest x) here) ∙ none
  | inr out ↦ cond-false (holds b x) (cell b x) (byte_at (rest ++ a ∷ []) x) out ∙ byte_at_push rest a x (sym (cond-false (holds b x) (cell b x) (byte_at rest x) out) ∙ none) dead
]

-- and adds its addresses
pub extents_push : (ranges : List Range) (areas : List AreaState) (a : AreaState) (at : ℕ) (d : Range) → at < length ranges → extents areas ≡ take at ranges → extent a ≡ get_or ranges at d → extents (areas ++ a ∷ []) ≡ take (at + 1) ranges
extents_push ranges areas a at d lt so_far same =
    map-append extent areas (a ∷ []) ∙ ap (λ (rs : List Range). rs ++ extent a ∷ []) so_far ∙ ap (λ (r : Range). take at ranges ++ r ∷ []) same ∙ sym (take_more ranges at d lt)

-- a range's area of dead bytes has the range's addresses
pub extent_dead : (r : Range) → extent (record { base = r.addr; cells = replicate r.len None }) ≡ r
extent_dead r = ap (λ n. let q : Range = record { addr = r.addr; len = n } in q) (length-replicate {A = Option ℕ} r.len None)

-- a live byte is some area's
pub live_held : (areas : List AreaState) (x : ℕ) (d : AreaState) → (byte_at areas x ≡ None → ⊥) → (at : ℕ) × (at < length areas) × (holds (get_or areas at d) x ≡ true) × (byte_at areas x ≡ cell (get_or areas at d) x)
unfolding byte_at
live_held [] x d live = absurd (live refl)
live_held (a ∷ rest) x d live = elim (cases_Bool (holds a x)) [
  | inl here ↦ (0, omega arith, here, cond-true (holds a x) (cell a x) (byte_at rest x) here)
  | inr out ↦
      let skip : byte_at (a ∷ rest) x ≡ byte_at rest x = cond-false (holds a x) (cell a x) (byte_at rest x) out in
      let found = live_held rest x d (λ none. live (skip ∙ none)) in
      (suc found.0, omega (arith, found.1), found.2, skip ∙ found.3)
]
