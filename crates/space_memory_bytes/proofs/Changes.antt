-- What one area says of all: the first dead byte, live bytes and what they are, and changes.
use Rattle.std.proofs.Common.{◌≡◌, ◌↔◌, ℕ, ◌+◌, ◌-◌, ◌^◌, ◌<◌, ◌≤◌, ◌⊎◌, true, false, List, [], length, get_or, set, Option, Some, None, IfNone, All, refl, ap, sym, ◌∙◌, subst, inl, inr, arith, length-set, get_or-set_same}
use Rattle.std.specs.Prelude.{min}
use Rattle.std.proofs.lemmas.Bool.{cases_lt, cases_order, cases_Bool, cond-true, cond-false, both_ways}
use Rattle.std.proofs.lemmas.List.{length-map, get_or-map, get_or_past}
use Rattle.marks.specs.declared.range.Range.{Range}
use Rattle.marks.specs.Ranges.{NoneIn, IsFirstIn, covers}
use Rattle.space_memory_bytes.specs.Areas.{AreaState, holds, cell, byte_at, extent, extents, RiseFrom, LiesIn, IsHolder, IsDead, AllLive}
use Rattle.space_memory_bytes.specs.Numbers.{digit, HasNumber, HasBytes, SameOutside, FillsWith}
use Rattle.space_memory_bytes.specs.AreaChanges.{IsDeadIn, IsLiveRun, IsNumber, SameExtent, ChangesArea, FillsArea, PutsInArea, WritesArea}
use Rattle.space_memory_bytes.proofs.Cells.{cover_cases, digit_past}
use Rattle.space_memory_bytes.proofs.Lookup.{holds_from, holds_parts, misses_after, rise_ends, rise_order, byte_at_absent, byte_at_held, byte_at_end, byte_at_set_other, extents_set}

-- an address in a range is covered, and one out of it isn't
pub covered_by : (r : Range) (x : ℕ) → r.addr ≤ x → x < r.addr + r.len → covers r x ≡ true
covered_by r x from below = elim (cover_cases r x) [ inl in' ↦ in'.is | inr out ↦ absurd (elim out.out [ inl low ↦ omega arith | inr high ↦ omega arith ]) ]

pub missed_by : (r : Range) (x : ℕ) → (x < r.addr) ⊎ (r.addr + r.len ≤ x) → covers r x ≡ false
missed_by r x out = elim (cover_cases r x) [ inl in' ↦ absurd (elim out [ inl low ↦ omega (arith, in'.from) | inr high ↦ omega (arith, in'.below) ]) | inr is ↦ is.is ]

-- a byte with a value lives
pub some_live : (found : Option ℕ) (value : ℕ) → found ≡ Some value → found ≡ None → ⊥
some_live found value is none =
    let wrong : Some value ≡ None = sym is ∙ none in
    absurd (cc)

-- the range that lies in an area is one area's
room_in : (areas : List AreaState) (r : Range) (d : AreaState) → LiesIn r (extents areas) → (k : ℕ) × (k < length areas) × ((get_or areas k d).base ≤ r.addr) × (r.addr + r.len ≤ (get_or areas k d).base + length (get_or areas k d).cells)
room_in areas r d (k, e, lt, is, room) =
    let lt' : k < length areas = omega (arith, length-map areas extent) in
    let same : e ≡ extent (get_or areas k d) = sym is ∙ get_or-map extent areas k d e lt' in
    (k, lt', subst (λ (e : Range). e.addr ≤ r.addr) same room.0, subst (λ (e : Range). r.addr + r.len ≤ e.addr + e.len) same room.1)

-- so an area has its first address, if it has bytes
pub room_held : (areas : List AreaState) (r : Range) → LiesIn r (extents areas) → 0 < r.len → All (λ a. holds a r.addr ≡ false) areas → ⊥
room_held areas r lies some none =
    let d : AreaState = record { base = 0; cells = [] } in
    let found = room_in areas r d lies in
    both_ways (holds (get_or areas found.0 d) r.addr) (none found.0 d found.1) (holds_from (get_or areas found.0 d) r.addr found.2 (omega (arith, found.3)))

-- the area that was found has the address
pub held_by : (areas : List AreaState) (at x : ℕ) (a : AreaState) → a ≡ get_or areas at a → IsHolder areas x at → holds a x ≡ true
held_by areas at x a is found = subst (λ (b : AreaState). holds b x ≡ true) (sym is) (found.1 a)

module _ (areas : List AreaState) (rise : RiseFrom 0 (extents areas)) (at : ℕ) (a : AreaState) (lt : at < length areas) (is : a ≡ get_or areas at a) where
  -- the area's bytes are those of all
  pub held_is : (x : ℕ) → holds a x ≡ true → byte_at areas x ≡ cell a x
  held_is x held = byte_at_held 0 areas x rise at a lt (subst (λ (b : AreaState). holds b x ≡ true) is held) ∙ ap (λ (b : AreaState). cell b x) (sym is)

  -- the byte after it is dead
  pub end_dead : byte_at areas (a.base + length a.cells) ≡ None
  end_dead = subst (λ (b : AreaState). byte_at areas (b.base + length b.cells) ≡ None) (sym is) (byte_at_end 0 areas rise at a lt)

  -- so live bytes from an address of the area on lie in the area
  pub run_in_area : (x n : ℕ) → holds a x ≡ true → AllLive areas x n → x + n ≤ a.base + length a.cells
  run_in_area x n held live =
      let inside = holds_parts a x held in
      elim (cases_lt (a.base + length a.cells) (x + n)) [
        | inl past ↦ absurd (live (a.base + length a.cells - x) (omega arith) (ap (λ y. byte_at areas y) (omega arith) ∙ end_dead))
        | inr within ↦ within
      ]

  -- a range without dead bytes lies in the area that has its first address
  pub live_lies : (range : Range) → holds a range.addr ≡ true → range.addr + range.len < 2 ^ 64 → NoneIn range (IsDead areas) → LiesIn range (extents areas)
  live_lies range held ends none =
      let within = run_in_area range.addr range.len held (λ i few dead. none (range.addr + i) (omega arith, omega arith, omega arith) dead) in
      let there : at < length (extents areas) = omega (arith, length-map areas extent) in
      (at, extent a, there, get_or-map extent areas at a (extent a) lt ∙ ap extent (sym is), ((holds_parts a range.addr held).0, within))

  -- a range that lies in an area, and whose first address this one has, lies in this one
  pub room_here : (r : Range) → LiesIn r (extents areas) → 0 < r.len → holds a r.addr ≡ true → r.addr + r.len ≤ a.base + length a.cells
  room_here r lies some held =
      let inside = holds_parts a r.addr held in
      let found = room_in areas r a lies in
      let k = found.0 in
      let base = ap (λ (b : AreaState). b.base) is in
      let size = ap (λ (b : AreaState). length b.cells) is in
      elim (cases_order k at) [
        | inl same ↦ subst (λ j. r.addr + r.len ≤ (get_or areas j a).base + length (get_or areas j a).cells → r.addr + r.len ≤ a.base + length a.cells) (sym same) (λ within. omega (arith, within)) found.3
        | inr (inl before) ↦ absurd (omega (arith, rise_order 0 areas rise k at a before lt, found.3))
        | inr (inr after) ↦ absurd (omega (arith, rise_order 0 areas rise at k a after found.1, found.2))
      ]

  -- a byte of a range from an address of the area on is dead where it is dead in the area or right after it
  dead_is : (range : Range) (x : ℕ) → holds a range.addr ≡ true → range.addr ≤ x → ((y : ℕ) → range.addr ≤ y → y < x → IsDeadIn a y → ⊥) → IsDeadIn a x → IsDead areas x
  dead_is range x held from before dead =
      let inside = holds_parts a range.addr held in
      elim (cases_Bool (holds a x)) [
        | inl here ↦ held_is x here ∙ sym (cond-true (holds a x) (cell a x) None here) ∙ dead
        | inr out ↦ elim (cases_lt (a.base + length a.cells) x) [
          | inl past ↦ absurd (before (a.base + length a.cells) (omega arith) past (cond-false (holds a (a.base + length a.cells)) (cell a (a.base + length a.cells)) None (misses_after a (a.base + length a.cells) (omega arith))))
          | inr up_to ↦ elim (cases_lt x (a.base + length a.cells)) [
            | inl inner ↦ absurd (both_ways (holds a x) out (holds_from a x (omega arith) inner))
            | inr end ↦ ap (λ y. byte_at areas y) (omega arith) ∙ end_dead
          ]
        ]
      ]

  -- a byte that lives in the area lives
  live_is : (x : ℕ) → (IsDeadIn a x → ⊥) → IsDead areas x → ⊥
  live_is x live dead = elim (cases_Bool (holds a x)) [
    | inl here ↦ live (cond-true (holds a x) (cell a x) None here ∙ sym (held_is x here) ∙ dead)
    | inr out ↦ live (cond-false (holds a x) (cell a x) None out)
  ]

  -- the first byte that is dead in the area is the first dead byte
  pub first_dead_is : (range : Range) → holds a range.addr ≡ true → (first : Option ℕ) → IsFirstIn range (IsDeadIn a) first → IsFirstIn range (IsDead areas) first
  first_dead_is range held None none = λ x in_range dead. live_is x (none x in_range) dead
  first_dead_is range held (Some x) least =
      let before : (y : ℕ) → range.addr ≤ y → y < x → IsDeadIn a y → ⊥ = λ y from lt dead. omega (arith, least.least y (from, omega (arith, least.in_range.1), omega (arith, least.in_range.2)) dead) in
      record {
        in_range = least.in_range;
        holds = dead_is range x held least.in_range.0 before least.holds;
        least = λ y in_range dead. elim (cases_lt y x) [
          | inl sooner ↦ absurd (live_is y (before y in_range.0 sooner) dead)
          | inr later ↦ later
        ];
      }

  module _ (new : AreaState) (extent : SameExtent a new) where
    -- the areas keep their addresses
    pub extents_kept : extents (set areas at new) ≡ extents areas
    extents_kept =
        let base = ap (λ (b : AreaState). b.base) is in
        let size = ap (λ (b : AreaState). length b.cells) is in
        extents_set areas at a new lt (extent.base ∙ base) (extent.size ∙ size)

    -- a byte of the area is the new area's
    pub held_new : (x : ℕ) → holds a x ≡ true → byte_at (set areas at new) x ≡ cell new x
    held_new x held =
        let same = get_or-set_same areas at new a lt in
        let there : at < length (set areas at new) = omega (arith, length-set areas at new) in
        let inside = holds_parts a x held in
        let here : holds new x ≡ true = holds_from new x (omega (arith, extent.base)) (omega (arith, extent.base, extent.size)) in
        byte_at_held 0 (set areas at new) x (subst (λ (es : List Range). RiseFrom 0 es) (sym extents_kept) rise) at a there (subst (λ (b : AreaState). holds b x ≡ true) (sym same) here)
        ∙ ap (λ (b : AreaState). cell b x) same

    -- every other byte is as before
    pub other_new : (x : ℕ) → holds a x ≡ false → byte_at (set areas at new) x ≡ byte_at areas x
    other_new x out =
        let base = ap (λ (b : AreaState). b.base) is in
        let size = ap (λ (b : AreaState). length b.cells) is in
        byte_at_set_other areas at a new x lt (extent.base ∙ base) (extent.size ∙ size) (subst (λ (b : AreaState). holds b x ≡ false) is out)

  -- a byte that the area has at an address of its own is there
  pub cell_held : (x : ℕ) → a.base ≤ x → (cell a x ≡ None → ⊥) → holds a x ≡ true
  cell_held x from live = elim (cases_lt x (a.base + length a.cells)) [
    | inl inner ↦ holds_from a x from inner
    | inr past ↦ absurd (live (get_or_past a.cells (x - a.base) None (omega arith)))
  ]

  -- and is that of all
  pub cell_is : (x : ℕ) → a.base ≤ x → (cell a x ≡ None → ⊥) → byte_at areas x ≡ cell a x
  cell_is x from live = held_is x (cell_held x from live)

  -- bytes from an address of the area on live where they live in the area
  pub live_run : (addr n : ℕ) → holds a addr ≡ true → AllLive areas addr n ↔ IsLiveRun a addr n
  live_run addr n held =
      let inside = holds_parts a addr held in (
        λ live i lt none.
            let room = run_in_area addr n held live in
            live i lt (held_is (addr + i) (holds_from a (addr + i) (omega arith) (omega arith)) ∙ none),
        λ live i lt dead. live i lt (sym (cell_is (addr + i) (omega arith) (live i lt)) ∙ dead),
      )

  -- and so does a number, and a list of bytes
  pub number_run : (addr n value : ℕ) → holds a addr ≡ true → IsNumber a addr n value → HasNumber areas addr n value
  number_run addr n value held number i lt =
      let inside = holds_parts a addr held in
      cell_is (addr + i) (omega arith) (some_live (cell a (addr + i)) (digit value i) (number i lt)) ∙ number i lt

  pub bytes_run : (addr : ℕ) (bytes : List ℕ) → holds a addr ≡ true → HasBytes areas addr bytes ↔ ((i : ℕ) → i < length bytes → cell a (addr + i) ≡ Some (get_or bytes i 0))
  bytes_run addr bytes held =
      let inside = holds_parts a addr held in (
        λ has i lt.
            let live : AllLive areas addr (length bytes) = λ j few. some_live (byte_at areas (addr + j)) (get_or bytes j 0) (has j few) in
            let room = run_in_area addr (length bytes) held live in
            sym (held_is (addr + i) (holds_from a (addr + i) (omega arith) (omega arith))) ∙ has i lt,
        λ has i lt. cell_is (addr + i) (omega arith) (some_live (cell a (addr + i)) (get_or bytes i 0) (has i lt)) ∙ has i lt,
      )

  module _ (addr n : ℕ) (bytes : ℕ → Option ℕ) (new : AreaState) (changes : ChangesArea addr n bytes a new) where
    -- the area that is changed changes all there
    pub changed_there : (x : ℕ) → a.base ≤ addr → addr + n ≤ a.base + length a.cells → addr ≤ x → x < addr + n → byte_at (set areas at new) x ≡ bytes (x - addr)
    changed_there x from within low high =
        let r : Range = record { addr = addr; len = n } in
        held_new new changes.extent x (holds_from a x (omega arith) (omega arith)) ∙ changes.bytes_are x (omega arith) ∙ cond-true (covers r x) (bytes (x - addr)) (cell a x) (covered_by r x low high)

    -- and nothing else
    pub changed_others : SameOutside (record { addr = addr; len = n }) areas (set areas at new)
    changed_others = record {
      areas = extents_kept new changes.extent;
      bytes = λ x missed. elim (cases_Bool (holds a x)) [
        | inl here ↦ held_new new changes.extent x here ∙ changes.bytes_are x (holds_parts a x here).0 ∙ cond-false (covers (record { addr = addr; len = n }) x) (bytes (x - addr)) (cell a x) missed ∙ sym (held_is x here)
        | inr out ↦ other_new new changes.extent x out
      ];
    }

  -- the area that is filled fills all
  pub fills_with : (r : Range) (byte : Option ℕ) (new : AreaState) → a.base ≤ r.addr → r.addr + r.len ≤ a.base + length a.cells → FillsArea r byte a new → FillsWith r byte areas (set areas at new)
  fills_with r byte new from within fills = record {
    filled = λ x covered. elim (cover_cases r x) [
      | inl in' ↦ changed_there r.addr r.len (λ i. byte) new fills x from within in'.from in'.below
      | inr out ↦ absurd (both_ways (covers r x) out.is covered)
    ];
    others = changed_others r.addr r.len (λ i. byte) new fills;
  }

  -- so do bytes that are put, and a number that is written
  pub put_bytes : (addr : ℕ) (bytes : List ℕ) (new : AreaState) → a.base ≤ addr → addr + length bytes ≤ a.base + length a.cells → PutsInArea addr bytes a new → HasBytes (set areas at new) addr bytes
  put_bytes addr bytes new from within puts i lt =
      changed_there addr (length bytes) (λ j. Some (get_or bytes j 0)) new puts (addr + i) from within (omega arith) (omega arith) ∙ ap (λ j. Some (get_or bytes j 0)) (omega arith)

  pub written_number : (addr n value : ℕ) (new : AreaState) → a.base ≤ addr → addr + n ≤ a.base + length a.cells → WritesArea addr n value a new → HasNumber (set areas at new) addr n value
  written_number addr n value new from within writes i lt =
      changed_there addr n (λ j. Some (digit value j)) new writes (addr + i) from within (omega arith) (omega arith) ∙ ap (λ j. Some (digit value j)) (omega arith)

-- the area that was found for a range that lies in one: it has the whole range
pub record HasWhole (items : List AreaState) (at : ℕ) (a : AreaState) (r : Range) : Type 0 where
  pub lt : at < length items
  pub from : a.base ≤ r.addr
  pub within : r.addr + r.len ≤ a.base + length a.cells
  pub ends : r.addr + r.len < 2 ^ 64

pub whole_found : (items now : List AreaState) → items ≡ now → RiseFrom 0 (extents items) → (at : ℕ) (a : AreaState) → a ≡ get_or items at a → (r : Range) → IsHolder now r.addr at → LiesIn r (extents now) → 0 < r.len → HasWhole items at a r
whole_found items now view rise at a is r found lies some =
    let found' = subst (λ (areas : List AreaState). IsHolder areas r.addr at) (sym view) found in
    let lies' = subst (λ (areas : List AreaState). LiesIn r (extents areas)) (sym view) lies in
    let held = held_by items at r.addr a is found' in
    let within = room_here items rise at a found'.0 is r lies' some held in
    let below : a.base + length a.cells < 2 ^ 64 = subst (λ (b : AreaState). b.base + length b.cells < 2 ^ 64) (sym is) (rise_ends 0 items rise at a found'.0) in
    record {
      lt = found'.0;
      from = (holds_parts a r.addr held).0;
      within = within;
      ends = omega arith;
    }

-- live bytes lie before the last address
pub live_ends : (areas : List AreaState) → RiseFrom 0 (extents areas) → (x : ℕ) → (IsDead areas x → ⊥) → x + 1 < 2 ^ 64
live_ends areas rise x live = elim (cases_lt (x + 1) (2 ^ 64)) [
  | inl low ↦ low
  | inr high ↦ absurd (live (byte_at_absent areas x (λ at d lt. misses_after (get_or areas at d) x (omega (arith, rise_ends 0 areas rise at d lt)))))
]

-- a range without dead bytes, and with some byte, ends there too
pub range_live_ends : (areas : List AreaState) → RiseFrom 0 (extents areas) → (range : Range) → range.addr < 2 ^ 64 → 0 < range.len → NoneIn range (IsDead areas) → range.addr + range.len < 2 ^ 64
range_live_ends areas rise range addr some none = elim (cases_lt (range.addr + range.len) (2 ^ 64)) [
  | inl low ↦ low
  | inr high ↦ absurd (omega (arith, live_ends areas rise (2 ^ 64 - 1) (none (2 ^ 64 - 1) (omega arith, omega arith, omega arith))))
]

-- what holds of a range with no such byte holds where none is found
pub ends_where_none : (range : Range) (P : ℕ → Type 0) (Q : Type 0) (first : Option ℕ) → IsFirstIn range P first → (NoneIn range P → Q) → IfNone first Q
ends_where_none range P Q None none then = then none
ends_where_none range P Q (Some x) least then = tt

-- a part of a range lies where the range lies
pub part_lies : (r part : Range) (ranges : List Range) → r.addr ≤ part.addr → part.addr + part.len ≤ r.addr + r.len → LiesIn r ranges → LiesIn part ranges
part_lies r part ranges from to (k, e, lt, is, room) = (k, e, lt, is, (omega (arith, room.0), omega (arith, room.1)))

-- a number is written by its eight low bytes, and zeros above them
pub number_put : (old mid new : List AreaState) (addr width low value : ℕ) (bytes : List ℕ) → low ≡ min width 8 → length bytes ≡ low → value < 2 ^ 64 → ((i : ℕ) → i < low → get_or bytes i 0 ≡ digit value i) → HasBytes mid addr bytes → FillsWith (record { addr = addr + low; len = width - low }) (Some 0) mid new → HasNumber new addr width value
number_put old mid new addr width low value bytes low_is len fits digits put fills i lt = elim (cases_lt i low) [
  | inl few ↦
      fills.others.bytes (addr + i) (missed_by (record { addr = addr + low; len = width - low }) (addr + i) (inl (omega arith)))
      ∙ put i (omega arith) ∙ ap (λ v. Some v) (digits i few)
  | inr more ↦
      fills.filled (addr + i) (covered_by (record { addr = addr + low; len = width - low }) (addr + i) (omega arith) (omega arith))
      ∙ ap (λ v. Some v) (sym (digit_past value i fits (omega arith)))
]

pub number_put_others : (old mid new : List AreaState) (addr width low len : ℕ) → low ≤ width → len ≡ low → SameOutside (record { addr = addr; len = len }) old mid → FillsWith (record { addr = addr + low; len = width - low }) (Some 0) mid new → SameOutside (record { addr = addr; len = width }) old new
number_put_others old mid new addr width low len le is put fills = record {
  areas = fills.others.areas ∙ put.areas;
  bytes = λ x missed.
      let all : Range = record { addr = addr; len = width } in
      elim (cover_cases all x) [
        | inl in' ↦ absurd (both_ways (covers all x) missed in'.is)
        | inr out ↦ fills.others.bytes x (missed_by (record { addr = addr + low; len = width - low }) x (elim out.out [ inl before ↦ inl (omega arith) | inr after ↦ inr (omega arith) ]))
            ∙ put.bytes x (missed_by (record { addr = addr; len = len }) x (elim out.out [ inl before ↦ inl before | inr after ↦ inr (omega arith) ]))
      ];
}
