-- The first dead byte of a range, from the marks of its area.
use Rattle.std.proofs.Common.{◌≡◌, ℕ, take, drop, ◌+◌, ◌-◌, ◌^◌, ◌<◌, ◌≤◌, true, List, length, get_or, Option, Some, None, ap, sym, ◌∙◌, inl, inr, arith}
use Rattle.std.specs.Prelude.{min, max}
use Rattle.std.proofs.lemmas.Bool.{cases_lt, cases_eq, cond-true, cond-false, eq-eqb, eqb-true}
use Rattle.std.proofs.lemmas.List.{length-drop, length-take-le, get_or-take, get_or-drop, get_or_past}
use Rattle.memchr.specs.Find.{IsFirst, Nowhere, NoneBefore, Passes, is_byte}
use Rattle.marks.specs.declared.range.Range.{Range}
use Rattle.marks.specs.Ranges.{NoneIn, IsLeastIn}
use Rattle.space_memory_bytes.specs.Areas.{AreaState, holds, cell}
use Rattle.space_memory_bytes.specs.AreaChanges.{IsDeadIn}
use Rattle.space_memory_bytes.specs.Marks.{cells_in, AreMarks}
use Rattle.space_memory_bytes.proofs.Lookup.{holds_from, holds_parts, misses_after}
use Rattle.space_memory_bytes.proofs.Marks.{get_is, dead_mark, mark_live, some_there}

-- a byte of a list is dead
abbrev pub DiesAt : List (Option ℕ) → ℕ → Type 0
DiesAt cells k = get_or cells k None ≡ None

-- a place has no mark: it has 0, or lies past all
abbrev pub Unmarked : List ℕ → ℕ → Type 0
Unmarked marks k = get_or marks k 0 ≡ 0

-- the first unmarked place of a range is searched among the marks
module _ (marks : List ℕ) (from to start end : ℕ) (le : from ≤ to) (start_is : start ≡ min from (length marks)) (end_is : end ≡ min to (length marks)) where
  abbrev searched : List ℕ
  searched = take (end - start) (drop start marks)

  searched_len : length searched ≡ end - start
  searched_len = length-take-le (end - start) (drop start marks) (omega (arith, length-drop start marks, end_is))

  searched_is : (k : ℕ) → k < end - start → get_or searched k 0 ≡ get_or marks (start + k) 0
  searched_is k lt = get_or-take (end - start) (drop start marks) k 0 lt ∙ get_or-drop start marks k 0

  passes : (k : ℕ) → from ≤ k → k < end → Unmarked marks k → Passes (is_byte 0) searched (k - start)
  passes k low high none =
      let below : start ≤ k = omega (arith, start_is, low) in
      let there : start + (k - start) ≡ k = omega (arith, below) in
      eq-eqb (get_or searched (k - start) 0) 0 (searched_is (k - start) (omega (arith, below, high)) ∙ ap (λ j. get_or marks j 0) there ∙ none)

  nowhere : (j : ℕ) → start + j ≤ end → Nowhere (Passes (is_byte 0) searched) 0 j → Nowhere (Unmarked marks) from (start + j)
  nowhere j few none = λ k low high unmarked. none (k - start) (omega arith) (omega (arith, start_is, low, high)) (passes k low (omega (arith, high, few)) unmarked)

  -- one of them has the mark 0
  pub unmarked_within : (at : ℕ) → NoneBefore (Passes (is_byte 0) searched) 0 (length searched) at × Passes (is_byte 0) searched at → NoneBefore (Unmarked marks) from to (start + at) × Unmarked marks (start + at)
  unmarked_within at found =
      let few : at < end - start = omega (arith, found.0.high, searched_len) in (
        record { low = omega (arith, few, start_is, end_is); high = omega (arith, few, end_is); before = nowhere at (omega (arith, few)) found.0.before },
        sym (searched_is at few) ∙ eqb-true (get_or searched at 0) 0 found.1,
      )

  -- or none
  none_within : Nowhere (Passes (is_byte 0) searched) 0 (length searched) → Nowhere (Unmarked marks) from end
  none_within none = λ k low high unmarked. none (k - start) (omega arith) (omega (arith, searched_len, start_is, low, high)) (passes k low high unmarked)

  -- then it is the first place past the marks
  pub unmarked_past : (past : ℕ) → past ≡ max from end → past < to → Nowhere (Passes (is_byte 0) searched) 0 (length searched) → NoneBefore (Unmarked marks) from to past × Unmarked marks past
  unmarked_past past past_is below none = (
    record { low = omega (arith, past_is); high = below; before = λ k low high. none_within none k low (omega (arith, past_is, low, high)) },
    get_or_past marks past 0 (omega (arith, past_is, end_is, below)),
  )

  pub unmarked_nowhere : (past : ℕ) → past ≡ max from end → to ≤ past → Nowhere (Passes (is_byte 0) searched) 0 (length searched) → Nowhere (Unmarked marks) from to
  unmarked_nowhere past past_is whole none = λ k low high. none_within none k low (omega (arith, past_is, whole, low, high))

module _ (size : ℕ) (marks values : List ℕ) (are : AreMarks size marks values) (now : List (Option ℕ)) (view : cells_in size marks values ≡ now) where
  -- a byte is dead where it has no mark
  unmarked : (k : ℕ) → DiesAt now k → Unmarked marks k
  unmarked k dead = elim (cases_eq (get_or marks k 0) 1) [
    | inl one ↦ absurd (some_there (get_or now k None) (get_or values k 0) (get_is size marks values are now view k ∙ mark_live _ (get_or values k 0) one) dead)
    | inr other ↦ omega (arith, are.bits k, other)
  ]

  dies : (k : ℕ) → Unmarked marks k → DiesAt now k
  dies k none = get_is size marks values are now view k ∙ dead_mark _ (get_or values k 0) (λ one. omega (arith, one, none))

  pub dead_first : (from to : ℕ) (found : Option ℕ) → IsFirst (Unmarked marks) from to found → IsFirst (DiesAt now) from to found
  dead_first from to None none = λ k low high dead. none k low high (unmarked k dead)
  dead_first from to (Some at) (first, is) = (record { low = first.low; high = first.high; before = λ k low high dead. first.before k low high (unmarked k dead) }, dies at is)

module _ (a : AreaState) (range : Range) (held : holds a range.addr ≡ true) (first : ℕ) (first_is : first ≡ range.addr - a.base) where
  -- what lives in a part of the cells lives in the area
  alive : (to y : ℕ) → to ≤ length a.cells → Nowhere (DiesAt a.cells) first to → range.addr ≤ y → y < a.base + to → IsDeadIn a y → ⊥
  alive to y within none from below dead =
      let inside = holds_parts a range.addr held in
      let here : holds a y ≡ true = holds_from a y (omega arith) (omega arith) in
      none (y - a.base) (omega arith) (omega arith) (sym (cond-true (holds a y) (cell a y) None here) ∙ dead)

  -- the first dead cell is the first dead byte
  pub least_dead : (end at : ℕ) → end ≤ length a.cells → end ≤ first + range.len → a.base + length a.cells < 2 ^ 64 → NoneBefore (DiesAt a.cells) first end at × DiesAt a.cells at → IsLeastIn range (IsDeadIn a) (a.base + at)
  least_dead end at within in_range ends found =
      let inside = holds_parts a range.addr held in
      let low = found.0.low in
      let high = found.0.high in
      let place : a.base + at - a.base ≡ at = omega arith in
      let here : holds a (a.base + at) ≡ true = holds_from a (a.base + at) (omega arith) (omega arith) in
      record {
        in_range = (omega arith, omega arith, omega arith);
        holds = cond-true (holds a (a.base + at)) (cell a (a.base + at)) None here ∙ ap (λ k. get_or a.cells k None) place ∙ found.1;
        least = λ y in_range' dead. elim (cases_lt y (a.base + at)) [
          | inl sooner ↦ absurd (alive at y (omega arith) found.0.before in_range'.0 sooner dead)
          | inr later ↦ later
        ];
      }

  -- where there is none, the first byte past the area is
  pub least_past : a.base + length a.cells < 2 ^ 64 → length a.cells < first + range.len → Nowhere (DiesAt a.cells) first (length a.cells) → IsLeastIn range (IsDeadIn a) (a.base + length a.cells)
  least_past ends past none =
      let inside = holds_parts a range.addr held in
      let end = a.base + length a.cells in
      record {
        in_range = (omega arith, omega arith, omega arith);
        holds = cond-false (holds a end) (cell a end) None (misses_after a end (omega arith));
        least = λ y in_range' dead. elim (cases_lt y end) [
          | inl sooner ↦ absurd (alive (length a.cells) y (omega arith) none in_range'.0 sooner dead)
          | inr later ↦ later
        ];
      }

  -- or none
  pub none_dead : (end : ℕ) → end ≤ length a.cells → first + range.len ≤ end → Nowhere (DiesAt a.cells) first end → NoneIn range (IsDeadIn a)
  none_dead end within whole none y in_range dead =
      let inside = holds_parts a range.addr held in
      alive end y within none in_range.0 (omega (arith, in_range.1)) dead
