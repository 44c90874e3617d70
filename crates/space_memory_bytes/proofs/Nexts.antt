-- The next live byte: among marks, in an area, and in all.
use Rattle.std.proofs.Common.{◌≡◌, ◌≢◌, ℕ, ◌+◌, ◌-◌, ◌<◌, ◌≤◌, List, [], length, drop, get_or, Option, None, ap, sym, ◌∙◌, subst, inl, inr, arith}
use Rattle.std.specs.Prelude.{min}
use Rattle.std.proofs.lemmas.Bool.{cases_lt, cases_order, eq-eqb, eqb-true}
use Rattle.std.proofs.lemmas.List.{length-drop, get_or-drop}
use Rattle.memchr.specs.Find.{Nowhere, NoneBefore, Passes, is_byte}
use Rattle.space_memory_bytes.specs.Areas.{AreaState, extents, RiseFrom, IsDead}
use Rattle.space_memory_bytes.specs.AreaChanges.{IsLiveIn}
use Rattle.space_memory_bytes.specs.Marks.{cells_in, AreMarks}
use Rattle.space_memory_bytes.specs.Nexts.{IsNext}
use Rattle.space_memory_bytes.proofs.Lookup.{holds_from, holds_parts, rise_order, byte_at_held, live_held}
use Rattle.space_memory_bytes.proofs.Marks.{length_is, get_is, mark_is, mark_within, mark_live, some_there}

-- a byte of a list lives
abbrev pub LivesAt : List (Option ℕ) → ℕ → Type 0
LivesAt cells k = get_or cells k None ≢ None

module _ (size : ℕ) (marks values : List ℕ) (are : AreMarks size marks values) (now : List (Option ℕ)) (view : cells_in size marks values ≡ now) (from start : ℕ) (start_is : start ≡ min from (length marks)) where
  left : length (drop start marks) ≡ length marks - start
  left = length-drop start marks

  -- a byte that lives has the mark 1
  marked_one : (k : ℕ) → LivesAt now k → get_or marks k 0 ≡ 1
  marked_one k live = mark_is size marks values are now view k live

  passes : (k : ℕ) → from ≤ k → LivesAt now k → Passes (is_byte 1) (drop start marks) (k - start)
  passes k low live =
      let there : start + (k - start) ≡ k = omega (arith, start_is, low) in
      eq-eqb (get_or (drop start marks) (k - start) 0) 1 (get_or-drop start marks (k - start) 0 ∙ ap (λ j. get_or marks j 0) there ∙ marked_one k live)

  nowhere : (j : ℕ) → Nowhere (Passes (is_byte 1) (drop start marks)) 0 j → Nowhere (LivesAt now) from (start + j)
  nowhere j none = λ k low high live. none (k - start) (omega arith) (omega (arith, start_is, low, high)) (passes k low live)

  pub live_nowhere : Nowhere (Passes (is_byte 1) (drop start marks)) 0 (length (drop start marks)) → Nowhere (LivesAt now) from (length now)
  live_nowhere none = λ k low high live. none (k - start) (omega arith) (omega (arith, left, start_is, low, mark_within size marks values are now view k (marked_one k live))) (passes k low live)

  pub live_first : (at : ℕ) → NoneBefore (Passes (is_byte 1) (drop start marks)) 0 (length (drop start marks)) at × Passes (is_byte 1) (drop start marks) at → NoneBefore (LivesAt now) from (length now) (start + at) × LivesAt now (start + at)
  live_first at found =
      let high = found.0.high in
      let one : get_or marks (start + at) 0 ≡ 1 = sym (get_or-drop start marks at 0) ∙ eqb-true (get_or (drop start marks) at 0) 1 found.1 in (
        record { low = omega (arith, high, left, start_is); high = omega (arith, high, left, are.within, length_is size marks values are now view); before = nowhere at found.0.before },
        some_there (get_or now (start + at) None) (get_or values (start + at) 0) (get_is size marks values are now view (start + at) ∙ mark_live (get_or marks (start + at) 0) (get_or values (start + at) 0) one),
      )

module _ (a : AreaState) (from first : ℕ) (first_is : first ≡ from - a.base) where
  -- the area has none from the address on
  pub none_past : length a.cells < first → (y : ℕ) → from ≤ y → ¬ IsLiveIn a y
  none_past past y le live = let inside = holds_parts a y live.0 in absurd (omega (arith, past, first_is, inside.0, inside.1, le))

  pub none_in : Nowhere (LivesAt a.cells) first (length a.cells) → (y : ℕ) → from ≤ y → ¬ IsLiveIn a y
  none_in none y le live =
      let inside = holds_parts a y live.0 in
      none (y - a.base) (omega (arith, first_is, le)) (omega (arith, inside.0, inside.1)) live.1

  -- or has the next one
  pub next_in : (at : ℕ) → NoneBefore (LivesAt a.cells) first (length a.cells) at × LivesAt a.cells at → IsNext (IsLiveIn a) from (a.base + at)
  next_in at found =
      let low = found.0.low in
      let high = found.0.high in
      let place : at ≡ a.base + at - a.base = omega arith in
      record {
        reached = omega (arith, low, first_is);
        holds = (holds_from a (a.base + at) (omega arith) (omega (arith, high)), λ none. found.1 (ap (λ k. get_or a.cells k None) place ∙ none));
        least = λ y le live.
            let inside = holds_parts a y live.0 in
            elim (cases_lt (y - a.base) at) [
              | inl before ↦ absurd (found.0.before (y - a.base) (omega (arith, first_is, le)) before live.1)
              | inr after ↦ omega (arith, after, inside.0)
            ];
      }

module _ (areas : List AreaState) (from : ℕ) where
  -- what no area has, nothing has
  pub none_of_all : ((i : ℕ) (d : AreaState) → i < length areas → (x : ℕ) → from ≤ x → ¬ IsLiveIn (get_or areas i d) x) → (y : ℕ) → from ≤ y → (IsDead areas y → ⊥) → ⊥
  none_of_all none y le live =
      let d : AreaState = record { base = 0; cells = [] } in
      let found = live_held areas y d live in
      none found.0 d found.1 y le (found.2, λ dead. live (found.3 ∙ dead))

  -- what the first area with one has next is the next of all
  pub next_of_all : RiseFrom 0 (extents areas) → (at addr : ℕ) (d : AreaState) → at < length areas → ((i : ℕ) (d : AreaState) → i < at → (x : ℕ) → from ≤ x → ¬ IsLiveIn (get_or areas i d) x) → IsNext (IsLiveIn (get_or areas at d)) from addr → IsNext (λ x. ¬ IsDead areas x) from addr
  next_of_all rise at addr d lt none next = record {
    reached = next.reached;
    holds = λ dead. next.holds.1 (sym (byte_at_held 0 areas addr rise at d lt next.holds.0) ∙ dead);
    least = λ y le live.
        let found = live_held areas y d live in
        elim (cases_order found.0 at) [
          | inl same ↦ next.least y le (subst (λ k. IsLiveIn (get_or areas k d) y) same (found.2, λ dead. live (found.3 ∙ dead)))
          | inr (inl before) ↦ absurd (none found.0 d before y le (found.2, λ dead. live (found.3 ∙ dead)))
          | inr (inr after) ↦
              let order = rise_order 0 areas rise at found.0 d after found.1 in
              let here = holds_parts (get_or areas at d) addr next.holds.0 in
              let there = holds_parts (get_or areas found.0 d) y found.2 in
              omega (arith, order, here.1, there.0)
        ];
  }
