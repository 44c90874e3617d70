-- A row that has a live byte, as memory tells of it and as a report shows it.
use Rattle.std.proofs.Common.{◌≡◌, ◌≤◌, ◌<◌, ◌+◌, ◌%◌, ℕ, zero, suc, Bool, true, false, ◌||◌, map, refl, sym, ap, ◌∙◌, arith, inl, inr}
use Rattle.std.proofs.lemmas.Bool.{cases_lt}
use Rattle.std.specs.List.{list_any, range_with_len}
use Rattle.space_memory_bytes.specs.Nexts.{IsNext}
use Rattle.space_memory.specs.declared.cell.Cell.{Cell}
use Rattle.space_memory.specs.declared.cell.Cell.TheVariants.{Dead, Pending, Byte}
use Rattle.space_memory.specs.Spaces.{SpaceState}
use Rattle.space_memory.specs.Cells.{cell_at, IsLiveRow}
use Rattle.call_inspector.specs.MemoryText.{is_live, is_live_row, rows_end}
use Rattle.call_inspector.specs.Rows.{NoneLive, IsRow}

not_dead : (c : Cell) → is_live c ≡ true → c ≡ Dead → ⊥
not_dead Dead live dead = let no : false ≡ true = live in cc
not_dead Pending live dead = cc
not_dead (Byte b) live dead = cc

lives : (c : Cell) → (c ≡ Dead → ⊥) → is_live c ≡ true
lives Dead alive = absurd (alive refl)
lives Pending alive = refl
lives (Byte b) alive = refl

module _ (g : ℕ → Cell) where
  any_from : (a n : ℕ) → list_any is_live (map g (range_with_len a n)) ≡ true → (i : ℕ) × (a ≤ i) × (i < a + n) × (is_live (g i) ≡ true)
  any_from a zero e = let no : false ≡ true = e in absurd cc
  any_from a (suc n) e = by (λ f. any_from (a + 1) n f) (is_live (g a)) refl e
    where
      by : (list_any is_live (map g (range_with_len (a + 1) n)) ≡ true → (i : ℕ) × (a + 1 ≤ i) × (i < a + 1 + n) × (is_live (g i) ≡ true)) → (t : Bool) → is_live (g a) ≡ t → (t || list_any is_live (map g (range_with_len (a + 1) n))) ≡ true → (i : ℕ) × (a ≤ i) × (i < a + suc n) × (is_live (g i) ≡ true)
      by later true here e = (a, omega arith, omega arith, here)
      by later false here e = let more = later e in (more.0, (let h = more.1 in omega arith), (let h = more.2 in omega arith), more.3)

  any_to : (a n i : ℕ) → a ≤ i → i < a + n → is_live (g i) ≡ true → list_any is_live (map g (range_with_len a n)) ≡ true
  any_to a zero i lo hi live = absurd (omega arith)
  any_to a (suc n) i lo hi live = by (λ low high. any_to (a + 1) n i low high live) (is_live (g a)) refl
    where
      by : (a + 1 ≤ i → i < a + 1 + n → list_any is_live (map g (range_with_len (a + 1) n)) ≡ true) → (t : Bool) → is_live (g a) ≡ t → (t || list_any is_live (map g (range_with_len (a + 1) n))) ≡ true
      by later true here = refl
      by later false here = elim (cases_lt a i) [
        | inl more ↦ later (omega arith) (omega arith)
        | inr le ↦ let same : i ≡ a = omega arith in let no : true ≡ false = sym live ∙ ap (λ k. is_live (g k)) same ∙ here in absurd cc
      ]

module _ (memory : SpaceState) where
  row_lives : (x : ℕ) → IsLiveRow memory x → is_live_row memory x ≡ true
  row_lives x live = any_to (λ i. cell_at memory (x + i)) 0 16 live.1.0 (omega arith) (let few = live.1.1 in omega arith) (lives (cell_at memory (x + live.1.0)) live.1.2)

  row_dead : (x : ℕ) → x % 16 ≡ 0 → (IsLiveRow memory x → ⊥) → is_live_row memory x ≡ false
  row_dead x aligned none = by (is_live_row memory x) refl
    where
      by : (t : Bool) → is_live_row memory x ≡ t → t ≡ false
      by false e = refl
      by true e = let found = any_from (λ i. cell_at memory (x + i)) 0 16 e in absurd (none (aligned, (found.0, (let h = found.2 in omega arith), not_dead (cell_at memory (x + found.0)) found.3)))

  pub row_found : (from row : ℕ) → row < rows_end → IsNext (IsLiveRow memory) from row → IsRow memory from row
  row_found from row within next = record {
    not_before = next.reached;
    within = within;
    aligned = next.holds.0;
    live = row_lives row next.holds;
    first = λ x lo hi aligned. row_dead x aligned (λ live. let le = next.least x lo live in omega arith);
  }

  pub none_found : (from : ℕ) → ((y : ℕ) → from ≤ y → IsLiveRow memory y → ⊥) → NoneLive memory from rows_end
  none_found from none = λ x lo hi aligned. row_dead x aligned (none x lo)

  pub found_beyond : (from row : ℕ) → rows_end ≤ row → IsNext (IsLiveRow memory) from row → NoneLive memory from rows_end
  found_beyond from row beyond next = λ x lo hi aligned. row_dead x aligned (λ live. let le = next.least x lo live in omega arith)
