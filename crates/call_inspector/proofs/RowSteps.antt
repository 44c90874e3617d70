-- Rows without a live byte add nothing.
use Rattle.std.proofs.Common.{◌≡◌, ◌≤◌, ◌+◌, ◌-◌, ◌*◌, ◌/◌, ◌%◌, ℕ, zero, suc, false, cond, List, [], ◌++◌, codes, Some, refl, sym, ap, ◌∙◌, append_assoc, arith, inl, inr}
use Rattle.std.proofs.lemmas.Bool.{cases_lt}
use Rattle.space_memory.specs.declared.cell.Cell.{Cell}
use Rattle.space_memory.specs.Spaces.{SpaceState}
use Rattle.call_inspector.specs.MemoryText.{row_of, row_text, is_live_row, rows_text, rows_end, rows_from}
use Rattle.call_inspector.specs.Rows.{NoneLive, IsRow}
use Rattle.call_inspector.specs.Parts.{PutsRow, row_at}

module _ (memory : SpaceState) where
  -- what one row adds
  abbrev pub line_of : ℕ → List ℕ
  line_of addr = row_text addr (row_of memory addr) ++ codes "\n"

  rows_step : (addr rows : ℕ) → rows_text memory addr (suc rows) ≡ cond (is_live_row memory addr) (line_of addr) [] ++ rows_text memory (addr + 16) rows
  unfolding rows_text
  rows_step addr rows = refl

  no_rows : (addr : ℕ) → rows_text memory addr 0 ≡ []
  unfolding rows_text
  no_rows addr = refl

  from_step : (addr : ℕ) → addr + 16 ≤ rows_end → rows_from memory addr ≡ cond (is_live_row memory addr) (line_of addr) [] ++ rows_from memory (addr + 16)
  from_step addr le =
      let one : (rows_end - addr) / 16 ≡ suc ((rows_end - (addr + 16)) / 16) = omega arith in
      ap (rows_text memory addr) one ∙ rows_step addr ((rows_end - (addr + 16)) / 16)

  dead_step : (addr : ℕ) → addr + 16 ≤ rows_end → is_live_row memory addr ≡ false → rows_from memory addr ≡ rows_from memory (addr + 16)
  dead_step addr le dead = from_step addr le ∙ ap (λ b. cond b (line_of addr) [] ++ rows_from memory (addr + 16)) dead

  skip : (k addr : ℕ) → addr % 16 ≡ 0 → addr + 16 * k ≤ rows_end → NoneLive memory addr (addr + 16 * k) → rows_from memory addr ≡ rows_from memory (addr + 16 * k)
  skip zero addr aligned le none = ap (rows_from memory) {x = addr} {y = addr + 16 * zero} (omega arith)
  skip (suc k) addr aligned le none =
      dead_step addr (omega arith) (none addr (omega arith) (omega arith) aligned)
      ∙ skip k (addr + 16) (omega arith) (omega arith) (λ x from to at. none x (omega arith) (omega arith) at)
      ∙ ap (rows_from memory) {x = addr + 16 + 16 * k} {y = addr + 16 * suc k} (omega arith)

  pub next_line : (from row : ℕ) → from % 16 ≡ 0 → IsRow memory from row → rows_from memory from ≡ line_of row ++ rows_from memory (row + 16)
  next_line from row aligned is =
      let k : ℕ = (row - from) / 16 in
      let at : from + 16 * k ≡ row = (let a = is.aligned in let b = is.not_before in omega arith) in
      let within : row + 16 ≤ rows_end = (let a = is.aligned in let b = is.within in omega arith) in
      skip k from aligned (omega arith) (λ x lo hi al. is.first x lo (omega arith) al)
      ∙ ap (rows_from memory) at
      ∙ from_step row within
      ∙ ap (λ b. cond b (line_of row) [] ++ rows_from memory (row + 16)) is.live

  pub no_more_lines : (from : ℕ) → from % 16 ≡ 0 → from ≤ rows_end → NoneLive memory from rows_end → rows_from memory from ≡ []
  no_more_lines from aligned le none =
      let k : ℕ = (rows_end - from) / 16 in
      let at : from + 16 * k ≡ rows_end = omega arith in
      skip k from aligned (omega arith) (λ x lo hi al. none x lo (omega arith) al)
      ∙ ap (rows_from memory) at
      ∙ no_rows rows_end

  -- the text of a row, added to what stands before it
  pub next_rows : (from row : ℕ) (t0 t1 t2 t3 : List ℕ) (cells : List Cell) → from % 16 ≡ 0 → IsRow memory from row → cells ≡ row_of memory row
      → t1 ++ rows_from memory from ≡ t0 → t2 ≡ t1 ++ row_text row cells → t3 ≡ t2 ++ codes "\n" → t3 ++ rows_from memory (row + 16) ≡ t0
  next_rows from row t0 t1 t2 t3 cells aligned is same before line end =
      let rest : List ℕ = rows_from memory (row + 16) in
      let break : List ℕ = codes "\n" in
      ap (λ (w : List ℕ). w ++ rest) end
      ∙ append_assoc t2 break rest
      ∙ ap (λ (w : List ℕ). w ++ (break ++ rest)) line
      ∙ append_assoc t1 (row_text row cells) (break ++ rest)
      ∙ ap (λ (cs : List Cell). t1 ++ (row_text row cs ++ (break ++ rest))) same
      ∙ ap (λ (w : List ℕ). t1 ++ w) (sym (append_assoc (row_text row (row_of memory row)) break rest) ∙ sym (next_line from row aligned is))
      ∙ before

  -- the same from a row on, counted from the first
  pub none_from : (row at : ℕ) → at ≡ row_at row → NoneLive memory at rows_end → rows_from memory (row_at row) ≡ []
  none_from row at is none = elim (cases_lt rows_end at) [
    | inl beyond ↦ ap (rows_text memory (row_at row)) {x = (rows_end - row_at row) / 16} {y = 0} (omega (arith, is, beyond)) ∙ no_rows (row_at row)
    | inr le ↦ ap (rows_from memory) (sym is) ∙ no_more_lines at (omega (arith, is)) (omega (arith, le)) none
  ]

  pub line_from : (row at addr next : ℕ) (t0 t1 t2 : List ℕ) (cells : List Cell) → at ≡ row_at row → IsRow memory at addr → next ≡ (addr - row_at 0) / 16 + 1 → cells ≡ row_of memory addr → t1 ≡ t0 ++ row_text addr cells → t2 ≡ t1 ++ codes "\n"
      → PutsRow memory t0 row t2 (Some next)
  line_from row at addr next t0 t1 t2 cells at_is is next_is same line end = (
    ap (λ (n : ℕ). t2 ++ rows_from memory n) {x = row_at next} {y = addr + 16} (let a = is.aligned in let b = is.not_before in omega (arith, a, b, at_is, next_is))
        ∙ next_rows at addr (t0 ++ rows_from memory at) t0 t1 t2 cells (omega (arith, at_is)) is same refl line end
        ∙ ap (λ (n : ℕ). t0 ++ rows_from memory n) at_is,
    (let b = is.not_before in omega (arith, b, at_is, next_is)),
    (let a = is.aligned in let w = is.within in let b = is.not_before in omega (arith, a, b, w, at_is, next_is)),
  )
