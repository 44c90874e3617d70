-- Memory that stands for one run has one text.
use Rattle.std.proofs.Common.{◌≡◌, ◌<◌, ◌≤◌, ℕ, zero, suc, ◌+◌, ◌*◌, ◌/◌, ◌-◌, Bool, true, false, ◌&&◌, ◌||◌, leb, ltb, List, [], ◌∷◌, ◌++◌, map, Option, Some, None, codes, refl, sym, ap, ◌∙◌, arith}
use Rattle.std.specs.Prelude.{if◌then◌else◌, is_some}
use Rattle.std.specs.List.{list_any, range_with_len}
use Rattle.std.proofs.lemmas.Bool.{lt-leb}
use Rattle.memory_map.specs.declared.areas.TheConstants.{REPLAY_MEMORY}
use Rattle.marks.specs.Bytes as marks
use Rattle.marks.specs.Marks.{Mark}
use Rattle.marks.specs.Places.{is_system, system_end, system_globals}
use Rattle.marks.specs.Ranges.{covers}
use Rattle.replay_runs.specs.Runs.{Start, byte}
use Rattle.space_memory_bytes.specs.Areas.{byte_at}
use Rattle.space_memory_access.specs.declared.holder.Region.{Region}
use Rattle.space_memory_access.specs.Holders.{is_pending}
use Rattle.space_memory.specs.declared.cell.Cell.{Cell}
use Rattle.space_memory.specs.declared.cell.Cell.TheVariants.{Byte, Dead, Pending}
use Rattle.space_memory.specs.Cells.{cell_at, is_held, shown}
use Rattle.space_memory.specs.Spaces.{SpaceState}
use Rattle.space_memory_laws.specs.Shown.{cell_of, value_when_held}
use Rattle.space_memory_laws.specs.StandsFor.{StandsFor}
use Rattle.call_inspector.specs.MemoryText.{is_live, memory_text, row_of, row_text, rows_end, rows_text}

-- what a byte shows is what the run has there

abbrev shown_as : marks.Cell → Cell
shown_as marks.Dead = Dead
shown_as (marks.Live v) = Byte v
shown_as (marks.Held v) = Pending

or_some : (b c : Bool) (n : ℕ) (o : Option ℕ) → is_some o ≡ c → is_some (if b then Some n else o) ≡ (b || c)
or_some true c n o e = refl
or_some false c n o e = e

held_is : (rs : List Region) (x : ℕ) → is_some (value_when_held rs x) ≡ is_held rs x
held_is [] x = refl
held_is (r ∷ rs) x = or_some (is_pending r.holder && covers r.range x) (is_held rs x) _ (value_when_held rs x) (held_is rs x)

by_cell : (now before : Option ℕ) → shown now (is_some before) ≡ shown_as (cell_of now before)
by_cell None before = refl
by_cell (Some n) None = refl
by_cell (Some n) (Some b) = refl

module _ (s : Start) (past : List Mark) (m k : SpaceState) (a : StandsFor s past m) (b : StandsFor s past k) where
  cell_is : (h : SpaceState) → StandsFor s past h → (x : ℕ) → is_system x ≡ false → cell_at h x ≡ shown_as (byte s x past).cell
  cell_is h stands x above =
      ap (shown (byte_at h.bytes x)) (sym (held_is h.held.regions x)) ∙ (by_cell (byte_at h.bytes x) (value_when_held h.held.regions x) ∙ ap shown_as (sym (stands.bytes x above)))

  cell_same : (x : ℕ) → is_system x ≡ false → cell_at m x ≡ cell_at k x
  cell_same x above = cell_is m a x above ∙ sym (cell_is k b x above)

  both_false : (p q : Bool) → p ≡ false → (p && q) ≡ false
  both_false false q e = refl
  both_false true q e = absurd (cc e)

  not_system : (x : ℕ) → x < rows_end → is_system x ≡ false
  not_system x lt = both_false (leb system_globals x) (ltb x system_end) (lt-leb system_globals x (omega arith))

  cells_same : (addr from n : ℕ) → addr + from + n ≤ rows_end → map (λ i. cell_at m (addr + i)) (range_with_len from n) ≡ map (λ i. cell_at k (addr + i)) (range_with_len from n)
  cells_same addr from zero le = refl
  cells_same addr from (suc n) le =
      ap (λ c. c ∷ map (λ i. cell_at m (addr + i)) (range_with_len (from + 1) n)) (cell_same (addr + from) (not_system (addr + from) (omega arith))) ∙
      ap (λ cs. cell_at k (addr + from) ∷ cs) (cells_same addr (from + 1) n (omega arith))

  row_same : (addr : ℕ) → addr + 16 ≤ rows_end → row_of m addr ≡ row_of k addr
  row_same addr le = cells_same addr 0 16 (omega arith)

  rows_same : (addr rows : ℕ) → addr + rows * 16 ≤ rows_end → rows_text m addr rows ≡ rows_text k addr rows
  unfolding rows_text
  rows_same addr zero le = refl
  rows_same addr (suc rows) le =
      ap (λ cells. (if list_any is_live cells then row_text addr cells ++ codes "\n" else []) ++ rows_text m (addr + 16) rows) (row_same addr (omega arith)) ∙
      ap (λ text. (if list_any is_live (row_of k addr) then row_text addr (row_of k addr) ++ codes "\n" else []) ++ text) (rows_same (addr + 16) rows (omega arith))

  pub memory_same : memory_text m ≡ memory_text k
  memory_same = rows_same REPLAY_MEMORY.addr ((rows_end - REPLAY_MEMORY.addr) / 16) (omega arith)
