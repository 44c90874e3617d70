-- Which bytes have cells.
use Rattle.std.specs.Prelude.{◌≡◌, ℕ, ◌+◌, ◌-◌, ◌*◌, ◌%◌, ◌<◌, ◌≤◌, Bool, ◌&&◌, nat_le, nat_lt, if◌then◌else◌, Option, Some, None, MatchOption}
use Rattle.marks.specs.declared.range.Range.{Range}
use Rattle.marks.specs.Ranges.{IsInRange}
use Rattle.race_watch.specs.declared.bytes.Bytes.{Bytes}

-- the byte's number among those of the areas of replay code, of which each follows the one before
abbrev pub cell_of : ℕ → Option ℕ
cell_of x =
    if nat_le 0x10000000 x && nat_lt x 0x10100000 then Some (x - 0x10000000)
    else if nat_le 0x20000000 x && nat_lt x 0x20200000 then Some (x - 0x20000000 + 0x100000)
    else if nat_le 0x30000000 x && nat_lt x 0x30100000 then Some (x - 0x30000000 + 0x300000) else None

-- before the first of a thread's cells, for its writes or for its reads
abbrev pub base_of : ℕ → Bool → ℕ
base_of t read = (t * 2 + (if read then 1 else 0)) * 0x400000

-- bytes whose cells follow each other
pub record IsPart (b : Bytes) : Type 0 where
  pub order : b.from ≤ b.to
  pub cells : (x : ℕ) → b.from ≤ x → x < b.to → cell_of x ≡ Some (b.cell + (x - b.from))
  pub within : b.cell + (b.to - b.from) ≤ 0x400000

-- a few bytes, of whose cells none lies past the eight in a row that the first is one of
pub record IsFew (b : Bytes) : Type 0 where
  pub some : b.from < b.to
  pub few : b.cell % 8 + (b.to - b.from) ≤ 8

-- something holds of each of the bytes
abbrev pub EachIn : Bytes → (ℕ → Type 0) → Type 0
EachIn b P = (x : ℕ) → b.from ≤ x → x < b.to → P x

-- the bytes of a range that lie among these
pub record IsCommonPart (r : Range) (area b : Bytes) : Type 0 where
  pub part : IsPart b
  pub some : b.from < b.to
  pub low : r.addr ≤ b.from
  pub high : b.to ≤ r.addr + r.len
  pub above : area.from ≤ b.from
  pub under : b.to ≤ area.to
  pub all : (x : ℕ) → IsInRange r x → area.from ≤ x → x < area.to → (b.from ≤ x) × (x < b.to)

abbrev pub IsCommon : Range → Bytes → Option Bytes → Type 0
IsCommon r area result = MatchOption result ((x : ℕ) → IsInRange r x → area.from ≤ x → x < area.to →
    ⊥) (λ b. IsCommonPart r area b)
