-- The numbers that stand for keys in the tables of the check.
use Rattle.std.specs.Prelude.{◌≡◌, ℕ, ◌<◌, List, Some, vec_len}
use Rattle.std.specs.List.{AllZip, flat_map}
use Rattle.std.specs.BTreeMap.{BTreeMap, get}
use Rattle.run_events.specs.declared.key.KeyMark.{KeyMark}
use Rattle.run_events.specs.declared.event.Record.{Record}
use Rattle.log_closure.specs.declared.tie.TieKey.{TieKey}
use Rattle.log_closure.specs.declared.numbering.Numbering.{Numbering}
use Rattle.log_closure.specs.Tables.{Numbers, AreApart, key_cmp, tie_key}
use Rattle.log_closure.specs.Ties.{key_tie}

-- keys have different numbers, which are below the count
pub record AreNumbers (keys : BTreeMap TieKey ℕ) (count : ℕ) : Type 0 where
  pub below : (k : TieKey) (n : ℕ) → get key_cmp keys k ≡ Some n → n < count
  pub apart : AreApart (get key_cmp keys)

-- the keys that had a number have it still
abbrev pub Keeps : BTreeMap TieKey ℕ → BTreeMap TieKey ℕ → Type 0
Keeps old new = (k : TieKey) (n : ℕ) → get key_cmp old k ≡ Some n → get key_cmp new k ≡ Some n

-- the numbers of the keys of these marks
abbrev pub HaveNumbers : Numbers → List KeyMark → List ℕ → Type 0
HaveNumbers number ms ns = AllZip (λ (m : KeyMark) (n : ℕ). number (tie_key (key_tie m)) ≡ Some n) ms ns

abbrev pub number_in : Numbering → Numbers
number_in n k = get key_cmp n.keys.numbers k

-- the marks of these records, in file order
abbrev pub marks_of : List Record → List KeyMark
marks_of rs = flat_map (λ (r : Record). r.keys) rs

-- different numbers of the keys of the records, and for each mark that of its key
pub record IsNumbering (n : Numbering) (rs : List Record) : Type 0 where
  pub numbers : AreNumbers n.keys.numbers (vec_len n.keys.counts)
  pub marks : HaveNumbers (number_in n) (marks_of rs) n.marks.items
