-- How what annotations of a function say goes by plain data.
use Rattle.std.specs.Prelude.{◌≡◌, ℕ, pos, not, List, [], map}
use Rattle.annot_reader_rules.specs.Cuts.{in_cut}
use Rattle.annot_reader_rules.specs.Functions.{FunctionKind as KnownKind, is_empty}
use Rattle.annot_reader_rules.specs.Notes.{Notes}
use Rattle.annot_reader_words.specs.Readings.{parameters_in}
use Rattle.annot_reader_functions.specs.declared.kind.FunctionKind.{FunctionKind}
use Rattle.annot_reader_functions.specs.declared.said.Said.{Said}
use Rattle.annot_reader_functions.specs.declared.notes.FunctionNotes.{FunctionNotes}

-- the same is said, where a cut is looked for
pub record IsSaid (cut : List ℕ) (s : Said) (n : Notes) : Type 0 where
  pub in_cut : s.in_cut ≡ in_cut cut n
  pub has_cuts : s.has_cuts ≡ not (is_empty n.cuts)
  pub params : n.params ≡ []
  pub sync : s.sync.items ≡ n.sync
  pub commit : s.commit ≡ n.commit
  pub cache : s.cache ≡ n.cache
  pub holds : s.holds.keys ≡ n.holds

-- the same, in the answer of a call
abbrev pub AreSaid : List ℕ → Notes → Said → Type 0
AreSaid cut n s = IsSaid cut s n

abbrev pub kind_in : FunctionKind → KnownKind
kind_in k = record { is_main = k.is_main; has_body = k.has_body }

-- what is said of a function and its parameters
pub record IsNoted (cut : List ℕ) (n : Notes) (v : FunctionNotes) : Type 0 where
  pub in_cut : v.in_cut ≡ in_cut cut n
  pub params : parameters_in v.annots.params ≡ n.params
  pub sync : v.annots.sync ≡ n.sync
  pub commit : v.annots.commit ≡ n.commit
  pub cache : v.annots.cache ≡ n.cache
  pub holds : v.holds ≡ map pos n.holds
