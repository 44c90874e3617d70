-- What one annotation of a function more says.
use Rattle.std.specs.Prelude.{ℕ, true, Option, Some, None}
use Rattle.c_syntax.specs.Syntax.{Annot, Items}
use Rattle.c_types_rules.specs.Checked.{Checked, Fine, Broken, ◌>>◌}
use Rattle.annot_reader_rules.specs.Functions.{FunctionKind, commit_word, cut_word, holds_word, noted, sync_word}
use Rattle.annot_reader_rules.specs.Notes.{Notes}
use Rattle.annot_reader_rules.specs.Regions.{Signature, alone}
use Rattle.annot_reader_words.specs.declared.word.FunctionWord.{FunctionWord}
use Rattle.annot_reader_words.specs.declared.word.FunctionWord.TheVariants as words

-- `cache`, once per list
abbrev pub cache_word : (from : ℕ) → Items → Notes → Checked Notes
cache_word from is n = alone from is n.cache >> Fine (record n { cache = true })

-- by its word
abbrev pub noted_by : Option FunctionWord → (from : ℕ) → Items → Signature → FunctionKind → Notes →
    Checked Notes
noted_by (Some words.Cut) from is s k n = cut_word from is k n
noted_by (Some words.Sync) from is s k n = sync_word from is s n
noted_by (Some words.Commit) from is s k n = commit_word from is s n
noted_by (Some words.Cache) from is s k n = cache_word from is n
noted_by (Some words.Holds) from is s k n = holds_word from is k n
noted_by None from is s k n = Broken from 1

-- as a step
abbrev pub noted_step : Signature → FunctionKind → Annot → Notes → Checked Notes
noted_step s k x n = noted x s k n
