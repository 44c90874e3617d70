-- Which annotations stand at a parameter, where items are those of a tree.
use Rattle.std.specs.Prelude.{◌≡◌, ℕ, true, Option, Some, None}
use Rattle.std.specs.Option.{option_copied}
use Rattle.c_syntax.specs.Nodes.{Nodes}
use Rattle.c_syntax.specs.Syntax.{Items}
use Rattle.c_types_rules.specs.Checked.{Checked, Fine, Broken, ◌>>=◌, ◌>>◌}
use Rattle.annot_reader_rules.specs.Regions.{Marked, alone, with_one}
use Rattle.annot_reader_words.specs.declared.word.ParameterWord.{ParameterWord}
use Rattle.annot_reader_words.specs.declared.word.ParameterWord.TheVariants as words
use Rattle.annot_reader_words.specs.Items.{MaybeStands}
use Rattle.annot_reader_functions.specs.declared.marks.Marks.{Marks}

-- the same stand there
pub record IsMarked (N : Nodes) (marks : Marks) (m : Marked) : Type 0 where
  pub has_in : marks.has_in ≡ m.has_in
  pub has_out : marks.has_out ≡ m.has_out
  pub callback : marks.callback ≡ m.callback
  pub bsize : MaybeStands N (option_copied marks.bsize) m.bsize
  pub cap : MaybeStands N (option_copied marks.cap) m.cap
  pub prepare : MaybeStands N (option_copied marks.prepare) m.prepare

-- ---- one annotation more, by its word

abbrev pub in_marked : (from : ℕ) → Items → Marked → Checked Marked
in_marked from is m = alone from is m.has_in >> Fine (record m { has_in = true })

abbrev pub out_marked : (from : ℕ) → Items → Marked → Checked Marked
out_marked from is m = alone from is m.has_out >> Fine (record m { has_out = true })

abbrev pub callback_marked : (from : ℕ) → Items → Marked → Checked Marked
callback_marked from is m = alone from is m.callback >> Fine (record m { callback = true })

abbrev pub bsize_marked : (from : ℕ) → Items → Marked → Checked Marked
bsize_marked from is m = with_one from is m.bsize >>= λ x. Fine (record m { bsize = Some x })

abbrev pub cap_marked : (from : ℕ) → Items → Marked → Checked Marked
cap_marked from is m = with_one from is m.cap >>= λ x. Fine (record m { cap = Some x })

abbrev pub prepare_marked : (from : ℕ) → Items → Marked → Checked Marked
prepare_marked from is m = with_one from is m.prepare >>= λ x. Fine (record m { prepare = Some x })

abbrev pub marked_by : Option ParameterWord → (from : ℕ) → Items → Marked → Checked Marked
marked_by (Some words.In) from is m = in_marked from is m
marked_by (Some words.Out) from is m = out_marked from is m
marked_by (Some words.Callback) from is m = callback_marked from is m
marked_by (Some words.Bsize) from is m = bsize_marked from is m
marked_by (Some words.Cap) from is m = cap_marked from is m
marked_by (Some words.Prepare) from is m = prepare_marked from is m
marked_by None from is m = Broken from 1

-- what stands there, in the answer of a call
abbrev pub AreMarks : Nodes → Marked → Marks → Type 0
AreMarks N m k = IsMarked N k m
