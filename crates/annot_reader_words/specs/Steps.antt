-- What one annotation more says, in a list.
use Rattle.std.specs.Prelude.{ℕ, List, Option}
use Rattle.c_syntax.specs.Syntax.{Annot, Annotate, Decl, Declare, Item, OneFactor, NameAtom}
use Rattle.c_types_rules.specs.Checked.{Checked, Fine, Broken, ◌>>◌}
use Rattle.annot_reader_rules.specs.Misplaced.{bare_annots, bare_parts, bare_rest}
use Rattle.annot_reader_rules.specs.Functions.{guard_word, nothing_again}

-- of a global, where this mutex guards it so far
abbrev pub guard_step : Annot → Option ℕ → Checked (Option ℕ)
guard_step (Annotate from word is) before = guard_word from word is before

-- of a parameter of a function that was declared before
abbrev pub again : Decl → Checked (Unit {0})
again (Declare from an b ps n r) = nothing_again an >> bare_parts ps >> bare_rest r

-- no parameter in the declarator, or in what follows it, has annotations
abbrev pub bare_after : Decl → Checked (Unit {0})
bare_after (Declare from an b ps n r) = bare_parts ps >> bare_rest r

-- the same, and none in the types that its annotations name
abbrev pub bare_around : Decl → Checked (Unit {0})
bare_around (Declare from an b ps n r) = bare_annots an >> (bare_parts ps >> bare_rest r)

-- the name that an item is
abbrev pub name_in : (from : ℕ) → Item → Checked (List ℕ)
name_in from (OneFactor at (NameAtom name)) = Fine name
name_in from x = Broken from 1
