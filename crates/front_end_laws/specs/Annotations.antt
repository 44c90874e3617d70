-- Of what the annotations of a source say something.
use Rattle.std.specs.Prelude.{◌≡◌, length}
use Rattle.c_types_rules.specs.Checked.{Checked, Fine, Noted, Broken}
use Rattle.c_types_rules.specs.Sources.{Program}
use Rattle.annot_reader_rules.specs.Notes.{Annotated}

-- of each function and of each global, and of nothing else
pub record SayOfAll (p : Program) (a : Annotated) : Type 0 where
  pub functions : length a.functions ≡ length p.functions
  pub globals : length a.guards ≡ length p.globals

-- the same of annotations that are read, where they break no rule
abbrev pub ReadOfAll : Program → Checked Annotated → Type 0
ReadOfAll p (Fine a) = SayOfAll p a
ReadOfAll p (Noted n a) = SayOfAll p a
ReadOfAll p (Broken from rule) = Unit {0}
