-- What the code of a function is made with, before it is known where anything lies.
use Rattle.std.specs.Prelude.{ℕ, List, []}
use Rattle.c_code.specs.Machine.{flat}
use Rattle.c_lower_placement.specs.Placement.{Against}
use Rattle.c_lower_placement.specs.Code.{Making}
use Rattle.c_types_program.specs.Declarations.{Declared}
use Rattle.c_lower_layout.specs.Sources.{sig_in, source_in}

-- a program, and how far the locals of a function lie after the beginning of its frame
pub record Setting : Type 0 where
  pub declared : Declared
  pub offsets : List ℕ

abbrev pub setting : Declared → List ℕ → Setting
setting p offsets = record { declared = p; offsets = offsets }

abbrev pub making : Setting → Making
making s = record {
  against = record {
    source = source_in s.declared;
    code = flat [] [] [];
    offsets =
        s.offsets;
  };
  sig = sig_in s.declared;
}
