-- What was computed of a cut before its findings.
use Rattle.std.specs.Prelude.{◌≡◌, ◌↔◌, ℕ, Bool, true, List}
use Rattle.marks.specs.declared.side.Side.TheVariants.{Replay, System}
use Rattle.c_types_program.specs.Declarations.{Declared}
use Rattle.c_types_program.specs.Programs.{IsProgram}
use Rattle.cut_graph_rules.specs.Sources.{Mentioned, mentions_of}
use Rattle.cut_graph_rules.specs.Findings.{Cut, May}
use Rattle.isolation_check_rows.specs.Rows.{flag}

-- its program, what that mentions, and flags of functions by number: those that may run above it and below it, and those of
-- its interface
pub record IsCut (p : Declared) (n : Mentioned) (above below faces : List Bool) (c : Cut) : Type 0 where
  pub program : IsProgram p c.program
  pub mentions : n ≡ mentions_of c.program
  pub replay : (f : ℕ) → (flag above f ≡ true) ↔ May c Replay f
  pub system : (f : ℕ) → (flag below f ≡ true) ↔ May c System f
  pub face : (f : ℕ) → flag faces f ≡ c.face f
