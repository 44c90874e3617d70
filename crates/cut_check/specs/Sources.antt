-- What a right source says, and the cut of it that is looked at.
use Rattle.std.specs.Prelude.{◌≡◌, ◌+◌, ℕ, Bool, List, Option, Some, None}
use Rattle.std.specs.List.{position_or_len}
use Rattle.c_scopes.specs.Scopes.{same_name}
use Rattle.c_builtins.specs.Table.{first_source_function}
use Rattle.c_types_rules.specs.Checked.{Checked, Fine, Noted, Broken}
use Rattle.c_types_rules.specs.Limits.{Typed, outcome}
use Rattle.c_types_rules.specs.Sources.{Function, Program, main}
use Rattle.annot_reader_rules.specs.Cuts.{annotations}
use Rattle.annot_reader_rules.specs.Notes.{Annotated}
use Rattle.annot_reader.specs.Interfaces.{IsRead, is_face}
use Rattle.c_lower.specs.Lowered.{lowered}
use Rattle.c_types_program.specs.declared.function.Function as code
use Rattle.c_types_program.specs.Programs.{IsProgram}
use Rattle.cut_graph_rules.specs.Findings.{Cut}
use Rattle.front_end.specs.declared.source.CheckedSource.{CheckedSource}
use Rattle.front_end.specs.Sources.{IsRight}
use Rattle.front_end_laws.specs.Annotations.{SayOfAll}

-- what is found, where no rule is broken
abbrev pub found : {A : Type 0} → Checked A → Option A
found (Fine x) = Some x
found (Noted n x) = Some x
found (Broken from rule) = None

-- nothing is wrong with the source that the bytes are; it declares this, and this is what its annotations say
pub record Says (bytes cut : List ℕ) (p : Program) (a : Annotated) : Type 0 where
  pub right : IsRight bytes cut
  pub declares : outcome right.ds ≡ Typed p
  pub annotated : found (annotations right.ds p) ≡ Some a

abbrev pub is_main : Function → Bool
is_main f = same_name f.name main

-- the number of the function where a run begins
abbrev pub main_of : Program → ℕ
main_of p = first_source_function + position_or_len is_main p.functions

-- the cut of this name: its interface has the builtins that the table says, and each function whose first
-- declaration names the cut
abbrev pub cut_of : (cut : List ℕ) → Program → Annotated → Cut
cut_of cut p a = record { program = p; face = is_face cut a; main = main_of p }

-- ---- for the code

abbrev pub is_named_main : code.Function → Bool
is_named_main f = same_name f.name main

-- the program, the interface of the cut and the flat code are those of this source, of each of whose functions
-- and globals something is said
pub record IsOf (cut : List ℕ) (p : Program) (a : Annotated) (c : CheckedSource) : Type 0 where
  pub program : IsProgram c.program p
  pub interface : IsRead cut a c.interface
  pub said : SayOfAll p a
  pub code : c.code ≡ lowered c.program
