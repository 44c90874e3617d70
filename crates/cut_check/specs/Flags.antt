-- Flags of functions, and findings with their lines, for the code.
use Rattle.std.specs.Prelude.{ℕ, Bool, List, ◌++◌, codes, is_some}
use Rattle.annot_reader.specs.Interface.{Interface}
use Rattle.annot_reader.specs.Interfaces.{annots_at}
use Rattle.c_types_program.specs.Declarations.{Declared}
use Rattle.cut_graph_rules.specs.Findings.{Cut}
use Rattle.cut_graph_rules.specs.Sources.{Mentioned}
use Rattle.isolation_check_findings.specs.declared.finding.Finding.{Finding}
use Rattle.isolation_check_findings.specs.Given.{IsCut}
use Rattle.cut_check.specs.declared.flags.Flags.{Flags}

abbrev pub in_interface : Interface → ℕ → Bool
in_interface i number = is_some (annots_at i number)

-- they are those of a cut
abbrev pub AreFlags : Declared → Mentioned → Flags → Cut → Type 0
AreFlags p n s c = IsCut p n s.above.items s.below.items s.faces.items c

abbrev pub ended_line : Finding → List ℕ
ended_line x = x.line.items ++ codes "\n"
