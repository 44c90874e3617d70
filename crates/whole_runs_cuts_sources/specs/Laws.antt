-- That the flat code of typed programs runs under their cuts.
use Rattle.std.specs.Prelude.{◌≡◌, List}
use Rattle.c_semantics.specs.Context.{Source}
use Rattle.c_lower_placement.specs.Laws.{laid}
use Rattle.c_types_program.specs.Declarations.{Declared}
use Rattle.c_lower_laws.specs.Fits.{IsFit}
use Rattle.c_lower.specs.Lowered.{IsSourceOf, lowered}
use Rattle.cut_graph_rules.specs.Findings.{Cut, IsAccepted}
use Rattle.cut_graph_laws.specs.SoundCut.{IsCutOf}
use Rattle.isolation_check_rules.specs.Places.{IsPlaced, Literal}
use Rattle.whole_runs.specs.World.{World}
use Rattle.whole_runs.specs.Fits.{IsFitCode}
use Rattle.whole_runs_cuts.specs.Laws.{RunsUnder}

-- the world runs the flat code of a program that keeps the rules of types and their limits; the source is
-- what the program stands for
pub record RunsProgram (p : Declared) (s : Source) (w : World) : Type 0 where
  pub fit : IsFit p
  pub source : IsSourceOf p s
  pub laid_is : w.laid ≡ laid s (lowered p)
  pub code : IsFitCode w.laid

-- it runs under each accepted cut of the source by which its objects are placed
abbrev pub ProgramsRunUnderTheirCuts : Declared → Source → World → Type 0
ProgramsRunUnderTheirCuts p s w = RunsProgram p s w → (c : Cut) → IsCutOf s c → IsAccepted c →
    (ls : List Literal) → IsPlaced c ls w.laid.placed → RunsUnder s c w
