-- What a recording of an accepted source is given.
use Rattle.std.specs.Prelude.{◌≡◌, ℕ, List, Ok}
use Rattle.memory_map.specs.declared.placed.Placed.{Placed}
use Rattle.c_code.specs.Machine.{Laid}
use Rattle.c_types_rules.specs.Sources.{Program}
use Rattle.annot_reader_rules.specs.Notes.{Annotated}
use Rattle.front_end.specs.declared.source.CheckedSource.{CheckedSource}
use Rattle.front_end.specs.Answers.{IsAccepted}
use Rattle.cut_check.specs.Sources.{Says, cut_of}
use Rattle.isolation_check_rules.specs.Places.{source_of}
use Rattle.isolation_check.specs.Answers.{IsAcceptedAt}
use Rattle.isolation_check.specs.Literals.{literals_in}
use Rattle.stub_operations.specs.declared.purpose.Purpose.TheVariants.{Record}
use Rattle.call_operations.specs.Sets.{AreStubs}
use Rattle.sys_script_lines.specs.Scripts.{IsRead, script_of}
use Rattle.sys_script.specs.Externals.{external_in}
use Rattle.whole_runs.specs.World.{World}
use Rattle.whole_runs_cuts.specs.Laws.{RunsUnder}

-- the front end accepts the source, nothing is found in its cut, and its strings and globals lie there
pub record IsPlacedAs (bytes cut : List ℕ) (c : CheckedSource) (q : Placed) : Type 0 where
  pub accepted : IsAccepted bytes cut c
  pub program : Program
  pub annotated : Annotated
  pub says : Says bytes cut program annotated
  pub placed : IsAcceptedAt (cut_of cut program annotated) (literals_in c.program.texts) q

-- its flat code, with its objects there
abbrev pub laid_at : CheckedSource → Placed → Laid
laid_at c q = record { code = c.code; placed = q }

-- a world has the flat code of the source, with its objects in these places and its stubs of a recording, and
-- what a system file says of its functions
pub record IsWorldOf (bytes cut script : List ℕ) (c : CheckedSource) (w : World) : Type 0 where
  pub source : IsPlacedAs bytes cut c w.laid.placed
  pub code : w.laid.code ≡ c.code
  pub stubs : AreStubs Record c.program.functions c.interface w.stubs
  pub file : IsRead (script_of (external_in c.program c.interface) script) (Ok w.file)

-- the world runs under the cut that any reading of the source gives, with its objects where they lie
abbrev pub RunsUnderItsCut : (bytes cut : List ℕ) → CheckedSource → World → Type 0
RunsUnderItsCut bytes cut c w = (p : Program) (a : Annotated) → Says bytes cut p a →
    RunsUnder (source_of p (literals_in c.program.texts) w.laid.placed) (cut_of cut p a) w
