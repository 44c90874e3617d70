-- What a recording leaves.
use Rattle.std.specs.Prelude.{◌≡◌, ℕ, List, [], ◌∷◌}
use Rattle.c_code.specs.Machine.{Flat}
use Rattle.call_inspector_run.specs.declared.run.Run.{Run}
use Rattle.call_inspector.specs.ReportText.{report_text}
use Rattle.whole_runs.specs.World.{World}
use Rattle.whole_runs.specs.Recorded.{IsRecording, Told}
use Rattle.whole_runs_sources.specs.Laws.{IsWorldOf}
use Rattle.front_end.specs.declared.source.CheckedSource.{CheckedSource}
use Rattle.r2_cli_outcome.specs.Outcome.{Outcome, Write, err, file, out}
use Rattle.recording_texts.specs.Endings.{ending_line, status_of}

-- what the run shows
abbrev pub run_of : Told → Run
run_of told = record { threads = told.threads; memory = told.memory; output = told.output }

-- the log, the report of the run, what was printed above the cut, and what was printed below it
abbrev pub writes_with : (log rep bytes report output system_output : List ℕ) → List Write
writes_with log rep bytes report output system_output =
    record { to = file log; text = bytes } ∷ record { to = file rep; text = report } ∷
    record { to = out; text = output } ∷ record { to = err; text = system_output } ∷ []

-- all of them however the run ended, and then the line that says how
abbrev pub recorded : (log rep : List ℕ) → Flat → Told → Outcome
recorded log rep code told = record {
  status = status_of told.ending;
  writes = writes_with log rep told.log (report_text (run_of told) code) told.output told.system_output;
  line = ending_line code told.ending;
}

-- this is what a recording of a run of the source gives, whose flat code this is, with its objects where the cut has
-- them, and a system file
pub record IsRecordingOf (bytes cut script : List ℕ) (code : Flat) (told : Told) : Type 0 where
  pub source : CheckedSource
  pub world : World
  pub is_world : IsWorldOf bytes cut script source world
  pub code_is : world.laid.code ≡ code
  pub recording : IsRecording world told
