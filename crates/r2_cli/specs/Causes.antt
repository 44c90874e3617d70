-- When each status comes.
use Rattle.std.specs.Prelude.{◌≡◌, ◌≢◌, ◌≤◌, ◌<◌, ℕ, List, [], true, false, Option, Some, None, length}
use Rattle.source_limits.specs.Limits.{most_bytes}
use Rattle.cut_check.specs.Lines.{LinesOf}
use Rattle.front_end.specs.Sources.{IsWrong}
use Rattle.front_end.specs.declared.error.SourceError.TheVariants as errors
use Rattle.front_end.specs.declared.error.SourceFault.{SourceFault}
use Rattle.front_end.specs.declared.error.SourceLimit.{SourceLimit}
use Rattle.log_closure.specs.Events.{Part, In}
use Rattle.r2_base.specs.Causes.{Rose}
use Rattle.r2_base.specs.Seen.{Contents}
use Rattle.r2_cli_outcome.specs.declared.status.Status.{Status}
use Rattle.r2_cli_outcome.specs.declared.status.Status.TheVariants.{Done, Findings, Usage, Source, System, Fault, Breach, Halted, Short, BadLog, ReadFault, WriteFault, Limit, NoMemory}
use Rattle.r2_cli_outcome.specs.World.{World}
use Rattle.r2_cli_outcome.specs.Outcome.{Target}
use Rattle.r2_cli_outcome.specs.Reading.{AreOf}
use Rattle.r2_cli_outcome.specs.Input.{most_log_bytes, most_system_bytes}
use Rattle.r2_cli_outcome.specs.Left.{faults_at}
use Rattle.r2_cli_outcome.specs.Log.{IsLogPart, IsBadLog}
use Rattle.front_end.specs.declared.source.CheckedSource.{CheckedSource}
use Rattle.front_end.specs.Answers.{IsAccepted}
use Rattle.sys_script_lines.specs.Scripts.{Breaks}
use Rattle.c_code.specs.Machine.{Flat}
use Rattle.whole_runs.specs.declared.ending.Ending.TheVariants as endings
use Rattle.whole_runs.specs.declared.ending.Halt.{Halt}
use Rattle.whole_runs.specs.Recorded.{Told}
use Rattle.recorded_outcome.specs.Recorded.{IsRecordingOf}
use Rattle.recorded_outcome.specs.Stages.{script_for}
use Rattle.r2_cli.specs.Words.{Form, help, version, order, check, stubs, gen, recording, IsForm, IsUsage, source_of, log_of, system_of, inputs_of}

-- the command reads a log that is no longer than its limit, and this is what it holds
pub record ReadsLog (contents : Contents) (form : Form) (bytes : List ℕ) : Type 0 where
  pub name : List ℕ
  pub is_log : log_of form ≡ Some name
  pub there : contents name ≡ Some bytes
  pub short : length bytes ≤ most_log_bytes

-- the command reads a source that is no longer than its limit, and this is what it holds, and the name of the
-- cut
pub record ReadsSource (contents : Contents) (form : Form) (bytes cut : List ℕ) : Type 0 where
  pub name : List ℕ
  pub is_source : source_of form ≡ Some (name, cut)
  pub there : contents name ≡ Some bytes
  pub short : length bytes ≤ most_bytes

-- the command reads a system file that is no longer than its limit, and this is what it holds
pub record ReadsSystem (contents : Contents) (form : Form) (script : List ℕ) : Type 0 where
  pub name : List ℕ
  pub is_system : system_of form ≡ Some name
  pub there : contents name ≡ Some script
  pub short : length script ≤ most_system_bytes

-- the command reads a right source in which nothing is found, and a system file, and this is what the run that it
-- records is told of
pub record Records (contents : Contents) (form : Form) (told : Told) : Type 0 where
  pub bytes : List ℕ
  pub cut : List ℕ
  pub script : List ℕ
  pub code : Flat
  pub source : ReadsSource contents form bytes cut
  pub right : LinesOf bytes cut []
  pub system : ReadsSystem contents form script
  pub of : IsRecordingOf bytes cut script code told

-- the command's job is complete: of a log that it reads, the whole is there; a source that it reads is
-- right, and nothing is found in it; in a run that it records all threads end
abbrev pub IsComplete : Contents → Form → Type 0
IsComplete contents help = Unit {0}
IsComplete contents version = Unit {0}
IsComplete contents (order log) = (bytes : List ℕ) × (part : Part) × ReadsLog contents (order log) bytes ×
    IsLogPart bytes part × (part.whole ≡ true)
IsComplete contents (check src cut) = (bytes : List ℕ) × ReadsSource contents (check src cut) bytes cut ×
    LinesOf bytes cut []
IsComplete contents (stubs src cut) = (bytes : List ℕ) × ReadsSource contents (stubs src cut) bytes cut ×
    LinesOf bytes cut []
IsComplete contents (gen rounds src sys) = Unit {0}
IsComplete contents (recording src cut sys log rep) = (told : Told) ×
    Records contents (recording src cut sys log rep) told × (told.ending ≡ endings.Done)

-- what an input file holds exceeds its limit
pub data IsTooLong (contents : Contents) (form : Form) : Type 0 where
  long_log : {name bytes : List ℕ} → log_of form ≡ Some name → contents name ≡ Some bytes →
      most_log_bytes < length bytes → IsTooLong contents form
  long_source : {name cut bytes : List ℕ} → source_of form ≡ Some (name, cut) →
      contents name ≡ Some bytes → most_bytes < length bytes → IsTooLong contents form
  long_system : {name bytes : List ℕ} → system_of form ≡ Some name → contents name ≡ Some bytes →
      most_system_bytes < length bytes → IsTooLong contents form

-- when each status comes, by the words and what the names hold, or by a count of faults that rose in the
-- call
pub data Cause (words : List (List ℕ)) (contents : Contents) (old new : World) : Status → Type 0 where
  done : (form : Form) → IsForm words form → IsComplete contents form → Cause words contents old new Done
  found : {form : Form} {bytes cut : List ℕ} {lines : List (List ℕ)} → IsForm words form →
      ReadsSource contents form bytes cut → LinesOf bytes cut lines → lines ≢ [] →
      Cause words contents old new Findings
  usage : IsUsage words → Cause words contents old new Usage
  source : {form : Form} {bytes cut : List ℕ} {fault : SourceFault} → IsForm words form →
      ReadsSource contents form bytes cut → IsWrong bytes cut (errors.Fault fault) →
      Cause words contents old new Source
  no_cut : {form : Form} {bytes cut : List ℕ} → IsForm words form → ReadsSource contents form bytes cut →
      IsWrong bytes cut errors.NoSuchCut → Cause words contents old new Source
  bad_system : {form : Form} {bytes cut script : List ℕ} {c : CheckedSource} {n : ℕ} → IsForm words form →
      ReadsSource contents form bytes cut → ReadsSystem contents form script → IsAccepted bytes cut c →
      script_for c script ≡ Breaks n → Cause words contents old new System
  fault : {form : Form} {told : Told} {kind thread : ℕ} → IsForm words form → Records contents form told →
      told.ending ≡ endings.Fault kind thread → Cause words contents old new Fault
  breach : {form : Form} {told : Told} {kind thread addr : ℕ} {other : Option ℕ} → IsForm words form →
      Records contents form told → told.ending ≡ endings.Breach kind thread addr other →
      Cause words contents old new Breach
  halted : {form : Form} {told : Told} {why : Halt} → IsForm words form → Records contents form told →
      told.ending ≡ endings.Halted why → Cause words contents old new Halted
  short : {form : Form} {bytes : List ℕ} {part : Part} → IsForm words form → ReadsLog contents form bytes →
      IsLogPart bytes part → part.whole ≡ false → Cause words contents old new Short
  bad_log : {form : Form} {bytes fault : List ℕ} → IsForm words form → ReadsLog contents form bytes →
      IsBadLog bytes fault → Cause words contents old new BadLog
  no_file : (form : Form) (name : List ℕ) → IsForm words form → In name (inputs_of form) →
      contents name ≡ None → Cause words contents old new ReadFault
  read_fault : Rose old.files.read_faults new.files.read_faults → Cause words contents old new ReadFault
  write_fault : (t : Target) → Rose (faults_at t old) (faults_at t new) →
      Cause words contents old new WriteFault
  too_long : {form : Form} → IsForm words form → IsTooLong contents form →
      Cause words contents old new Limit
  too_large : {form : Form} {bytes cut : List ℕ} {limit : SourceLimit} → IsForm words form →
      ReadsSource contents form bytes cut → IsWrong bytes cut (errors.Limit limit) →
      Cause words contents old new Limit
  no_memory : Cause words contents old new NoMemory

-- the same for the contents of the files, where they tell them
abbrev pub IsCaused : List (List ℕ) → World → World → Status → Type 0
IsCaused words old new status = (contents : Contents) × AreOf old.files contents ×
    Cause words contents old new status
