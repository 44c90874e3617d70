-- The stages of a recording that follow those of the source.
use Rattle.std.specs.Prelude.{◌≡◌, ℕ, List, ◌++◌, codes, decimal}
use Rattle.c_code.specs.Machine.{Flat}
use Rattle.sys_script.specs.Externals.{external_in}
use Rattle.sys_script_lines.specs.Scripts.{Breaks, Reads, SaidSoFar, Script, script_of}
use Rattle.front_end.specs.declared.source.CheckedSource.{CheckedSource}
use Rattle.front_end.specs.Answers.{IsAccepted}
use Rattle.whole_runs.specs.Recorded.{Told}
use Rattle.r2_cli_outcome.specs.declared.status.Status.TheVariants.{System}
use Rattle.r2_cli_outcome.specs.Outcome.{Outcome, refusal}
use Rattle.r2_cli_outcome.specs.Stages.{Answer, ended, passed}
use Rattle.recorded_outcome.specs.Recorded.{IsRecordingOf, recorded}

-- what the bytes of a system file say of the functions of a source
abbrev pub script_for : CheckedSource → List ℕ → Script
script_for c bytes = script_of (external_in c.program c.interface) bytes

-- the words that name the first wrong line of a system file
abbrev pub line_words : ℕ → List ℕ
line_words n = codes "system line " ++ decimal n

-- the bytes of a system file are passed on where each line says something that it may say of an accepted source;
-- else the first that doesn't is named
pub data SystemOf (cut bytes script : List ℕ) : Answer (List ℕ) → Type 0 where
  wrong : {c : CheckedSource} {n : ℕ} → IsAccepted bytes cut c → script_for c script ≡ Breaks n →
      SystemOf cut bytes script (ended (refusal System (line_words n)))
  right : {c : CheckedSource} {s : SaidSoFar} → IsAccepted bytes cut c → script_for c script ≡ Reads s →
      SystemOf cut bytes script (passed script)

-- what recording a run of the source by the system file comes to
pub data RecordingOf (log rep cut bytes script : List ℕ) : Answer Outcome → Type 0 where
  recorded_as : {code : Flat} {told : Told} → IsRecordingOf bytes cut script code told →
      RecordingOf log rep cut bytes script (passed (recorded log rep code told))
