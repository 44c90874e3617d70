-- What reading a system file comes to.
use Rattle.std.proofs.Common.{◌≡◌, ℕ, List, Ok, Err, refl, sym, ap}
use Rattle.system_side.specs.declared.file.SysFile.{SysFile}
use Rattle.sys_script_lines.specs.declared.error.ScriptError.TheVariants.{Line}
use Rattle.sys_script_lines.specs.Scripts.{Breaks, IsRead, Reads, SaidSoFar, Script}
use Rattle.front_end.specs.declared.source.CheckedSource.{CheckedSource}
use Rattle.front_end.specs.Answers.{IsAccepted}
use Rattle.r2_cli_outcome.specs.declared.plan.End.{End}
use Rattle.r2_cli_outcome.specs.declared.status.Status.TheVariants.{System}
use Rattle.r2_cli_outcome.specs.Outcome.{refusal}
use Rattle.r2_cli_outcome.specs.Plans.{EndsAs, IsEnd}
use Rattle.r2_cli_outcome.specs.Stages.{passed}
use Rattle.r2_cli_outcome.proofs.StageLemmas.{is_refused}
use Rattle.recorded_outcome.specs.Stages.{SystemOf, line_words, right, script_for, wrong}

reads_all : (s : Script) (f : SysFile) → IsRead s (Ok f) → (t : SaidSoFar) × (s ≡ Reads t)
reads_all (Reads t) f h = (t, refl)
reads_all (Breaks n) f h = absurd h

breaks_at : (s : Script) (n : ℕ) → IsRead s (Err (Line n)) → s ≡ Breaks n
breaks_at (Reads t) n h = absurd h
breaks_at (Breaks m) n h = ap Breaks (sym h)

pub system_read : (c : CheckedSource) (text cut script : List ℕ) (f : SysFile) → IsRead (script_for c script) (Ok f) → IsAccepted text cut c → SystemOf cut text script (passed script)
system_read c text cut script f h a = let all = reads_all (script_for c script) f h in right a all.1

pub system_refused : (c : CheckedSource) (text cut script : List ℕ) (n x y : ℕ) (end : End) → IsRead (script_for c script) (Err (Line n)) → IsAccepted text cut c → IsEnd (refusal System (line_words n)) end
    → EndsAs (SystemOf cut text script) x y end
system_refused c text cut script n x y end h a is = is_refused (SystemOf cut text script) (refusal System (line_words n)) x y end (wrong a (breaks_at (script_for c script) n h)) is
