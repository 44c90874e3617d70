use Rattle.std.proofs.Common.{ℕ, List, Ok, Err, subst}
use Rattle.sys_script_lines.specs.declared.error.ScriptError.{ScriptError}
use Rattle.sys_script_lines.specs.Scripts.{IsRead}
use Rattle.r2_cli_outcome.specs.Plans.{gives, ends}
use Rattle.recorded_outcome.specs.Stages.{script_for}
use Rattle.recorded_outcome.proofs.SystemLemmas.{system_read, system_refused}
use Rattle.recorded_outcome.proofs.system.system_of.Goals as goal

pub returns-in-Ok-clause-read : goal.returns-in-Ok-clause-read
returns-in-Ok-clause-read c = subst (λ (w : List ℕ). IsRead (script_for c.args.source.now w) (Ok c.in-Ok.file)) c.deref.ensures.value c.in-Ok.ensures

pub returns-in-Ok-clause-answers : goal.returns-in-Ok-clause-answers
returns-in-Ok-clause-answers c = λ text cut accepted.
    gives (system_read c.args.source.now text cut c.args.bytes.items c.in-Ok.file
    (subst (λ (w : List ℕ). IsRead (script_for c.args.source.now w) (Ok c.in-Ok.file)) c.deref.ensures.value c.in-Ok.ensures) accepted)

pub returns-in-Err-Line-clause-answers : goal.returns-in-Err-Line-clause-answers
returns-in-Err-Line-clause-answers c = λ text cut accepted.
    ends (system_refused c.args.source.now text cut c.args.bytes.items c.in-Err-Line.number _ _ _
    (subst (λ (e : ScriptError). IsRead (script_for c.args.source.now c.args.bytes.items) (Err e)) c.in-Err-Line.field-0-is
    (subst (λ (w : List ℕ). IsRead (script_for c.args.source.now w) (Err c.in-Err-Line.field-0)) c.deref.ensures.value c.in-Err-Line.ensures)) accepted c.wrong_line.ensures)

pub returns-clause-answers : goal.returns-clause-answers
returns-clause-answers c = λ text cut accepted. ends tt
