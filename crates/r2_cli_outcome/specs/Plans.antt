-- The plans and ends of the code, as outcomes and answers.
use Rattle.std.specs.Prelude.{◌≡◌, ℕ, List, map, string_bytes, Result, Ok, Err}
use Rattle.r2_base.specs.Causes.{Rose}
use Rattle.event_texts.specs.EventTexts.{order_text}
use Rattle.call_inspector.specs.ReportText.{report_text}
use Rattle.r2_cli_outcome.specs.declared.plan.Target.{Target}
use Rattle.r2_cli_outcome.specs.declared.plan.Target.TheVariants as target
use Rattle.r2_cli_outcome.specs.declared.plan.Text.{Text}
use Rattle.r2_cli_outcome.specs.declared.plan.Text.TheVariants.{Bytes, Order, Report}
use Rattle.r2_cli_outcome.specs.declared.plan.Write.{Write}
use Rattle.r2_cli_outcome.specs.declared.plan.Plan.{Plan}
use Rattle.r2_cli_outcome.specs.declared.plan.End.{End}
use Rattle.r2_cli_outcome.specs.declared.plan.End.TheVariants.{Planned, ReadFault, NoMemory}
use Rattle.r2_cli_outcome.specs.Outcome as outcome
use Rattle.r2_cli_outcome.specs.Outcome.{Outcome}
use Rattle.r2_cli_outcome.specs.Stages.{Answer, Stage, passed, ended}

abbrev pub target_of : Target → outcome.Target
target_of (target.File name) = outcome.file (string_bytes name)
target_of target.Output = outcome.out
target_of target.Errors = outcome.err

-- the bytes of a text, also of one that is made only as it is written
abbrev pub bytes_of : Text → List ℕ
bytes_of (Bytes bytes) = bytes.items
bytes_of (Order part) = order_text part.events
bytes_of (Report ran) = report_text ran.run ran.code

abbrev pub write_of : Write → outcome.Write
write_of w = record { to = target_of w.to; text = bytes_of w.text }

abbrev pub outcome_of : Plan → Outcome
outcome_of plan = record {
  status = plan.status;
  writes = map write_of plan.writes.items;
  line =
      plan.line.items;
}

-- the end of a stage's code: that of the stage, or one that the outside made
abbrev pub EndsAs : {A : Type 0} → Stage A → (read_faults read_faults_now : ℕ) → End → Type 0
EndsAs stage r s (Planned plan) = stage (ended (outcome_of plan))
EndsAs stage r s ReadFault = Rose r s
EndsAs stage r s NoMemory = Unit {0}

-- what the code of a stage answers: a value, as the view shows it, or an end
pub data Answers {T A : Type 0} (view : T → A) (stage : Answer A →
    Type 0) (read_faults read_faults_now : ℕ) : Result T End → Type 0 where
  gives : {x : T} → stage (passed (view x)) → Answers view stage read_faults read_faults_now (Ok x)
  ends : {end : End} → EndsAs stage read_faults read_faults_now end →
      Answers view stage read_faults read_faults_now (Err end)

-- the plan is one of these outcomes, or the outside ended the command before there was one
pub data IsPlanned (answers : Outcome → Type 0) (read_faults read_faults_now : ℕ) : Result Plan End →
    Type 0 where
  whole : {plan : Plan} → answers (outcome_of plan) →
      IsPlanned answers read_faults read_faults_now (Ok plan)
  refused : {plan : Plan} → answers (outcome_of plan) →
      IsPlanned answers read_faults read_faults_now (Err (Planned plan))
  unread : Rose read_faults read_faults_now → IsPlanned answers read_faults read_faults_now (Err ReadFault)
  no_memory : IsPlanned answers read_faults read_faults_now (Err NoMemory)

-- the end is this outcome, or there was no memory for its line
abbrev pub IsEnd : Outcome → End → Type 0
IsEnd o (Planned plan) = outcome_of plan ≡ o
IsEnd o ReadFault = ⊥
IsEnd o NoMemory = Unit {0}
