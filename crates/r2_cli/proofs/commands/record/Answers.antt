use Rattle.std.proofs.Common.{arith}
use Rattle.r2_cli_outcome.specs.Plans.{gives}
use Rattle.r2_cli_outcome.proofs.StageLemmas.{handed_on, went_on, out_of_memory, reads_then, value_of}
use Rattle.r2_cli.proofs.CommandLemmas.{system_before}
use Rattle.r2_cli.proofs.SourceLemmas.{none_found}
use Rattle.r2_cli.proofs.commands.record.Goals as goal

pub system-requires : goal.system-requires
system-requires g c = c.accepted_sources_have_few_functions.ensures c.in_ok-accepted.accepted.bytes.items c.args.cut.now c.in_ok-accepted.accepted.source c.in_ok-accepted.ensures.accepted

pub recorded_plan-plan-requires : goal.recorded_plan-plan-requires
recorded_plan-plan-requires g c = (
  c.in_ok-accepted.accepted.bytes.items,
  c.args.cut.now,
  c.in_ok-system.system.bytes.items,
  c.in_ok-accepted.ensures.short,
  c.in_ok-accepted.ensures.accepted,
  none_found _ _ _ _ (value_of _ _ _ _ _ c.in_ok-accepted.ensures.answers),
  c.in_ok-system.ensures.read,
)

pub returns-in_err-accepted-clause-answers : goal.returns-in_err-accepted-clause-answers
returns-in_err-accepted-clause-answers g c = handed_on _ _ _ _ _ _ _ _ _ (omega arith) c.from_residual.ensures.1 c.in_err-accepted.ensures.answers

pub returns-in_err-system-clause-only : goal.returns-in_err-system-clause-only
returns-in_err-system-clause-only g c = reads_then _ _ _ c.in_ok-accepted.ensures.only c.in_err-system.ensures.only

pub returns-in_err-system-clause-answers : goal.returns-in_err-system-clause-answers
returns-in_err-system-clause-answers g c =
    went_on _ _ _ _ _ _ _ _ _ c.in_ok-accepted.ensures.only.later c.in_ok-accepted.ensures.answers
    (handed_on _ _ _ _ _ _ _ _ _ (omega arith) c.from_residual-in_err-system.ensures.1
    (system_before _ _ _ _ _ _ _ _ _ c.in_ok-accepted.ensures.only (c.in_err-system.ensures.answers _ _ c.in_ok-accepted.ensures.accepted)))

pub returns-in_err-plan-clause-answers : goal.returns-in_err-plan-clause-answers
returns-in_err-plan-clause-answers g c = out_of_memory _ _ _ _ _ c.from_residual-in_err-plan.ensures.1

pub returns-clause-answers : goal.returns-clause-answers
returns-clause-answers g c =
    let accepted = c.in_ok-accepted.ensures.accepted in
    let none = none_found _ _ _ _ (value_of _ _ _ _ _ c.in_ok-accepted.ensures.answers) in
    went_on _ _ _ _ _ _ _ _ _ c.in_ok-accepted.ensures.only.later c.in_ok-accepted.ensures.answers
    (went_on _ _ _ _ _ _ _ _ _ c.in_ok-system.ensures.only.later
    (system_before _ _ _ _ _ _ _ _ _ c.in_ok-accepted.ensures.only (c.in_ok-system.ensures.answers _ _ accepted))
    (gives (c.in_ok-plan.ensures _ _ _ accepted none c.in_ok-system.ensures.read)))
