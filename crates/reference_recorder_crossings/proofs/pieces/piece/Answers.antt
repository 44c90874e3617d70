use Rattle.std.proofs.Common.{Some, None, IfOk, sym, subst}
use Rattle.marks.specs.declared.fault.FaultKind.TheVariants.{NotLive}
use Rattle.replay_runs.specs.Checks.{Done}
use Rattle.whole_runs.specs.Tests.{piece_check}
use Rattle.reference_recorder_targets.specs.declared.places.Target.{Target}
use Rattle.reference_recorder_targets.specs.Places.{target_of}
use Rattle.reference_recorder_findings.specs.declared.finding.Finding.TheVariants.{Fault}
use Rattle.reference_recorder_findings.specs.Findings.{IsFound}
use Rattle.reference_recorder_crossings.proofs.PieceChecks.{missing}
use Rattle.reference_recorder_crossings.proofs.pieces.piece.Goals as goal

pub returns-in-To : goal.returns-in-To
returns-in-To c = λ w p h.
    subst (λ (x : Target). IfOk c.written_to.result (IsFound (piece_check w p c.args.thread (target_of x) c.args.answer.now Done))) (sym c.in-To.is) (c.written_to.ensures w p h)

pub returns-in-Nowhere : goal.returns-in-Nowhere
returns-in-Nowhere c = λ w p h.
    subst (λ (x : Target). IsFound (piece_check w p c.args.thread (target_of x) c.args.answer.now Done) None) (sym c.in-Nowhere.is) tt

pub returns-in-Missing : goal.returns-in-Missing
returns-in-Missing c = λ w p h.
    subst (λ (x : Target). IsFound (piece_check w p c.args.thread (target_of x) c.args.answer.now Done) (Some (Fault NotLive))) (sym c.in-Missing.is) (missing w p c.args.thread c.args.answer.now)
