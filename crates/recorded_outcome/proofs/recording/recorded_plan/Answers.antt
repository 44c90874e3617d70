use Rattle.std.proofs.Common.{subst, sym}
use Rattle.std.proofs.lemmas.Result.{IfOk-weaker}
use Rattle.r2_cli_outcome.specs.Outcome.{Outcome}
use Rattle.r2_cli_outcome.specs.Stages.{passed}
use Rattle.recorded_outcome.specs.Stages.{RecordingOf, recorded_as}
use Rattle.recorded_outcome.proofs.recording.recorded_plan.Goals as goal

pub returns : goal.returns
returns c = λ bytes cut script accepted none read.
    IfOk-weaker c.plan.result _ _ (λ p e. subst (λ (o : Outcome). RecordingOf c.args.log.now c.args.rep.now cut bytes script (passed o)) (sym e)
    (recorded_as (c.in_ok-fused.ensures bytes cut script accepted none read))) c.plan.ensures
