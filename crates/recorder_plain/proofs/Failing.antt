-- A fault of the code itself is what its tests find.
use Rattle.std.proofs.Common.{◌≡◌, inl, ℕ, refl, sym, ap, ◌∙◌, arith}
use Rattle.marks.specs.declared.side.Side.{Side}
use Rattle.marks.specs.declared.side.Side.TheVariants.{Replay, System}
use Rattle.marks.specs.declared.fault.FaultKind.{FaultKind}
use Rattle.marks.specs.Marks.{Mark}
use Rattle.marks.specs.Kinds.{fault_number}
use Rattle.marks.specs.Wants.{Fails}
use Rattle.replay_runs.specs.Checks.{FaultFound, Finds}
use Rattle.steps_above_memory.specs.declared.refusal.StepRefusal.TheVariants as refusal
use Rattle.whole_runs.specs.World.{World}
use Rattle.whole_runs.specs.Tests.{tests}
use Rattle.std.specs.Prelude.{List}
use Rattle.recorder_threads.specs.declared.wants.Want.TheVariants as told
use Rattle.recorder_state.specs.declared.state.RunState.{RunState}
use Rattle.recorder_state.specs.declared.stop.Stop.{Stop}
use Rattle.recorder_state.specs.Ends.{IsRefused, IsStopped}
use Rattle.recorder_state.specs.Turns.{IsAtStep}
use Rattle.recorder_plain.proofs.Steps.{stops_before}

found : (w : World) (past : List Mark) (t : ℕ) (side : Side) (kind : FaultKind) → Finds (tests w past t side (Fails kind)) (FaultFound kind)
found w past t Replay kind = inl (0, (tt, λ y bad. omega arith), refl)
found w past t System kind = inl (0, (tt, λ y bad. omega arith), refl)

pub fails : (w : World) (s : RunState) (t : ℕ) (side : Side) (n : ℕ) (kind : FaultKind) (end : Stop) → ((k : FaultKind) → n ≡ fault_number k → kind ≡ k) → ((v : World) (m : RunState) → IsRefused v m t side (refusal.Fault kind) → IsStopped v m end) → IsAtStep w s t side (told.Fault n) → IsStopped w s end
fails w s t side n kind end is ends at =
    let same : kind ≡ at.told.0 = is at.told.0 at.told.2 in
    stops_before w s t side (told.Fault n) at (Fails kind) (at.told.1 ∙ ap Fails (sym same)) (refusal.Fault kind) end s.memory refl ends (found w at.reached.past t side kind)
