use Rattle.std.proofs.Common.{◌≡◌, drop}
use Rattle.replay_runs.specs.Checks.{Done, mode_checks}
use Rattle.whole_runs.specs.World.{World, interface}
use Rattle.reference_recorder_findings.proofs.Lists.{FindsFor}
use Rattle.reference_recorder_uses.proofs.running.modes.Given as goal

abbrev pub invariant-loop-func : goal.invariant-loop-func
invariant-loop-func l = (w : World) → w.laid.placed ≡ l.placed →
    FindsFor (mode_checks (interface w) l.side (drop l.func-index l.funcs) Done) (mode_checks (interface w) l.side l.funcs Done)
