-- Whose annotations they are.
use Rattle.std.specs.Prelude.{◌≡◌}
use Rattle.whole_runs.specs.World.{World}
use Rattle.reference_recorder_targets.specs.declared.annotations.Annotations.{Annotations}

-- the code of the world and its stubs
pub record AreOf (w : World) (a : Annotations) : Type 0 where
  pub code : w.laid.code ≡ a.code.now
  pub stubs : w.stubs ≡ a.stubs.now
