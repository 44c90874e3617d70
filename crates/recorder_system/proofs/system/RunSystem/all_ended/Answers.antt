use Rattle.std.proofs.Common.{sym, subst}
use Rattle.recorder_system.specs.Stands.{IsSystemOf}
use Rattle.recorder_system.proofs.Told.{tells_end}
use Rattle.recorder_system.proofs.system.RunSystem.all_ended.Goals as goal

pub returns : goal.returns
returns c = λ w past h. tells_end c.self.inside.running c.self.inside.system c.self.invariant w past (subst (IsSystemOf w past) (sym c.self.view_is) h)
