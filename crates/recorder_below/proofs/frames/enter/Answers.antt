use Rattle.std.proofs.Common.{refl}
use Rattle.recorder_memory.specs.Below.{Plainly}
use Rattle.recorder_below.proofs.frames.enter.Goals as goal

pub frame-requires : goal.frame-requires
frame-requires c = record { how = Plainly c.args.indirect; named_is = refl; at = c.requires; plain = λ e. absurd cc }
