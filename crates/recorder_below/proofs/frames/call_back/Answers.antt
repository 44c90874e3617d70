use Rattle.std.proofs.Common.{refl}
use Rattle.recorder_memory.specs.Below.{ThroughPointer}
use Rattle.recorder_below.proofs.frames.call_back.Goals as goal

pub frame-requires : goal.frame-requires
frame-requires c = record { how = ThroughPointer; named_is = refl; at = c.requires.0; plain = λ e. c.requires.1 }
