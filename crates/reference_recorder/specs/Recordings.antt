-- What is recorded, and what is told of it, in the words of `recorder`.
use Rattle.memory_map.specs.declared.placed.Placed.{Placed}
use Rattle.c_code.specs.Machine.{Flat}
use Rattle.c_machine.specs.Positions.{laid}
use Rattle.stub_operations.specs.Stubs.{Stubs}
use Rattle.system_side.specs.declared.file.SysFile.{SysFile}
use Rattle.whole_runs.specs.World.{World}
pub use Rattle.recorder_end.specs.Recorded.{told}

-- a code with the places of its objects, what is done at its calls, and a system file
abbrev pub world : Flat → Placed → Stubs → SysFile → World
world code placed stubs file = record { laid = laid code placed; stubs = stubs; file = file }
