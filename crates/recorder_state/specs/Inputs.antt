-- The world of what a recording is given.
use Rattle.std.specs.Prelude.{Bool, false, Option, Some, None}
use Rattle.c_code.specs.declared.code.FuncInfo.{FuncInfo}
use Rattle.c_machine.specs.Positions.{laid}
use Rattle.whole_runs.specs.World.{World, is_main}
use Rattle.recorder_state.specs.declared.inputs.Inputs.{Inputs}

abbrev pub world_of : Inputs → World
world_of i = record { laid = laid i.code.now i.placed.now; stubs = i.stubs.now; file = i.file.now }

-- the function is there, and is `main`
abbrev pub is_main_in : Option FuncInfo → Bool
is_main_in None = false
is_main_in (Some f) = is_main f
