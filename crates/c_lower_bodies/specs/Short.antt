-- Which numbers an instruction has room for.
use Rattle.std.specs.Prelude.{ℕ, ◌<◌, ◌^◌}
use Rattle.c_code.specs.declared.instr.Instr.{Instr}
use Rattle.c_code.specs.declared.instr.Instr.TheVariants as instr

-- a function has a number of 16 bits, and a call fewer than 256 arguments
abbrev pub IsShort : Instr → Type 0
IsShort (instr.Push what) = Unit {0}
IsShort (instr.Load k o) = Unit {0}
IsShort (instr.LoadKeep k o) = Unit {0}
IsShort (instr.Store k o) = Unit {0}
IsShort (instr.StoreLocal k offset) = Unit {0}
IsShort (instr.StoreStep k by old o) = Unit {0}
IsShort (instr.Change how) = Unit {0}
IsShort (instr.Combine how) = Unit {0}
IsShort (instr.EndIfZero n) = Unit {0}
IsShort (instr.EndUnlessZero n) = Unit {0}
IsShort (instr.SkipIfZero n) = Unit {0}
IsShort (instr.GoOn n) = Unit {0}
IsShort instr.Turn = Unit {0}
IsShort (instr.GoBack n) = Unit {0}
IsShort (instr.Call f n) = (f < 2 ^ 16) × (n < 2 ^ 8)
IsShort (instr.CallPointer sig n) = n < 2 ^ 8
IsShort instr.Drop = Unit {0}
IsShort instr.Finish = Unit {0}
