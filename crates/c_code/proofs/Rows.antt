-- The marks of small programs, computed.
use Rattle.std.proofs.Common.{◌≡◌, true, List, [], ◌∷◌, Some, None, refl}
use Rattle.marks.specs.declared.side.Side.TheVariants.{Replay}
use Rattle.marks.specs.Marks.{Mark, Act, Load, Store, Enter, Leave}
use Rattle.marks.specs.Wants.{answer_to}
use Rattle.r2_num.specs.declared.kinds.IntKind.TheVariants.{I16, I32}
use Rattle.r2_num.specs.declared.operations.Op.TheVariants.{Add}
use Rattle.c_code.specs.declared.shape.Shape.TheVariants.{Int}
use Rattle.c_code.specs.declared.code.FuncInfo.{FuncInfo}
use Rattle.c_code.specs.declared.instr.Push.TheVariants.{Number, Local, Global}
use Rattle.c_code.specs.declared.instr.Combine.TheVariants.{Arith}
use Rattle.c_code.specs.declared.instr.Instr.{Instr}
use Rattle.c_code.specs.declared.instr.Instr.TheVariants as instr
use Rattle.c_code.specs.Machine.{Laid}
use Rattle.c_code.specs.MarkLists.{Split, mark_lists, Ended, reply}

main : FuncInfo
main = record { name = []; params = []; result = Int I32; sig = 1; frame = 16; entry = Some 0 }

-- `g += g++; return g;`
body : List Instr
body =
    instr.Push (Global 0) ∷ instr.LoadKeep I32 (Some 0)
    ∷ instr.Push (Global 0) ∷ instr.LoadKeep I32 (Some 0) ∷ instr.StoreStep I32 1 true (Some 0)
    ∷ instr.Combine (Arith Add I32) ∷ instr.Store I32 (Some 0) ∷ instr.Drop
    ∷ instr.Push (Global 0) ∷ instr.Load I32 (Some 0) ∷ instr.Finish ∷ []

program : Laid
program = record {
  code = record { builtins = []; sources = main ∷ []; instrs = body };
  placed = record { globals = record { addr = 0x10000000; init = 0 ∷ 0 ∷ 0 ∷ 0 ∷ [] } ∷ []; strings = []; replay = []; system = []; faces = [] };
}

mark : Act → Mark
mark act = record { thread = 0; side = Replay; index = 0; act = act }

marks : List Mark
marks =
    mark (Enter 16 [] 0x20000000 (0 ∷ 0 ∷ 0 ∷ 0 ∷ 0 ∷ 0 ∷ 0 ∷ 0 ∷ 0 ∷ 0 ∷ 0 ∷ 0 ∷ 0 ∷ 0 ∷ 0 ∷ 0 ∷ []))
    ∷ mark (Load (Some 0) 0x10000000 (0 ∷ 0 ∷ 0 ∷ 0 ∷ []))
    ∷ mark (Load (Some 0) 0x10000000 (0 ∷ 0 ∷ 0 ∷ 0 ∷ []))
    ∷ mark (Store (Some 0) 0x10000000 (1 ∷ 0 ∷ 0 ∷ 0 ∷ []))
    ∷ mark (Store (Some 0) 0x10000000 (0 ∷ 0 ∷ 0 ∷ 0 ∷ []))
    ∷ mark (Load (Some 0) 0x10000000 (0 ∷ 0 ∷ 0 ∷ 0 ∷ []))
    ∷ mark (Leave 0x20000000 16) ∷ []

computes : mark_lists Split program Replay 16 [] marks ≡ Ended 0
unfolding reply answer_to main body program mark marks
computes = refl

first : FuncInfo
first = record { name = []; params = []; result = Int I32; sig = 1; frame = 16; entry = Some 0 }

-- `short x = 70000; return x;`, where x lies after 4 bytes: no address waits below the first value, of which two bytes are stored
local : List Instr
local = instr.Push (Number 70000) ∷ instr.StoreLocal I16 4 ∷ instr.Push (Local 4) ∷ instr.Load I16 None ∷ instr.Finish ∷ []

locals : Laid
locals = record {
  code = record { builtins = []; sources = first ∷ []; instrs = local };
  placed = record { globals = []; strings = []; replay = []; system = []; faces = [] };
}

local_marks : List Mark
local_marks =
    mark (Enter 16 [] 0x20000000 (0 ∷ 0 ∷ 0 ∷ 0 ∷ 0 ∷ 0 ∷ 0 ∷ 0 ∷ 0 ∷ 0 ∷ 0 ∷ 0 ∷ 0 ∷ 0 ∷ 0 ∷ 0 ∷ []))
    ∷ mark (Store None 0x20000004 (112 ∷ 17 ∷ [])) ∷ mark (Load None 0x20000004 (112 ∷ 17 ∷ [])) ∷ mark (Leave 0x20000000 16) ∷ []

stores_a_local : mark_lists Split locals Replay 16 [] local_marks ≡ Ended 4464
unfolding reply answer_to first local locals mark local_marks
stores_a_local = refl
