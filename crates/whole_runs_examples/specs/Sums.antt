-- Programs of one thread.
use Rattle.std.specs.Prelude.{false, ℕ, List, [], ◌∷◌, ◌++◌, Some, codes}
use Rattle.r2_num.specs.declared.kinds.IntKind.TheVariants.{I32}
use Rattle.r2_num.specs.declared.operations.Op.TheVariants.{Div}
use Rattle.marks.specs.Marks.{Act, Fault, Nowhere}
use Rattle.marks.specs.declared.fault.FaultKind.TheVariants.{Divide}
use Rattle.c_code.specs.declared.instr.Combine.TheVariants.{Arith}
use Rattle.c_code.specs.declared.instr.Instr.TheVariants as instr
use Rattle.stub_operations.specs.Examples.{saying}
use Rattle.system_side.specs.declared.file.SysFile.{SysFile}
use Rattle.whole_runs.specs.World.{World}
use Rattle.whole_runs_examples.specs.Worlds.{source, Face, Above, no_params, unused, world, answering, place, zeros, number, global, load_global, add, returning}

-- `int a = 2; int b = 3; int main(void) { return a + b; }`
abbrev pub summing : World
summing = world (source Above (no_params (codes "main") (Some 0)) ∷ unused ∷ [])
    (global 0 ∷ load_global 0 ∷ global 1 ∷ load_global 1 ∷ add ∷ instr.Finish ∷ [])
    (place 0x10000000 (2 ∷ 0 ∷ 0 ∷ 0 ∷ []) ∷ place 0x10000004 (3 ∷ 0 ∷ 0 ∷ 0 ∷ []) ∷ []) []
    (answering [])

-- its log: the head, a chunk of thread 0 with two records, the end
abbrev pub sum_log : List ℕ
sum_log =
    codes "R2LOG" ++ (1 ∷ [])
    ++ codes "C" ++ (0 ∷ 0 ∷ 2 ∷ [])
    ++ (3 ∷ 0 ∷ 0 ∷ 0 ∷ 0 ∷ 0 ∷ 0 ∷ 0 ∷ 1 ∷ 1 ∷ 3 ∷ 0 ∷ 0 ∷ 0 ∷ 0 ∷ 0 ∷ 0 ∷ 0 ∷ 16 ∷ 0 ∷ 0 ∷ 0 ∷ 0 ∷ 0 ∷
    16 ∷ 0 ∷ [])
    ++ (4 ∷ 0 ∷ 0 ∷ 0 ∷ 4 ∷ 0 ∷ 0 ∷ 0 ∷ 2 ∷ 1 ∷ 4 ∷ 0 ∷ 0 ∷ 0 ∷ 0 ∷ 0 ∷ 0 ∷ 0 ∷ 0 ∷ 0 ∷ 0 ∷ 0 ∷ 0 ∷ 0 ∷ 0
    ∷ 0 ∷ 0 ∷ 0 ∷ 0 ∷ 0 ∷ 5 ∷ [])
    ++ codes "E" ++ (0 ∷ 0 ∷ 0 ∷ 2 ∷ [])

-- `int zero; int main(void) { return 1 / zero; }`
abbrev pub dividing : SysFile → World
dividing file = world (source Above (no_params (codes "main") (Some 0)) ∷ unused ∷ [])
    (number 1 ∷ global 0 ∷ load_global 0 ∷ instr.Combine (Arith Div I32) ∷ instr.Finish ∷ [])
    (zeros 0x10000000 4 ∷ []) [] file

abbrev pub division : Act
division = Fault Divide false [] [] Nowhere

-- a system file without answers that has so many steps
abbrev pub within : (budget : ℕ) → SysFile
within budget = record (answering []) { budget = budget }

-- the same on a face: `int go(int n) { return 1 / n; } int main(void) { return go(0); }`, where n is the
-- global
abbrev pub dividing_below : World
dividing_below = world
    (source (Face (saying [])) (no_params (codes "go") (Some 0)) ∷ source Above (no_params (codes "main")
    (Some 5)) ∷ [])
    (number 1 ∷ global 0 ∷ load_global 0 ∷ instr.Combine (Arith Div I32) ∷ instr.Finish ∷ instr.Call 16 0
    ∷ instr.Finish ∷ [])
    (zeros 0x50000000 4 ∷ []) [] (answering [])

-- `int main(void) { return 0; }`
abbrev pub doing_nothing : (budget : ℕ) → World
doing_nothing budget = world (source Above (no_params (codes "main") (Some 0)) ∷ unused ∷ []) (returning
    0) [] [] (within budget)
