-- What is put as an instruction.
use Rattle.std.specs.Prelude.{List, map, reverse}
use Rattle.c_code.specs.declared.instr.Instr.{Instr}
use Rattle.c_code.specs.declared.instr.Instr.TheVariants as instr
use Rattle.c_lower_bodies.specs.declared.step.Step.{Step}
use Rattle.c_lower_bodies.specs.declared.step.Step.TheVariants as steps

abbrev pub instr_in : Step → Instr
instr_in (steps.Instr i) = i
instr_in (steps.Call f n) = instr.Call f n
instr_in (steps.CallPointer sig n) = instr.CallPointer sig n

-- steps of which the last was put first
abbrev pub code_in : List Step → List Instr
code_in steps = reverse (map instr_in steps)
