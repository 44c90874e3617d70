use Rattle.std.proofs.Common.{◌≡◌, drop, map}
use Rattle.c_types_program.specs.Declarations.{function_in}
use Rattle.c_lower.specs.Depths.{first_wide, functions_in}
use Rattle.c_lower.proofs.wide.first_wide.Given as goal

abbrev pub invariant-loop-place : goal.invariant-loop-place
invariant-loop-place l = first_wide l.place (map (function_in l.program.table) (drop l.place l.program.functions)) ≡ first_wide 0 (functions_in l.program)
