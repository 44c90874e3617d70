use Rattle.std.proofs.Common.{◌≡◌, map, drop}
use Rattle.c_types_rules.specs.Limits.{all_keep, small_frame}
use Rattle.c_types_rules.specs.Sources.{Program}
use Rattle.c_types_program.specs.Declarations.{function_in}
use Rattle.c_types.proofs.limits.small_frames.Given as goal

abbrev pub invariant-loop-function : goal.invariant-loop-function
invariant-loop-function l =
    (p : Program) → p.structs ≡ l.env.env.structs → all_keep (small_frame p) (map (function_in l.env.table) l.functions) ≡ all_keep (small_frame p) (drop l.function-index (map (function_in l.env.table) l.functions))
