use Rattle.std.proofs.Common.{◌≡◌, map, drop}
use Rattle.c_types_rules.specs.Limits.{all_keep, few_params}
use Rattle.c_types_program.specs.Declarations.{function_in}
use Rattle.c_types.proofs.limits.few_params.Given as goal

abbrev pub invariant-loop-function : goal.invariant-loop-function
invariant-loop-function l = all_keep few_params (map (function_in l.env.table) l.functions) ≡ all_keep few_params (drop l.function-index (map (function_in l.env.table) l.functions))
