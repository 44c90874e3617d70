use Rattle.std.proofs.Common.{◌≡◌, map, drop}
use Rattle.c_types_rules.specs.Sources.{has_main}
use Rattle.c_types_nodes.specs.Tables.{Table}
use Rattle.c_types_program.specs.Declarations.{function_in}
use Rattle.c_types.proofs.whole.has_main.Given as goal

abbrev pub invariant-loop-function : goal.invariant-loop-function
invariant-loop-function l = (t : Table) → has_main (map (function_in t) l.functions) ≡ has_main (drop l.function-index (map (function_in t) l.functions))
