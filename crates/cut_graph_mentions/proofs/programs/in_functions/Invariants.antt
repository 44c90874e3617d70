use Rattle.std.proofs.Common.{◌≡◌, ◌++◌, drop, map}
use Rattle.c_types_program.specs.Declarations.{function_in}
use Rattle.cut_graph_rules.specs.Sources.{function_mentions}
use Rattle.cut_graph_mentions.proofs.programs.in_functions.Given as goal

abbrev pub invariant-loop-function : goal.invariant-loop-function
invariant-loop-function l =
    l.lists.items ++ map (λ f. function_mentions f.body) (map (function_in l.table) (drop l.function-index l.functions))
    ≡ map (λ f. function_mentions f.body) (map (function_in l.table) l.functions)
