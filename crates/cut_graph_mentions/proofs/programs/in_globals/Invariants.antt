use Rattle.std.proofs.Common.{◌≡◌, ◌++◌, drop, map}
use Rattle.c_types_program.specs.Declarations.{global_in}
use Rattle.cut_graph_rules.specs.Sources.{global_mentions}
use Rattle.cut_graph_mentions.proofs.programs.in_globals.Given as goal

abbrev pub invariant-loop-global : goal.invariant-loop-global
invariant-loop-global l =
    l.lists.items ++ map global_mentions (map (global_in l.table) (drop l.global-index l.globals))
    ≡ map global_mentions (map (global_in l.table) l.globals)
