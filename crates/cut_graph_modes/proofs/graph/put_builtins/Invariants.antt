use Rattle.std.proofs.Common.{◌≡◌, ◌++◌, []}
use Rattle.std.specs.Prelude.{replicate}
use Rattle.cut_graph_modes.proofs.graph.put_builtins.Given as goal

abbrev pub invariant-loop-builtin : goal.invariant-loop-builtin
invariant-loop-builtin l = l.graph.items ≡ l.fn.graph.items ++ replicate l._builtin []
