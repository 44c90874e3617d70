use Rattle.std.proofs.Common.{◌≡◌, ◌++◌, take}
use Rattle.cut_graph_modes.specs.Edges.{rows_of}
use Rattle.cut_graph_modes.proofs.graph.put_rows.Given as goal

abbrev pub invariant-loop-mentions : goal.invariant-loop-mentions
invariant-loop-mentions l = l.graph.items ≡ l.fn.graph.items ++ rows_of l.naming l.faces (take l.mentions-index l.lists)
