use Rattle.std.proofs.Common.{◌+◌, length}
use Rattle.cut_graph_paths.specs.Searches.{unmarked}
use Rattle.cut_graph_paths.proofs.Paths.{IsSearch}
use Rattle.cut_graph_paths.proofs.search.reached.Given as goal

abbrev pub invariant-loop-vertex : goal.invariant-loop-vertex
invariant-loop-vertex l = IsSearch l.graph l.from l.marks.items l.todo.items

abbrev pub decreases-loop-vertex : goal.decreases-loop-vertex
decreases-loop-vertex l = unmarked l.marks.items + length l.todo.items
