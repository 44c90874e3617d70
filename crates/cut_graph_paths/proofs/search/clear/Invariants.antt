use Rattle.cut_graph_paths.specs.Searches.{IsClear}
use Rattle.cut_graph_paths.proofs.search.clear.Given as goal

abbrev pub invariant-loop-row : goal.invariant-loop-row
invariant-loop-row l = IsClear l._row l.marks.items
