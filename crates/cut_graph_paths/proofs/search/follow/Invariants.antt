use Rattle.std.proofs.Common.{take}
use Rattle.cut_graph_paths.specs.Searches.{IsFollowed}
use Rattle.cut_graph_paths.proofs.search.follow.Given as goal

abbrev pub invariant-loop-to : goal.invariant-loop-to
invariant-loop-to l = IsFollowed (take l.to-index l.edges) l.initial.marks.items l.initial.todo.items l.marks.items l.todo.items
