use Rattle.std.proofs.Common.{◌≡◌, take}
use Rattle.std.specs.List.{flat_map}
use Rattle.cut_graph_modes.specs.Edges.{target}
use Rattle.cut_graph_modes.proofs.graph.row.Given as goal

abbrev pub invariant-loop-mention : goal.invariant-loop-mention
invariant-loop-mention l = l.edges.items ≡ flat_map (target l.naming l.faces) (take l.mention-index l.mentions)
