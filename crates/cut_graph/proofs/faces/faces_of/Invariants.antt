use Rattle.cut_graph.specs.Faces.{AreFaces}
use Rattle.cut_graph.proofs.faces.faces_of.Given as goal

abbrev pub invariant-loop-number : goal.invariant-loop-number
invariant-loop-number l = AreFaces l.iface l.number l.faces.items
