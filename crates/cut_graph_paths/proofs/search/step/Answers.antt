use Rattle.std.proofs.Common.{arith}
use Rattle.std.proofs.lemmas.Result.{on_ok_weaker}
use Rattle.cut_graph_paths.proofs.Paths.{row_followed, row_within}
use Rattle.cut_graph_paths.proofs.search.step.Goals as goal

pub follow-requires : goal.follow-requires
follow-requires c = λ k h.
    let inside = row_within c.args.graph.now c.args.vertex k c.index-graph-vertex.result c.as_slice.result.now c.requires.vertex c.index-graph-vertex.is c.as_slice.ensures.items c.requires.graph h in
    omega (arith, c.requires.size)

pub returns : goal.returns
returns c =
    on_ok_weaker c.follow.result
    (λ e. row_followed c.args.graph.now c.args.vertex c.index-graph-vertex.result c.as_slice.result.now c.requires.vertex c.index-graph-vertex.is c.as_slice.ensures.items e)
    c.follow.ensures
