use Rattle.std.proofs.Common.{refl, arith}
use Rattle.cut_graph_paths.proofs.Paths.{begun_at, followed_at, vertex_inside}
use Rattle.cut_graph_paths.proofs.search.reached.Goals as goal

pub follow-requires : goal.follow-requires
follow-requires c = λ k h. omega (arith, c.requires.from k h, c.in_ok-marks.ensures.size)

pub loop-vertex-init : goal.loop-vertex-init
loop-vertex-init c = begun_at refl c.new-todo.ensures.items c.in_ok-marks.ensures c.in_ok-follow.ensures

pub step-requires : goal.step-requires
step-requires c = record {
  graph = c.requires.graph;
  vertex = vertex_inside _ _ c.in-Some.ensures.items c.loop-vertex.invariant;
  size = c.loop-vertex.invariant.size;
}

pub loop-vertex-preserved : goal.loop-vertex-preserved
loop-vertex-preserved c = followed_at _ _ c.in-Some.ensures.items c.loop-vertex.invariant c.in_ok-step.ensures
