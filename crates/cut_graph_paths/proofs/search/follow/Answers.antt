use Rattle.std.proofs.Common.{arith}
use Rattle.std.specs.Prelude.{slice_index_or}
use Rattle.std.proofs.lemmas.List.Elements.{Contains-get_or}
use Rattle.cut_graph_paths.proofs.Marks.{one_more}
use Rattle.cut_graph_paths.proofs.search.follow.Goals as goal

pub mark-requires : goal.mark-requires
mark-requires c =
    let es = c.args.edges.now in
    let inside = c.requires (slice_index_or es c.loop-to.to-index 0) (Contains-get_or es c.loop-to.to-index 0 (omega arith)) in
    omega (arith, c.loop-to.invariant.size, inside)

pub loop-to-preserved : goal.loop-to-preserved
loop-to-preserved c = one_more c.args.edges.now c.loop-to.to-index (omega arith) c.loop-to.invariant c.in_ok-mark.ensures
