use Rattle.std.proofs.Common.{◌+◌, List, Bool, sym, subst}
use Rattle.cut_graph.specs.Faces.{AreFaces}
use Rattle.cut_graph.proofs.Flagged.{one_more}
use Rattle.cut_graph.proofs.faces.faces_of.Goals as goal

pub loop-number-preserved : goal.loop-number-preserved
loop-number-preserved c =
    let i = c.args.iface.now in
    let n = c.loop-number.number in
    subst (λ (bs : List Bool). AreFaces i (n + 1) bs) (sym c.in_ok-push.ensures.items) (one_more i n c.loop-number.faces.items c.is_face-is_one.result c.loop-number.invariant c.is_face-is_one.ensures)
