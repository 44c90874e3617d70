use Rattle.std.proofs.Common.{refl, arith}
use Rattle.cut_advisor.specs.CutNodes.{names_by_annot, names_by_annots, texts_of}
use Rattle.cut_advisor.proofs.CutLists.{next}
use Rattle.cut_advisor.proofs.put.put_annots.Goals as goal

pub loop-annot-preserved : goal.loop-annot-preserved
loop-annot-preserved c =
    next names_by_annot names_by_annots (λ x ys. refl) c.args.annots.now c.annot-item.result (texts_of c.loop-annot.names.keys) (texts_of c.put_annot.new.names.keys) _ c.loop-annot.annot-index (omega arith) c.annot-item.is c.in_ok-put_annot.ensures c.loop-annot.invariant
