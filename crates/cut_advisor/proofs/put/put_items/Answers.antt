use Rattle.std.proofs.Common.{refl, arith}
use Rattle.cut_advisor.specs.CutNodes.{names_by_item, names_by_items, texts_of}
use Rattle.cut_advisor.proofs.CutLists.{next}
use Rattle.cut_advisor.proofs.put.put_items.Goals as goal

pub loop-item-preserved : goal.loop-item-preserved
loop-item-preserved c =
    next names_by_item names_by_items (λ x ys. refl) c.args.items.now c.item-item.result (texts_of c.loop-item.names.keys) (texts_of c.put_item.new.names.keys) _ c.loop-item.item-index (omega arith) c.item-item.is c.in_ok-put_item.ensures c.loop-item.invariant
