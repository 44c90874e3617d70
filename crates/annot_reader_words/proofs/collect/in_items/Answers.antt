use Rattle.std.proofs.Common.{refl, arith}
use Rattle.c_syntax_laws.specs.Named.{by_item, by_items}
use Rattle.annot_reader_words.proofs.Loops.{next}
use Rattle.annot_reader_words.proofs.collect.in_items.Goals as goal

pub loop-item-preserved : goal.loop-item-preserved
loop-item-preserved c =
    next by_item by_items (λ x ys. refl) c.args.items.now c.item-item.result c.loop-item.held.items c.in_item.new.held.items _ c.loop-item.item-index (omega arith) c.item-item.is c.in_ok-in_item.ensures c.loop-item.invariant
