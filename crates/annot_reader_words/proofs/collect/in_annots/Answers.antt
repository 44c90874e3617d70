use Rattle.std.proofs.Common.{refl, arith}
use Rattle.c_syntax_laws.specs.Named.{by_items, by_annots}
use Rattle.c_syntax.specs.declared.declaration.Annot.{Annot}
use Rattle.annot_reader_words.proofs.Loops.{next}
use Rattle.annot_reader_words.proofs.collect.in_annots.Goals as goal

pub loop-annot-preserved : goal.loop-annot-preserved
loop-annot-preserved c =
    next (λ (a : Annot). by_items a.items) by_annots (λ x ys. refl) c.args.annots.now c.annot-item.result c.loop-annot.held.items c.in_items.new.held.items _ c.loop-annot.annot-index (omega arith) c.annot-item.is (cc (c.in_ok-in_items.ensures, c.as_slice.ensures.items)) c.loop-annot.invariant
