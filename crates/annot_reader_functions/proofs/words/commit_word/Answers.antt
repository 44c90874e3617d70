use Rattle.std.proofs.Common.{sym, subst, arith}
use Rattle.c_syntax.specs.declared.declaration.Item.{Item}
use Rattle.annot_reader_functions.specs.Sizing.{IsItem}
use Rattle.annot_reader_functions.specs.Parameters.{AreItems}
use Rattle.annot_reader_functions.proofs.Composed.{item_at}
use Rattle.annot_reader_functions.proofs.words.commit_word.Goals as goal

pub size-requires-clause-item : goal.size-requires-clause-item
size-requires-clause-item c =
    let N = c.args.tree.now in
    let items = subst (λ vs. AreItems N vs) (sym c.as_slice.ensures.items) c.requires.items in
    subst (λ (v : Item). IsItem N v) (sym c.used-item.is) (item_at N c.as_slice.result.now 1 c.used-item.result items (omega (arith, c.in-len2.len_at_least)))
