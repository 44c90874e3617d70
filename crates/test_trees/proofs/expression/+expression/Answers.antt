use Rattle.std.proofs.Common.{rules, arith, get_or, subst, sym}
use Rattle.c_syntax.specs.declared.declaration.Annot.{Annot}
use Rattle.c_syntax.specs.declared.declaration.Item.{Item}
use Rattle.c_syntax.specs.declared.declaration.Part.{Part}
use Rattle.test_trees.specs.Parts.{KindFits, ItemFits, AreItems}
use Rattle.test_trees.proofs.Members.{expr_among, decl_among, part_among, item_among, annot_among}
use Rattle.test_trees.proofs.expression.+expression.Goals as goal

pub show_declarators-show_declarator-requires : goal.show_declarators-show_declarator-requires
show_declarators-show_declarator-requires t c = (search rules, decl_among c.args.tree.now c.args.ids.now c.loop-id.id-index (record { 0 = 0 }) (omega arith) c.requires)

pub show_exprs-show_expr-requires : goal.show_exprs-show_expr-requires
show_exprs-show_expr-requires t c = (search rules, expr_among c.args.tree.now c.args.ids.now c.loop-id.id-index (record { 0 = 0 }) (omega arith) c.requires)

pub show_parts-show_part-requires : goal.show_parts-show_part-requires
show_parts-show_part-requires t c =
    let v = c.part-item.result in (
      search rules,
      subst (λ (w : Part). KindFits c.args.tree.now w.kind) (sym c.part-item.is) (part_among c.args.tree.now c.args.parts.now c.loop-part.part-index v (omega arith) c.requires),
    )

pub show_annots-show_items-requires : goal.show_annots-show_items-requires
show_annots-show_items-requires t c =
    let v = c.annot-item.result in (
      search rules,
      subst (AreItems c.args.tree.now) (sym c.as_slice-in-loop-annot.ensures.items) (subst (λ (w : Annot). AreItems c.args.tree.now w.items) (sym c.annot-item.is) (annot_among c.args.tree.now c.args.annots.now c.loop-annot.annot-index v (omega arith) c.requires)),
    )

pub show_items-show_item-requires : goal.show_items-show_item-requires
show_items-show_item-requires t c =
    let v = c.item-item.result in (
      search rules,
      subst (λ (w : Item). ItemFits c.args.tree.now w) (sym c.item-item.is) (item_among c.args.tree.now c.args.items.now c.loop-item.item-index v (omega arith) c.requires),
    )
