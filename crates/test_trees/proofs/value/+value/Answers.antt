use Rattle.std.proofs.Common.{rules, arith, subst, sym}
use Rattle.c_syntax.specs.declared.declaration.Value.{Value}
use Rattle.test_trees.specs.Parts.{ValueFits, AreValues}
use Rattle.test_trees.proofs.Fits.{plain_fits, braces_fit}
use Rattle.test_trees.proofs.Members.{value_among}
use Rattle.test_trees.proofs.value.+value.Goals as goal

pub show_value-show_expr-requires : goal.show_value-show_expr-requires
show_value-show_expr-requires t c = plain_fits c.args.tree.now c.args.value.now c.in-Plain.id c.requires c.in-Plain.is

pub show_value-show_values-requires : goal.show_value-show_values-requires
show_value-show_values-requires t c = (
  search rules,
  subst (AreValues c.args.tree.now) (sym c.as_slice.ensures.value) (braces_fit c.args.tree.now c.args.value.now c.in-Braces.from c.in-Braces.values c.requires c.in-Braces.is),
)

pub show_values-show_value-requires : goal.show_values-show_value-requires
show_values-show_value-requires t c =
    let v = c.value-item.result in (
      search rules,
      subst (λ (w : Value). ValueFits c.args.tree.now w) (sym c.value-item.is) (value_among c.args.tree.now c.args.values.now c.loop-value.value-index v (omega arith) c.requires),
    )
