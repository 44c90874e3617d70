use Rattle.c_types_initializers.proofs.Starts.{expr_inside}
use Rattle.c_types_initializers.proofs.strings.string_initial.Goals as goal

pub expr-expr-requires : goal.expr-expr-requires
expr-expr-requires c = record { inside = expr_inside c.args.tree.now c.args.id c.requires.id }
