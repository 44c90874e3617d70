use Rattle.c_types_initializers.proofs.Starts.{expr_inside}
use Rattle.c_types_initializers.proofs.addresses.known_by.Goals as goal

pub expr-requires : goal.expr-requires
expr-requires c = record { inside = expr_inside c.args.tree.now c.args.id c.requires.id }
