use Rattle.c_types_initializers.proofs.Starts.{expr_inside}
use Rattle.c_types_initializers.proofs.Written.{plain_is, plain_open}
use Rattle.c_types_initializers.proofs.initials.start_of_value.Goals as goal

pub expr-requires : goal.expr-requires
expr-requires c =
    let N = c.args.tree.now in
    let v = c.args.value.now in
    record { inside = expr_inside N c.in-Plain.id (plain_is N v c.in-Plain.id c.requires (plain_open v c.in-Plain.id c.in-Plain.is)) }
