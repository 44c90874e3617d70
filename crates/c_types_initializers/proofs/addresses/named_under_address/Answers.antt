use Rattle.c_types_initializers.proofs.Starts.{expr_inside}
use Rattle.c_types_initializers.proofs.Starts.{operand_is}
use Rattle.c_types_initializers.proofs.addresses.named_under_address.Goals as goal

pub expr-requires : goal.expr-requires
expr-requires c = record { inside = expr_inside c.args.tree.now c.args.id c.requires }

pub expr-requires-2 : goal.expr-requires-2
expr-requires-2 c =
    let N = c.args.tree.now in
    let operand = c.in-Prefix-Ampersand-default.operand in
    record { inside = expr_inside N operand (operand_is N c.args.id c.expr.result.now _ operand c.expr.ensures.node (c.in-Prefix-Ampersand-default.is) c.requires) }

pub returns-in-Name-clause-inside : goal.returns-in-Name-clause-inside
returns-in-Name-clause-inside c =
    let operand = c.in-Prefix-Ampersand-default.operand in
    operand_is c.args.tree.now c.args.id c.expr.result.now _ operand c.expr.ensures.node (c.in-Prefix-Ampersand-default.is) c.requires
