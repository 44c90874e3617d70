use Rattle.std.proofs.Common.{ap, ◌∙◌}
use Rattle.std.specs.Option.{ok_or}
use Rattle.c_types_rules.specs.Initials.{named_under_address}
use Rattle.c_types_nodes.specs.Tables.{node_at}
use Rattle.c_types_operators.specs.declared.error.TypeError.TheVariants.{Rule}
use Rattle.c_types_expressions.proofs.Starts.{start_is}
use Rattle.c_types_initializers.proofs.Scalars.{name_found, no_name_there}
use Rattle.c_types_initializers.proofs.Starts.{expr_inside}
use Rattle.c_types_initializers.proofs.known.address_in.Goals as goal

pub expr-requires : goal.expr-requires
expr-requires c = record { inside = expr_inside c.args.tree.now c.args.id c.requires.id }

pub returns-in-None-clause-agrees : goal.returns-in-None-clause-agrees
returns-in-None-clause-agrees c x h =
    let from = c.expr.result.now.from in
    name_found c.args.env.now x (node_at c.args.env.now.table c.args.node) c.known_by.result c.ok_or-in-None.result from (no_name_there c.args.tree.now (named_under_address x) (c.in-None.ensures.named x h)) (c.known_by.ensures x h)
    (λ k e. c.ok_or-in-None.ensures.value ∙ ap (λ o. ok_or o (Rule from 16)) e) (λ e. c.ok_or-in-None.ensures.value ∙ ap (λ o. ok_or o (Rule from 16)) e)
    (start_is c.args.tree.now c.args.id x c.expr.result.now h c.expr.ensures.node)
