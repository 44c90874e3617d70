use Rattle.std.proofs.Common.{sym, ap, ◌∙◌}
use Rattle.c_syntax.specs.Syntax.{Name}
use Rattle.c_types_rules.specs.Expressions.{builtin_in}
use Rattle.c_types_expressions.proofs.Constructs.{expr_inside, name_is}
use Rattle.c_types_expressions.proofs.calls.builtin_named.Goals as goal

pub expr-requires : goal.expr-requires
expr-requires c = record { inside = expr_inside c.args.tree.now c.args.id c.requires }

pub returns-in-Name : goal.returns-in-Name
returns-in-Name c x h =
    let env = c.args.env.now.env in
    let node = c.expr.result.now in
    let is = name_is c.args.tree.now c.args.id node c.in-Name.name c.expr.ensures.node c.in-Name.is x h in
    c.called_builtin.ensures node.from ∙ (ap (λ n. builtin_in env (Name node.from n)) c.as_slice.ensures.bytes ∙ ap (builtin_in env) (sym is))
