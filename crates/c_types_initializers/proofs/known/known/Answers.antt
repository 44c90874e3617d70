use Rattle.c_types_table.specs.Tables.{type_at}
use Rattle.c_types_environment.specs.States.{notes_of}
use Rattle.c_types_rules.specs.Initials.{known}
use Rattle.c_types_initializers.proofs.Starts.{expr_inside}
use Rattle.c_types_expressions.proofs.Kept.{all_stay, then_stay}
use Rattle.c_types_initializers.specs.Values.{IsKnown}
use Rattle.c_types_initializers.proofs.Scalars.{assigned_broken, handed_on, known_broken, scalar_found, type_there}
use Rattle.c_types_expressions.proofs.Starts.{start_is}
use Rattle.c_types_initializers.proofs.known.known.Goals as goal

pub expr-requires : goal.expr-requires
expr-requires c = record { inside = expr_inside c.args.tree.now c.args.id c.requires.id }

pub returns-in_err-known-clause-agrees : goal.returns-in_err-known-clause-agrees
returns-in_err-known-clause-agrees c x h =
    let a = c.args.env.now in
    let s = c.known_before.new.env in
    let wrong = c.in_err-known.field-0.0 in
    handed_on (notes_of a) (notes_of s) IsKnown (known a.env (type_at a.table.types c.args.ty) x) c.from_residual-in_err-known.result wrong c.from_residual-in_err-known.ensures.1
    (known_broken a c.expression.new.env x c.args.ty c.in_ok-node.node (c.in_ok-node.ensures.agrees x h) c.in_ok-node.ensures.kept c.requires.ty s wrong (c.in_err-known.ensures.agrees x h))

pub returns-in_err-assigned-clause-agrees : goal.returns-in_err-assigned-clause-agrees
returns-in_err-assigned-clause-agrees c x h =
    let a = c.args.env.now in
    let e = c.assigned.new.self in
    let wrong = c.in_err-assigned.field-0.0 in
    handed_on (notes_of a) (notes_of e) IsKnown (known a.env (type_at a.table.types c.args.ty) x) c.from_residual-in_err-assigned.result wrong c.from_residual-in_err-assigned.ensures.1
    (assigned_broken a c.expression.new.env x c.args.ty c.in_ok-node.node (c.in_ok-node.ensures.agrees x h) c.in_ok-node.ensures.kept c.requires.ty c.known_before.new.env c.value_of.new.self e c.in_ok-known.known
    (c.in_ok-known.ensures.agrees x h) c.in_ok-known.ensures.kept c.in_ok-value.ensures.kept c.in_ok-value.value c.in_ok-value.ensures.value c.expr.result.now.from (start_is c.args.tree.now c.args.id x c.expr.result.now h c.expr.ensures.node)
    c.in_err-assigned.ensures.kept wrong c.in_err-assigned.ensures.agrees)

pub returns-in_err-assigned-clause-kept : goal.returns-in_err-assigned-clause-kept
returns-in_err-assigned-clause-kept c =
    then_stay _ _ _ (then_stay _ _ _ c.in_ok-node.ensures.kept c.in_ok-known.ensures.kept) (then_stay _ _ _ (all_stay _ _ c.in_ok-value.ensures.kept) (all_stay _ _ c.in_err-assigned.ensures.kept))

pub stored_as-requires : goal.stored_as-requires
stored_as-requires c =
    let x = c.requires.id.0 in
    let h = c.requires.id.1 in
    type_there c.args.env.now c.expression.new.env x c.args.ty c.in_ok-node.node (c.in_ok-node.ensures.agrees x h) c.in_ok-node.ensures.kept c.requires.ty c.known_before.new.env c.value_of.new.self c.assigned.new.self c.in_ok-known.known
    (c.in_ok-known.ensures.agrees x h) c.in_ok-known.ensures.kept c.in_ok-value.ensures.kept c.in_ok-value.value c.in_ok-value.ensures.value c.expr.result.now.from (start_is c.args.tree.now c.args.id x c.expr.result.now h c.expr.ensures.node)
    c.in_ok-assigned.ensures.kept

pub returns-clause-agrees : goal.returns-clause-agrees
returns-clause-agrees c x h =
    scalar_found c.args.env.now c.expression.new.env x c.args.ty c.in_ok-node.node (c.in_ok-node.ensures.agrees x h) c.in_ok-node.ensures.kept c.requires.ty c.known_before.new.env c.value_of.new.self c.assigned.new.self c.in_ok-known.known
    (c.in_ok-known.ensures.agrees x h) c.in_ok-known.ensures.kept c.in_ok-value.ensures.kept c.in_ok-value.value c.in_ok-value.ensures.value c.expr.result.now.from (start_is c.args.tree.now c.args.id x c.expr.result.now h c.expr.ensures.node)
    c.in_ok-assigned.ensures.kept c.in_ok-assigned.field-0 c.stored_as.result c.in_ok-assigned.ensures.agrees c.stored_as.ensures

pub returns-clause-kept : goal.returns-clause-kept
returns-clause-kept c =
    then_stay _ _ _ (then_stay _ _ _ c.in_ok-node.ensures.kept c.in_ok-known.ensures.kept) (then_stay _ _ _ (all_stay _ _ c.in_ok-value.ensures.kept) (all_stay _ _ c.in_ok-assigned.ensures.kept))
