use Rattle.std.proofs.Common.{◌≡◌, ◌+◌, ◌∷◌, [], map, Ok, Err, drop, length, FitsSigned, refl, sym, ap, ◌∙◌, arith, rules, subst}
use Rattle.c_types_environment.specs.States.{notes_of}
use Rattle.std.specs.Int.{w8}
use Rattle.std.proofs.lemmas.Int.{to_z-of_z}
use Rattle.std.proofs.lemmas.List.{drop_all}
use Rattle.r2_num.specs.declared.kinds.IntKind.TheVariants.{I32}
use Rattle.std.proofs.lemmas.Result.{err_from_is_err_and}
use Rattle.c_syntax.specs.declared.declaration.Annot.{Annot}
use Rattle.c_syntax.specs.declared.declaration.Part.{Part}
use Rattle.c_syntax.specs.declared.expression.ExprKind.TheVariants as exprs
use Rattle.c_syntax.specs.Syntax.{Array, Call, NoParts, Params}
use Rattle.c_syntax.specs.Stands.{StandAnnots, StandExprs, StandItems, StandParts, StandDecls}
use Rattle.c_builtins.specs.Table.{params_of}
use Rattle.c_types_table.specs.Tables.{IsBelow, type_at}
use Rattle.c_types_rules.specs.Environment.{base_type, extents}
use Rattle.c_types_rules.specs.Expressions.{annotation_types, arguments, atom_type, declarator_type, declared_type, expression, item_type, item_types, member, named, parameter_type, parameter_types}
use Rattle.c_types_rules.specs.Checked.{Fine}
use Rattle.c_types_rules.specs.TypedTree.{AValue, Constant}
use Rattle.c_types_nodes.specs.Tables.{Names, Table, node_at}
use Rattle.c_types_operators.specs.Answers.{IsAt, IsNothing, StandsAt}
use Rattle.c_types_operators.specs.Calls.{IsCalled, types_after}
use Rattle.c_syntax_laws.specs.Heights.{greatest}
use Rattle.c_syntax_laws.specs.declared.node.Node.TheVariants.{Expr as AnExpr, Decl as ADecl}
use Rattle.c_syntax_laws.specs.Named.{by_annots, by_atom, by_item, by_items, by_kind, by_parts, by_second, height_in}
use Rattle.c_syntax_laws.specs.Numbers.{FitsExpr}
use Rattle.c_types_expressions.specs.Found.{AreBoth, AreTypes, AreValues, IsType, Stays}
use Rattle.c_types_expressions.specs.Walks.{AreAnnots, AreDecls, AreExprs, AreItems, AreParts, IsItem}
use Rattle.c_types_expressions.specs.Pieces.{argument_of, arrow_from, call_target, operands, sized}
use Rattle.c_types_expressions.proofs.Sequences.{passed, stopped_in}
use Rattle.c_types_expressions.proofs.Kept.{all_stay, sized_stays, stay, stay_around, stays_node, then_stay, then_stay_around, type_inside, type_stays}
use Rattle.c_types_expressions.proofs.Operands.{agrees_as}
use Rattle.c_types_expressions.proofs.Constructs.{binary_parts, assign_parts, index_parts, cond_parts, prefix_parts, postfix_parts, sizeof_expr_parts, sizeof_type_parts, member_parts, arrow_parts, cast_parts, call_parts, name_is, number_is, char_is, text_is, expr_inside, decl_inside, decl_parts}
use Rattle.c_types_expressions.proofs.Fits.{annots_fit, arguments_fit, callee_fits, cast_operand_fits, condition_fits, first_arm_fits, left_fits, operand_fits, parts_fit, right_fits, second_arm_fits, target_fits, type_fits}
use Rattle.c_types_expressions.proofs.Arms.{both_found, left_stops, right_stops, type_goes_on}
use Rattle.c_types_expressions.proofs.Wholes.{arms_fail, call_done, cast_done, last_arm_fails, failed, left_found, node_found, one_done, one_noted, one_fails, right_found, same_answer, target_fails, three_done, two_done, two_fail, type_done, type_fails, type_found}
use Rattle.c_types_expressions.proofs.Wholes as wholes
use Rattle.c_types_expressions.proofs.Lower.{below_expr, below_annots, below_parts}
use Rattle.c_types_expressions.proofs.CallSteps.{argument_made, argument_stops, arguments_fail, builtin_target, call_holds, call_made, callee_stops, callee_target, function_inside, target_stops, too_many}
use Rattle.c_types_expressions.proofs.Lists.{annot_among, annot_lower, decl_among, decl_lower, expr_among, expr_lower, from_here, greatest_of_joined, item_among, item_lower, part_lower}
use Rattle.c_types_expressions.proofs.AnnotationLists.{annots_begin, annots_end, annots_next, annots_stop, items_begin, items_end, items_next, items_stop}
use Rattle.c_types_expressions.proofs.AnnotationSteps.{factor_stops, first_factor, one_factor, plain_atom, second_factor, sizeof_atom, sizeof_name, two_factors}
use Rattle.c_types_expressions.proofs.ArgumentLists.{arguments_begin, arguments_end, arguments_next, arguments_stop, too_few}
use Rattle.c_types_expressions.proofs.ParameterLists.{parameters_begin, parameters_end, parameters_next, scope_stops, type_stops}
use Rattle.c_types_expressions.proofs.ParameterSteps.{annotations_stop, can_close, declarator_stops, parameter_made, stays_within, within_scope}
use Rattle.c_types_expressions.proofs.PartLists.{part_at, parts_begin, parts_end, parts_next, parts_stop}
use Rattle.c_types_expressions.proofs.PartSteps.{array_made, array_part, element_stops, found_below, function_made, function_part, no_result, params_stand, params_stop, pointer_made, size_stands, size_stops, declared_made, declared_stops}
use Rattle.c_types_expressions.proofs.+walk.Goals as goal

pub expressions::expression-expr-node-requires : goal.expressions::expression-expr-node-requires
expressions::expression-expr-node-requires t c =
    record { inside = expr_inside c.args.tree.now c.args.id c.requires }

pub expressions::expression-returns-in-Name-clause-agrees : goal.expressions::expression-returns-in-Name-clause-agrees
expressions::expression-returns-in-Name-clause-agrees t c =
    λ x h.
    let e = name_is c.args.tree.now c.args.id c.expr-node.result.now c.in-Name.name c.expr-node.ensures.node c.in-Name.is x h in
    same_answer x _ c.args.env.now c.named.new.self _ c.named.result e (ap (named c.args.env.now.env c.expr-node.result.now.from) (sym c.as_slice.ensures.bytes)) c.named.ensures.agrees c.named.ensures.kept.notes

pub expressions::expression-returns-in-Name-clause-kept : goal.expressions::expression-returns-in-Name-clause-kept
expressions::expression-returns-in-Name-clause-kept t c =
    all_stay _ _ c.named.ensures.kept

pub expressions::expression-number-requires : goal.expressions::expression-number-requires
expressions::expression-number-requires t c =
    let e = number_is c.args.tree.now c.args.id c.expr-node.result.now c.in-Number.value c.in-Number.suffix c.in-Number.decimal c.expr-node.ensures.node c.in-Number.is c.requires.0 c.requires.1 in
    subst FitsExpr e c.requires.2

pub expressions::expression-returns-in-Number-clause-agrees : goal.expressions::expression-returns-in-Number-clause-agrees
expressions::expression-returns-in-Number-clause-agrees t c =
    λ x h.
    let e = number_is c.args.tree.now c.args.id c.expr-node.result.now c.in-Number.value c.in-Number.suffix c.in-Number.decimal c.expr-node.ensures.node c.in-Number.is x h in
    same_answer x _ c.args.env.now c.number.new.env _ c.number.result e refl c.number.ensures.agrees c.number.ensures.kept.notes

pub expressions::expression-returns-in-Number-clause-kept : goal.expressions::expression-returns-in-Number-clause-kept
expressions::expression-returns-in-Number-clause-kept t c =
    all_stay _ _ c.number.ensures.kept

pub expressions::expression-returns-in-Char-clause-agrees : goal.expressions::expression-returns-in-Char-clause-agrees
expressions::expression-returns-in-Char-clause-agrees t c =
    let fits : FitsSigned w8 c.in-Char.value = search rules in
    λ x h.
    let e = char_is c.args.tree.now c.args.id c.expr-node.result.now c.in-Char.value c.expr-node.ensures.node c.in-Char.is x h in
    same_answer x _ c.args.env.now c.character.new.env _ c.character.result e (ap (λ n. Fine (AValue (Constant I32 n))) (sym (to_z-of_z w8 c.in-Char.value fits))) c.character.ensures.agrees c.character.ensures.kept.notes

pub expressions::expression-returns-in-Char-clause-kept : goal.expressions::expression-returns-in-Char-clause-kept
expressions::expression-returns-in-Char-clause-kept t c =
    all_stay _ _ c.character.ensures.kept

pub expressions::expression-returns-in-Text-clause-agrees : goal.expressions::expression-returns-in-Text-clause-agrees
expressions::expression-returns-in-Text-clause-agrees t c =
    λ x h.
    let e = text_is c.args.tree.now c.args.id c.expr-node.result.now c.in-Text.text c.expr-node.ensures.node c.in-Text.is x h in
    same_answer x _ c.args.env.now c.string.new.env _ c.string.result e refl c.string.ensures.agrees c.string.ensures.kept.notes

pub expressions::expression-returns-in-Text-clause-kept : goal.expressions::expression-returns-in-Text-clause-kept
expressions::expression-returns-in-Text-clause-kept t c =
    all_stay _ _ c.string.ensures.kept

pub expressions::expression-operands-requires : goal.expressions::expression-operands-requires
expressions::expression-operands-requires t c =
    let p = (binary_parts c.args.tree.now c.args.id c.expr-node.result.now c.in-Binary.sign c.in-Binary.left c.in-Binary.right c.expr-node.ensures.node c.in-Binary.is c.requires.0 c.requires.1) in
    (omega (arith, below_expr c.args.tree.now c.args.id c.expr-node.result.now (exprs.Binary c.in-Binary.sign c.in-Binary.left c.in-Binary.right) c.requires c.expr-node.ensures.node c.in-Binary.is), (left_fits p c.requires.2, right_fits p c.requires.2))

pub expressions::expression-binary-requires : goal.expressions::expression-binary-requires
expressions::expression-binary-requires t c =
    let p = (binary_parts c.args.tree.now c.args.id c.expr-node.result.now c.in-Binary.sign c.in-Binary.left c.in-Binary.right c.expr-node.ensures.node c.in-Binary.is c.requires.0 c.requires.1) in
    let both = c.in_ok-left-in-Binary.ensures.agrees p.left p.right p.on_left p.on_right in
    record { left = left_found _ _ _ _ _ _ both; right = right_found _ _ _ _ _ _ both }

pub expressions::expression-returns-in_err-left-in-Binary-clause-agrees : goal.expressions::expression-returns-in_err-left-in-Binary-clause-agrees
expressions::expression-returns-in_err-left-in-Binary-clause-agrees t c =
    let q = err_from_is_err_and c.from_residual.result c.from_residual.ensures.1 in
    λ x h. two_fail c.args.env.now c.args.env.now c.operands.new.env (binary_parts c.args.tree.now c.args.id c.expr-node.result.now c.in-Binary.sign c.in-Binary.left c.in-Binary.right c.expr-node.ensures.node c.in-Binary.is x h) c.from_residual.result c.in_err-left-in-Binary.field-0.0 (q.1 ∙ ap Err q.2) c.in_err-left-in-Binary.ensures.agrees

pub expressions::expression-returns-in_err-left-in-Binary-clause-kept : goal.expressions::expression-returns-in_err-left-in-Binary-clause-kept
expressions::expression-returns-in_err-left-in-Binary-clause-kept t c =
    c.in_err-left-in-Binary.ensures.kept

pub expressions::expression-returns-in_ok-left-in-Binary-clause-agrees : goal.expressions::expression-returns-in_ok-left-in-Binary-clause-agrees
expressions::expression-returns-in_ok-left-in-Binary-clause-agrees t c =
    λ x h. two_done c.args.env.now c.operands.new.env c.binary.new.env (binary_parts c.args.tree.now c.args.id c.expr-node.result.now c.in-Binary.sign c.in-Binary.left c.in-Binary.right c.expr-node.ensures.node c.in-Binary.is x h) c.in_ok-left-in-Binary.left c.in_ok-left-in-Binary.right c.binary.result c.in_ok-left-in-Binary.ensures.agrees c.in_ok-left-in-Binary.ensures.kept.env c.binary.ensures.agrees c.binary.ensures.kept.notes

pub expressions::expression-returns-in_ok-left-in-Binary-clause-kept : goal.expressions::expression-returns-in_ok-left-in-Binary-clause-kept
expressions::expression-returns-in_ok-left-in-Binary-clause-kept t c =
    then_stay _ _ _ c.in_ok-left-in-Binary.ensures.kept (all_stay _ _ c.binary.ensures.kept)

pub expressions::expression-operands-requires-in-Assign : goal.expressions::expression-operands-requires-in-Assign
expressions::expression-operands-requires-in-Assign t c =
    let p = (assign_parts c.args.tree.now c.args.id c.expr-node.result.now c.in-Assign.sign c.in-Assign.left c.in-Assign.right c.expr-node.ensures.node c.in-Assign.is c.requires.0 c.requires.1) in
    (omega (arith, below_expr c.args.tree.now c.args.id c.expr-node.result.now (exprs.Assign c.in-Assign.sign c.in-Assign.left c.in-Assign.right) c.requires c.expr-node.ensures.node c.in-Assign.is), (left_fits p c.requires.2, right_fits p c.requires.2))

pub expressions::expression-assignment-requires : goal.expressions::expression-assignment-requires
expressions::expression-assignment-requires t c =
    let p = (assign_parts c.args.tree.now c.args.id c.expr-node.result.now c.in-Assign.sign c.in-Assign.left c.in-Assign.right c.expr-node.ensures.node c.in-Assign.is c.requires.0 c.requires.1) in
    let both = c.in_ok-left-in-Assign.ensures.agrees p.left p.right p.on_left p.on_right in
    record { left = left_found _ _ _ _ _ _ both; right = right_found _ _ _ _ _ _ both }

pub expressions::expression-returns-in_err-left-in-Assign-clause-agrees : goal.expressions::expression-returns-in_err-left-in-Assign-clause-agrees
expressions::expression-returns-in_err-left-in-Assign-clause-agrees t c =
    let q = err_from_is_err_and c.from_residual-in_err-left-in-Assign.result c.from_residual-in_err-left-in-Assign.ensures.1 in
    λ x h. two_fail c.args.env.now c.args.env.now c.operands-in-Assign.new.env (assign_parts c.args.tree.now c.args.id c.expr-node.result.now c.in-Assign.sign c.in-Assign.left c.in-Assign.right c.expr-node.ensures.node c.in-Assign.is x h) c.from_residual-in_err-left-in-Assign.result c.in_err-left-in-Assign.field-0.0 (q.1 ∙ ap Err q.2) c.in_err-left-in-Assign.ensures.agrees

pub expressions::expression-returns-in_err-left-in-Assign-clause-kept : goal.expressions::expression-returns-in_err-left-in-Assign-clause-kept
expressions::expression-returns-in_err-left-in-Assign-clause-kept t c =
    c.in_err-left-in-Assign.ensures.kept

pub expressions::expression-returns-in_ok-left-in-Assign-clause-agrees : goal.expressions::expression-returns-in_ok-left-in-Assign-clause-agrees
expressions::expression-returns-in_ok-left-in-Assign-clause-agrees t c =
    λ x h. two_done c.args.env.now c.operands-in-Assign.new.env c.assignment.new.env (assign_parts c.args.tree.now c.args.id c.expr-node.result.now c.in-Assign.sign c.in-Assign.left c.in-Assign.right c.expr-node.ensures.node c.in-Assign.is x h) c.in_ok-left-in-Assign.left c.in_ok-left-in-Assign.right c.assignment.result c.in_ok-left-in-Assign.ensures.agrees c.in_ok-left-in-Assign.ensures.kept.env c.assignment.ensures.agrees c.assignment.ensures.kept.notes

pub expressions::expression-returns-in_ok-left-in-Assign-clause-kept : goal.expressions::expression-returns-in_ok-left-in-Assign-clause-kept
expressions::expression-returns-in_ok-left-in-Assign-clause-kept t c =
    then_stay _ _ _ c.in_ok-left-in-Assign.ensures.kept (all_stay _ _ c.assignment.ensures.kept)

pub expressions::expression-operands-requires-in-Index : goal.expressions::expression-operands-requires-in-Index
expressions::expression-operands-requires-in-Index t c =
    let p = (index_parts c.args.tree.now c.args.id c.expr-node.result.now c.in-Index.left c.in-Index.right c.expr-node.ensures.node c.in-Index.is c.requires.0 c.requires.1) in
    (omega (arith, below_expr c.args.tree.now c.args.id c.expr-node.result.now (exprs.Index c.in-Index.left c.in-Index.right) c.requires c.expr-node.ensures.node c.in-Index.is), (left_fits p c.requires.2, right_fits p c.requires.2))

pub expressions::expression-subscript-requires : goal.expressions::expression-subscript-requires
expressions::expression-subscript-requires t c =
    let p = (index_parts c.args.tree.now c.args.id c.expr-node.result.now c.in-Index.left c.in-Index.right c.expr-node.ensures.node c.in-Index.is c.requires.0 c.requires.1) in
    let both = c.in_ok-left-in-Index.ensures.agrees p.left p.right p.on_left p.on_right in
    record { left = left_found _ _ _ _ _ _ both; right = right_found _ _ _ _ _ _ both }

pub expressions::expression-returns-in_err-left-in-Index-clause-agrees : goal.expressions::expression-returns-in_err-left-in-Index-clause-agrees
expressions::expression-returns-in_err-left-in-Index-clause-agrees t c =
    let q = err_from_is_err_and c.from_residual-in_err-left-in-Index.result c.from_residual-in_err-left-in-Index.ensures.1 in
    λ x h. two_fail c.args.env.now c.args.env.now c.operands-in-Index.new.env (index_parts c.args.tree.now c.args.id c.expr-node.result.now c.in-Index.left c.in-Index.right c.expr-node.ensures.node c.in-Index.is x h) c.from_residual-in_err-left-in-Index.result c.in_err-left-in-Index.field-0.0 (q.1 ∙ ap Err q.2) c.in_err-left-in-Index.ensures.agrees

pub expressions::expression-returns-in_err-left-in-Index-clause-kept : goal.expressions::expression-returns-in_err-left-in-Index-clause-kept
expressions::expression-returns-in_err-left-in-Index-clause-kept t c =
    c.in_err-left-in-Index.ensures.kept

pub expressions::expression-returns-in_ok-left-in-Index-clause-agrees : goal.expressions::expression-returns-in_ok-left-in-Index-clause-agrees
expressions::expression-returns-in_ok-left-in-Index-clause-agrees t c =
    λ x h. two_done c.args.env.now c.operands-in-Index.new.env c.subscript.new.env (index_parts c.args.tree.now c.args.id c.expr-node.result.now c.in-Index.left c.in-Index.right c.expr-node.ensures.node c.in-Index.is x h) c.in_ok-left-in-Index.left c.in_ok-left-in-Index.right c.subscript.result c.in_ok-left-in-Index.ensures.agrees c.in_ok-left-in-Index.ensures.kept.env c.subscript.ensures.agrees c.subscript.ensures.kept.notes

pub expressions::expression-returns-in_ok-left-in-Index-clause-kept : goal.expressions::expression-returns-in_ok-left-in-Index-clause-kept
expressions::expression-returns-in_ok-left-in-Index-clause-kept t c =
    then_stay _ _ _ c.in_ok-left-in-Index.ensures.kept (all_stay _ _ c.subscript.ensures.kept)

pub expressions::expression-operands-requires-in-Cond : goal.expressions::expression-operands-requires-in-Cond
expressions::expression-operands-requires-in-Cond t c =
    let p = (cond_parts c.args.tree.now c.args.id c.expr-node.result.now c.in-Cond.condition c.in-Cond.left c.in-Cond.right c.expr-node.ensures.node c.in-Cond.is c.requires.0 c.requires.1) in
    (omega (arith, below_expr c.args.tree.now c.args.id c.expr-node.result.now (exprs.Cond c.in-Cond.condition c.in-Cond.left c.in-Cond.right) c.requires c.expr-node.ensures.node c.in-Cond.is), (condition_fits p c.requires.2, first_arm_fits p c.requires.2))

pub expressions::expression-expression-requires : goal.expressions::expression-expression-requires
expressions::expression-expression-requires t c =
    let p = (cond_parts c.args.tree.now c.args.id c.expr-node.result.now c.in-Cond.condition c.in-Cond.left c.in-Cond.right c.expr-node.ensures.node c.in-Cond.is c.requires.0 c.requires.1) in
    (omega (arith, below_expr c.args.tree.now c.args.id c.expr-node.result.now (exprs.Cond c.in-Cond.condition c.in-Cond.left c.in-Cond.right) c.requires c.expr-node.ensures.node c.in-Cond.is), second_arm_fits p c.requires.2)

pub expressions::expression-choice-requires : goal.expressions::expression-choice-requires
expressions::expression-choice-requires t c =
    let p = (cond_parts c.args.tree.now c.args.id c.expr-node.result.now c.in-Cond.condition c.in-Cond.left c.in-Cond.right c.expr-node.ensures.node c.in-Cond.is c.requires.0 c.requires.1) in
    let both = c.in_ok-condition-in-Cond.ensures.agrees p.condition p.left p.on_condition p.on_left in
    let numbers = c.in_ok-right-in-Cond.ensures.kept.numbers in
    record { condition = stays_node _ _ _ numbers (left_found _ _ _ _ _ _ both); left = stays_node _ _ _ numbers (right_found _ _ _ _ _ _ both); right = node_found _ _ _ _ _ (c.in_ok-right-in-Cond.ensures.agrees p.right p.on_right) }

pub expressions::expression-returns-in_err-condition-in-Cond-clause-agrees : goal.expressions::expression-returns-in_err-condition-in-Cond-clause-agrees
expressions::expression-returns-in_err-condition-in-Cond-clause-agrees t c =
    let q = err_from_is_err_and c.from_residual-in_err-condition-in-Cond.result c.from_residual-in_err-condition-in-Cond.ensures.1 in
    λ x h. arms_fail c.args.env.now c.args.env.now c.operands-in-Cond.new.env (cond_parts c.args.tree.now c.args.id c.expr-node.result.now c.in-Cond.condition c.in-Cond.left c.in-Cond.right c.expr-node.ensures.node c.in-Cond.is x h) c.from_residual-in_err-condition-in-Cond.result c.in_err-condition-in-Cond.field-0.0 (q.1 ∙ ap Err q.2) c.in_err-condition-in-Cond.ensures.agrees

pub expressions::expression-returns-in_err-condition-in-Cond-clause-kept : goal.expressions::expression-returns-in_err-condition-in-Cond-clause-kept
expressions::expression-returns-in_err-condition-in-Cond-clause-kept t c =
    c.in_err-condition-in-Cond.ensures.kept

pub expressions::expression-returns-in_err-right-in-Cond-clause-agrees : goal.expressions::expression-returns-in_err-right-in-Cond-clause-agrees
expressions::expression-returns-in_err-right-in-Cond-clause-agrees t c =
    let q = err_from_is_err_and c.from_residual-in_err-right-in-Cond.result c.from_residual-in_err-right-in-Cond.ensures.1 in
    λ x h. last_arm_fails c.args.env.now c.operands-in-Cond.new.env c.expression.new.env (cond_parts c.args.tree.now c.args.id c.expr-node.result.now c.in-Cond.condition c.in-Cond.left c.in-Cond.right c.expr-node.ensures.node c.in-Cond.is x h) c.in_ok-condition-in-Cond.condition c.in_ok-condition-in-Cond.left c.from_residual-in_err-right-in-Cond.result c.in_err-right-in-Cond.field-0.0 (q.1 ∙ ap Err q.2) c.in_ok-condition-in-Cond.ensures.agrees c.in_ok-condition-in-Cond.ensures.kept c.in_err-right-in-Cond.ensures.agrees

pub expressions::expression-returns-in_err-right-in-Cond-clause-kept : goal.expressions::expression-returns-in_err-right-in-Cond-clause-kept
expressions::expression-returns-in_err-right-in-Cond-clause-kept t c =
    then_stay _ _ _ c.in_ok-condition-in-Cond.ensures.kept c.in_err-right-in-Cond.ensures.kept

pub expressions::expression-returns-in_ok-right-in-Cond-clause-agrees : goal.expressions::expression-returns-in_ok-right-in-Cond-clause-agrees
expressions::expression-returns-in_ok-right-in-Cond-clause-agrees t c =
    λ x h. three_done c.args.env.now c.operands-in-Cond.new.env c.expression.new.env (cond_parts c.args.tree.now c.args.id c.expr-node.result.now c.in-Cond.condition c.in-Cond.left c.in-Cond.right c.expr-node.ensures.node c.in-Cond.is x h) c.choice.new.env c.in_ok-condition-in-Cond.condition c.in_ok-condition-in-Cond.left c.in_ok-right-in-Cond.right c.choice.result c.in_ok-condition-in-Cond.ensures.agrees c.in_ok-condition-in-Cond.ensures.kept c.in_ok-right-in-Cond.ensures.agrees c.in_ok-right-in-Cond.ensures.kept c.choice.ensures.agrees c.choice.ensures.kept.notes

pub expressions::expression-returns-in_ok-right-in-Cond-clause-kept : goal.expressions::expression-returns-in_ok-right-in-Cond-clause-kept
expressions::expression-returns-in_ok-right-in-Cond-clause-kept t c =
    then_stay _ _ _ c.in_ok-condition-in-Cond.ensures.kept (then_stay _ _ _ c.in_ok-right-in-Cond.ensures.kept (all_stay _ _ c.choice.ensures.kept))

pub expressions::expression-expression-requires-in-Prefix : goal.expressions::expression-expression-requires-in-Prefix
expressions::expression-expression-requires-in-Prefix t c =
    let p = (prefix_parts c.args.tree.now c.args.id c.expr-node.result.now c.in-Prefix.sign c.in-Prefix.operand c.expr-node.ensures.node c.in-Prefix.is c.requires.0 c.requires.1) in
    (omega (arith, below_expr c.args.tree.now c.args.id c.expr-node.result.now (exprs.Prefix c.in-Prefix.sign c.in-Prefix.operand) c.requires c.expr-node.ensures.node c.in-Prefix.is), operand_fits p c.requires.2)

pub expressions::expression-prefixed-requires : goal.expressions::expression-prefixed-requires
expressions::expression-prefixed-requires t c =
    let p = (prefix_parts c.args.tree.now c.args.id c.expr-node.result.now c.in-Prefix.sign c.in-Prefix.operand c.expr-node.ensures.node c.in-Prefix.is c.requires.0 c.requires.1) in
    record { operand = node_found _ _ _ _ _ (c.in_ok-operand-in-Prefix.ensures.agrees p.operand p.stand) }

pub expressions::expression-returns-in_err-operand-in-Prefix-clause-agrees : goal.expressions::expression-returns-in_err-operand-in-Prefix-clause-agrees
expressions::expression-returns-in_err-operand-in-Prefix-clause-agrees t c =
    let q = err_from_is_err_and c.from_residual-in_err-operand-in-Prefix.result c.from_residual-in_err-operand-in-Prefix.ensures.1 in
    λ x h. one_fails c.args.env.now c.args.env.now c.expression-in-Prefix.new.env (prefix_parts c.args.tree.now c.args.id c.expr-node.result.now c.in-Prefix.sign c.in-Prefix.operand c.expr-node.ensures.node c.in-Prefix.is x h) c.from_residual-in_err-operand-in-Prefix.result c.in_err-operand-in-Prefix.field-0.0 (q.1 ∙ ap Err q.2) c.in_err-operand-in-Prefix.ensures.agrees

pub expressions::expression-returns-in_err-operand-in-Prefix-clause-kept : goal.expressions::expression-returns-in_err-operand-in-Prefix-clause-kept
expressions::expression-returns-in_err-operand-in-Prefix-clause-kept t c =
    c.in_err-operand-in-Prefix.ensures.kept

pub expressions::expression-returns-in_ok-operand-in-Prefix-clause-agrees : goal.expressions::expression-returns-in_ok-operand-in-Prefix-clause-agrees
expressions::expression-returns-in_ok-operand-in-Prefix-clause-agrees t c =
    λ x h. one_done c.args.env.now c.expression-in-Prefix.new.env c.prefixed.new.self (prefix_parts c.args.tree.now c.args.id c.expr-node.result.now c.in-Prefix.sign c.in-Prefix.operand c.expr-node.ensures.node c.in-Prefix.is x h) c.in_ok-operand-in-Prefix.operand c.prefixed.result c.in_ok-operand-in-Prefix.ensures.agrees c.in_ok-operand-in-Prefix.ensures.kept.env c.prefixed.ensures.agrees c.prefixed.ensures.kept.notes

pub expressions::expression-returns-in_ok-operand-in-Prefix-clause-kept : goal.expressions::expression-returns-in_ok-operand-in-Prefix-clause-kept
expressions::expression-returns-in_ok-operand-in-Prefix-clause-kept t c =
    then_stay _ _ _ c.in_ok-operand-in-Prefix.ensures.kept (all_stay _ _ c.prefixed.ensures.kept)

pub expressions::expression-expression-requires-in-Postfix : goal.expressions::expression-expression-requires-in-Postfix
expressions::expression-expression-requires-in-Postfix t c =
    let p = (postfix_parts c.args.tree.now c.args.id c.expr-node.result.now c.in-Postfix.sign c.in-Postfix.operand c.expr-node.ensures.node c.in-Postfix.is c.requires.0 c.requires.1) in
    (omega (arith, below_expr c.args.tree.now c.args.id c.expr-node.result.now (exprs.Postfix c.in-Postfix.sign c.in-Postfix.operand) c.requires c.expr-node.ensures.node c.in-Postfix.is), operand_fits p c.requires.2)

pub expressions::expression-postfixed-requires : goal.expressions::expression-postfixed-requires
expressions::expression-postfixed-requires t c =
    let p = (postfix_parts c.args.tree.now c.args.id c.expr-node.result.now c.in-Postfix.sign c.in-Postfix.operand c.expr-node.ensures.node c.in-Postfix.is c.requires.0 c.requires.1) in
    record { operand = node_found _ _ _ _ _ (c.in_ok-operand-in-Postfix.ensures.agrees p.operand p.stand) }

pub expressions::expression-returns-in_err-operand-in-Postfix-clause-agrees : goal.expressions::expression-returns-in_err-operand-in-Postfix-clause-agrees
expressions::expression-returns-in_err-operand-in-Postfix-clause-agrees t c =
    let q = err_from_is_err_and c.from_residual-in_err-operand-in-Postfix.result c.from_residual-in_err-operand-in-Postfix.ensures.1 in
    λ x h. one_fails c.args.env.now c.args.env.now c.expression-in-Postfix.new.env (postfix_parts c.args.tree.now c.args.id c.expr-node.result.now c.in-Postfix.sign c.in-Postfix.operand c.expr-node.ensures.node c.in-Postfix.is x h) c.from_residual-in_err-operand-in-Postfix.result c.in_err-operand-in-Postfix.field-0.0 (q.1 ∙ ap Err q.2) c.in_err-operand-in-Postfix.ensures.agrees

pub expressions::expression-returns-in_err-operand-in-Postfix-clause-kept : goal.expressions::expression-returns-in_err-operand-in-Postfix-clause-kept
expressions::expression-returns-in_err-operand-in-Postfix-clause-kept t c =
    c.in_err-operand-in-Postfix.ensures.kept

pub expressions::expression-returns-in_ok-operand-in-Postfix-clause-agrees : goal.expressions::expression-returns-in_ok-operand-in-Postfix-clause-agrees
expressions::expression-returns-in_ok-operand-in-Postfix-clause-agrees t c =
    λ x h. one_done c.args.env.now c.expression-in-Postfix.new.env c.postfixed.new.self (postfix_parts c.args.tree.now c.args.id c.expr-node.result.now c.in-Postfix.sign c.in-Postfix.operand c.expr-node.ensures.node c.in-Postfix.is x h) c.in_ok-operand-in-Postfix.operand c.postfixed.result c.in_ok-operand-in-Postfix.ensures.agrees c.in_ok-operand-in-Postfix.ensures.kept.env c.postfixed.ensures.agrees c.postfixed.ensures.kept.notes

pub expressions::expression-returns-in_ok-operand-in-Postfix-clause-kept : goal.expressions::expression-returns-in_ok-operand-in-Postfix-clause-kept
expressions::expression-returns-in_ok-operand-in-Postfix-clause-kept t c =
    then_stay _ _ _ c.in_ok-operand-in-Postfix.ensures.kept (all_stay _ _ c.postfixed.ensures.kept)

pub expressions::expression-expression-requires-in-SizeofExpr : goal.expressions::expression-expression-requires-in-SizeofExpr
expressions::expression-expression-requires-in-SizeofExpr t c =
    let p = (sizeof_expr_parts c.args.tree.now c.args.id c.expr-node.result.now c.in-SizeofExpr.operand c.expr-node.ensures.node c.in-SizeofExpr.is c.requires.0 c.requires.1) in
    (omega (arith, below_expr c.args.tree.now c.args.id c.expr-node.result.now (exprs.SizeofExpr c.in-SizeofExpr.operand) c.requires c.expr-node.ensures.node c.in-SizeofExpr.is), operand_fits p c.requires.2)

pub expressions::expression-size_of_operand-requires : goal.expressions::expression-size_of_operand-requires
expressions::expression-size_of_operand-requires t c =
    let p = (sizeof_expr_parts c.args.tree.now c.args.id c.expr-node.result.now c.in-SizeofExpr.operand c.expr-node.ensures.node c.in-SizeofExpr.is c.requires.0 c.requires.1) in
    node_found _ _ _ _ _ (c.in_ok-operand-in-SizeofExpr.ensures.agrees p.operand p.stand)

pub expressions::expression-returns-in_err-operand-in-SizeofExpr-clause-agrees : goal.expressions::expression-returns-in_err-operand-in-SizeofExpr-clause-agrees
expressions::expression-returns-in_err-operand-in-SizeofExpr-clause-agrees t c =
    let q = err_from_is_err_and c.from_residual-in_err-operand-in-SizeofExpr.result c.from_residual-in_err-operand-in-SizeofExpr.ensures.1 in
    λ x h. one_fails c.args.env.now c.args.env.now c.expression-in-SizeofExpr.new.env (sizeof_expr_parts c.args.tree.now c.args.id c.expr-node.result.now c.in-SizeofExpr.operand c.expr-node.ensures.node c.in-SizeofExpr.is x h) c.from_residual-in_err-operand-in-SizeofExpr.result c.in_err-operand-in-SizeofExpr.field-0.0 (q.1 ∙ ap Err q.2) c.in_err-operand-in-SizeofExpr.ensures.agrees

pub expressions::expression-returns-in_err-operand-in-SizeofExpr-clause-kept : goal.expressions::expression-returns-in_err-operand-in-SizeofExpr-clause-kept
expressions::expression-returns-in_err-operand-in-SizeofExpr-clause-kept t c =
    c.in_err-operand-in-SizeofExpr.ensures.kept

pub expressions::expression-returns-in_ok-operand-in-SizeofExpr-clause-agrees : goal.expressions::expression-returns-in_ok-operand-in-SizeofExpr-clause-agrees
expressions::expression-returns-in_ok-operand-in-SizeofExpr-clause-agrees t c =
    λ x h. one_noted c.args.env.now c.expression-in-SizeofExpr.new.env c.size_of_operand.new.env (sizeof_expr_parts c.args.tree.now c.args.id c.expr-node.result.now c.in-SizeofExpr.operand c.expr-node.ensures.node c.in-SizeofExpr.is x h) c.in_ok-operand-in-SizeofExpr.operand c.size_of_operand.result c.in_ok-operand-in-SizeofExpr.ensures.agrees c.in_ok-operand-in-SizeofExpr.ensures.kept.env c.size_of_operand.ensures.agrees

pub expressions::expression-returns-in_ok-operand-in-SizeofExpr-clause-kept : goal.expressions::expression-returns-in_ok-operand-in-SizeofExpr-clause-kept
expressions::expression-returns-in_ok-operand-in-SizeofExpr-clause-kept t c =
    then_stay _ _ _ c.in_ok-operand-in-SizeofExpr.ensures.kept c.size_of_operand.ensures.kept

pub expressions::expression-expression-requires-in-Member : goal.expressions::expression-expression-requires-in-Member
expressions::expression-expression-requires-in-Member t c =
    let p = (member_parts c.args.tree.now c.args.id c.expr-node.result.now c.in-Member.operand c.in-Member.name c.expr-node.ensures.node c.in-Member.is c.requires.0 c.requires.1) in
    (omega (arith, below_expr c.args.tree.now c.args.id c.expr-node.result.now (exprs.Member c.in-Member.operand c.in-Member.name) c.requires c.expr-node.ensures.node c.in-Member.is), operand_fits p c.requires.2)

pub expressions::expression-member-requires : goal.expressions::expression-member-requires
expressions::expression-member-requires t c =
    let p = (member_parts c.args.tree.now c.args.id c.expr-node.result.now c.in-Member.operand c.in-Member.name c.expr-node.ensures.node c.in-Member.is c.requires.0 c.requires.1) in
    record { inside = node_found _ _ _ _ _ (c.in_ok-operand-in-Member.ensures.agrees p.operand p.stand) }

pub expressions::expression-returns-in_err-operand-in-Member-clause-agrees : goal.expressions::expression-returns-in_err-operand-in-Member-clause-agrees
expressions::expression-returns-in_err-operand-in-Member-clause-agrees t c =
    let q = err_from_is_err_and c.from_residual-in_err-operand-in-Member.result c.from_residual-in_err-operand-in-Member.ensures.1 in
    λ x h. one_fails c.args.env.now c.args.env.now c.expression-in-Member.new.env (member_parts c.args.tree.now c.args.id c.expr-node.result.now c.in-Member.operand c.in-Member.name c.expr-node.ensures.node c.in-Member.is x h) c.from_residual-in_err-operand-in-Member.result c.in_err-operand-in-Member.field-0.0 (q.1 ∙ ap Err q.2) c.in_err-operand-in-Member.ensures.agrees

pub expressions::expression-returns-in_err-operand-in-Member-clause-kept : goal.expressions::expression-returns-in_err-operand-in-Member-clause-kept
expressions::expression-returns-in_err-operand-in-Member-clause-kept t c =
    c.in_err-operand-in-Member.ensures.kept

pub expressions::expression-returns-in_ok-operand-in-Member-clause-agrees : goal.expressions::expression-returns-in_ok-operand-in-Member-clause-agrees
expressions::expression-returns-in_ok-operand-in-Member-clause-agrees t c =
    λ x h. one_done c.args.env.now c.expression-in-Member.new.env c.member.new.self (member_parts c.args.tree.now c.args.id c.expr-node.result.now c.in-Member.operand c.in-Member.name c.expr-node.ensures.node c.in-Member.is x h) c.in_ok-operand-in-Member.operand c.member.result c.in_ok-operand-in-Member.ensures.agrees c.in_ok-operand-in-Member.ensures.kept.env (agrees_as (StandsAt c.member.new.self.table) _ _ c.member.result (ap (member c.expression-in-Member.new.env.env c.expr-node.result.now.from (node_at c.expression-in-Member.new.env.table c.in_ok-operand-in-Member.operand)) (sym c.as_slice-in-Member.ensures.bytes)) c.member.ensures.agrees) c.member.ensures.kept.notes

pub expressions::expression-returns-in_ok-operand-in-Member-clause-kept : goal.expressions::expression-returns-in_ok-operand-in-Member-clause-kept
expressions::expression-returns-in_ok-operand-in-Member-clause-kept t c =
    then_stay _ _ _ c.in_ok-operand-in-Member.ensures.kept (all_stay _ _ c.member.ensures.kept)

pub expressions::expression-expression-requires-in-Arrow : goal.expressions::expression-expression-requires-in-Arrow
expressions::expression-expression-requires-in-Arrow t c =
    let p = (arrow_parts c.args.tree.now c.args.id c.expr-node.result.now c.in-Arrow.operand c.in-Arrow.name c.expr-node.ensures.node c.in-Arrow.is c.requires.0 c.requires.1) in
    (omega (arith, below_expr c.args.tree.now c.args.id c.expr-node.result.now (exprs.Arrow c.in-Arrow.operand c.in-Arrow.name) c.requires c.expr-node.ensures.node c.in-Arrow.is), operand_fits p c.requires.2)

pub expressions::expression-arrow-requires : goal.expressions::expression-arrow-requires
expressions::expression-arrow-requires t c =
    let p = (arrow_parts c.args.tree.now c.args.id c.expr-node.result.now c.in-Arrow.operand c.in-Arrow.name c.expr-node.ensures.node c.in-Arrow.is c.requires.0 c.requires.1) in
    node_found _ _ _ _ _ (c.in_ok-operand-in-Arrow.ensures.agrees p.operand p.stand)

pub expressions::expression-returns-in_err-operand-in-Arrow-clause-agrees : goal.expressions::expression-returns-in_err-operand-in-Arrow-clause-agrees
expressions::expression-returns-in_err-operand-in-Arrow-clause-agrees t c =
    let q = err_from_is_err_and c.from_residual-in_err-operand-in-Arrow.result c.from_residual-in_err-operand-in-Arrow.ensures.1 in
    λ x h. one_fails c.args.env.now c.args.env.now c.expression-in-Arrow.new.env (arrow_parts c.args.tree.now c.args.id c.expr-node.result.now c.in-Arrow.operand c.in-Arrow.name c.expr-node.ensures.node c.in-Arrow.is x h) c.from_residual-in_err-operand-in-Arrow.result c.in_err-operand-in-Arrow.field-0.0 (q.1 ∙ ap Err q.2) c.in_err-operand-in-Arrow.ensures.agrees

pub expressions::expression-returns-in_err-operand-in-Arrow-clause-kept : goal.expressions::expression-returns-in_err-operand-in-Arrow-clause-kept
expressions::expression-returns-in_err-operand-in-Arrow-clause-kept t c =
    c.in_err-operand-in-Arrow.ensures.kept

pub expressions::expression-returns-in_ok-operand-in-Arrow-clause-agrees : goal.expressions::expression-returns-in_ok-operand-in-Arrow-clause-agrees
expressions::expression-returns-in_ok-operand-in-Arrow-clause-agrees t c =
    λ x h. one_done c.args.env.now c.expression-in-Arrow.new.env c.arrow.new.env (arrow_parts c.args.tree.now c.args.id c.expr-node.result.now c.in-Arrow.operand c.in-Arrow.name c.expr-node.ensures.node c.in-Arrow.is x h) c.in_ok-operand-in-Arrow.operand c.arrow.result c.in_ok-operand-in-Arrow.ensures.agrees c.in_ok-operand-in-Arrow.ensures.kept.env (agrees_as (StandsAt c.arrow.new.env.table) _ _ c.arrow.result (ap (arrow_from c.expression-in-Arrow.new.env.env c.expr-node.result.now.from (node_at c.expression-in-Arrow.new.env.table c.in_ok-operand-in-Arrow.operand)) (sym c.as_slice-in-Arrow.ensures.bytes)) c.arrow.ensures.agrees) c.arrow.ensures.kept.notes

pub expressions::expression-returns-in_ok-operand-in-Arrow-clause-kept : goal.expressions::expression-returns-in_ok-operand-in-Arrow-clause-kept
expressions::expression-returns-in_ok-operand-in-Arrow-clause-kept t c =
    then_stay _ _ _ c.in_ok-operand-in-Arrow.ensures.kept (all_stay _ _ c.arrow.ensures.kept)

pub expressions::expression-declared_type-requires : goal.expressions::expression-declared_type-requires
expressions::expression-declared_type-requires t c =
    let p = (sizeof_type_parts c.args.tree.now c.args.id c.expr-node.result.now c.in-SizeofType.name c.expr-node.ensures.node c.in-SizeofType.is c.requires.0 c.requires.1) in
    (omega (arith, below_expr c.args.tree.now c.args.id c.expr-node.result.now (exprs.SizeofType c.in-SizeofType.name) c.requires c.expr-node.ensures.node c.in-SizeofType.is), type_fits p c.requires.2)

pub expressions::expression-size_of_type-requires : goal.expressions::expression-size_of_type-requires
expressions::expression-size_of_type-requires t c =
    let p = (sizeof_type_parts c.args.tree.now c.args.id c.expr-node.result.now c.in-SizeofType.name c.expr-node.ensures.node c.in-SizeofType.is c.requires.0 c.requires.1) in
    type_found _ _ c.declared_type.new.env.table _ _ (c.in_ok-ty-in-SizeofType.ensures.agrees p.name p.stand)

pub expressions::expression-returns-in_err-ty-in-SizeofType-clause-agrees : goal.expressions::expression-returns-in_err-ty-in-SizeofType-clause-agrees
expressions::expression-returns-in_err-ty-in-SizeofType-clause-agrees t c =
    let q = err_from_is_err_and c.from_residual-in_err-ty-in-SizeofType.result c.from_residual-in_err-ty-in-SizeofType.ensures.1 in
    λ x h. type_fails c.args.env.now c.args.env.now c.declared_type.new.env (sizeof_type_parts c.args.tree.now c.args.id c.expr-node.result.now c.in-SizeofType.name c.expr-node.ensures.node c.in-SizeofType.is x h) c.from_residual-in_err-ty-in-SizeofType.result c.in_err-ty-in-SizeofType.field-0.0 (q.1 ∙ ap Err q.2) c.in_err-ty-in-SizeofType.ensures.agrees

pub expressions::expression-returns-in_err-ty-in-SizeofType-clause-kept : goal.expressions::expression-returns-in_err-ty-in-SizeofType-clause-kept
expressions::expression-returns-in_err-ty-in-SizeofType-clause-kept t c =
    c.in_err-ty-in-SizeofType.ensures.kept

pub expressions::expression-returns-in_ok-ty-in-SizeofType-clause-agrees : goal.expressions::expression-returns-in_ok-ty-in-SizeofType-clause-agrees
expressions::expression-returns-in_ok-ty-in-SizeofType-clause-agrees t c =
    λ x h. type_done c.args.env.now c.declared_type.new.env c.size_of_type.new.env (sizeof_type_parts c.args.tree.now c.args.id c.expr-node.result.now c.in-SizeofType.name c.expr-node.ensures.node c.in-SizeofType.is x h) c.in_ok-ty-in-SizeofType.ty c.size_of_type.result c.in_ok-ty-in-SizeofType.ensures.agrees c.in_ok-ty-in-SizeofType.ensures.kept.env c.size_of_type.ensures.agrees c.size_of_type.ensures.kept.notes

pub expressions::expression-returns-in_ok-ty-in-SizeofType-clause-kept : goal.expressions::expression-returns-in_ok-ty-in-SizeofType-clause-kept
expressions::expression-returns-in_ok-ty-in-SizeofType-clause-kept t c =
    then_stay _ _ _ c.in_ok-ty-in-SizeofType.ensures.kept (all_stay _ _ c.size_of_type.ensures.kept)

pub expressions::expression-declared_type-requires-in-Cast : goal.expressions::expression-declared_type-requires-in-Cast
expressions::expression-declared_type-requires-in-Cast t c =
    let p = (cast_parts c.args.tree.now c.args.id c.expr-node.result.now c.in-Cast.name c.in-Cast.operand c.expr-node.ensures.node c.in-Cast.is c.requires.0 c.requires.1) in
    (omega (arith, below_expr c.args.tree.now c.args.id c.expr-node.result.now (exprs.Cast c.in-Cast.name c.in-Cast.operand) c.requires c.expr-node.ensures.node c.in-Cast.is), target_fits p c.requires.2)

pub expressions::expression-expression-requires-in-Cast : goal.expressions::expression-expression-requires-in-Cast
expressions::expression-expression-requires-in-Cast t c =
    let p = (cast_parts c.args.tree.now c.args.id c.expr-node.result.now c.in-Cast.name c.in-Cast.operand c.expr-node.ensures.node c.in-Cast.is c.requires.0 c.requires.1) in
    (omega (arith, below_expr c.args.tree.now c.args.id c.expr-node.result.now (exprs.Cast c.in-Cast.name c.in-Cast.operand) c.requires c.expr-node.ensures.node c.in-Cast.is), cast_operand_fits p c.requires.2)

pub expressions::expression-cast-requires : goal.expressions::expression-cast-requires
expressions::expression-cast-requires t c =
    let p = (cast_parts c.args.tree.now c.args.id c.expr-node.result.now c.in-Cast.name c.in-Cast.operand c.expr-node.ensures.node c.in-Cast.is c.requires.0 c.requires.1) in
    record { ty = type_inside _ _ _ c.in_ok-operand-in-Cast.ensures.kept.numbers (type_found _ _ c.declared_type-in-Cast.new.env.table _ _ (c.in_ok-ty-in-Cast.ensures.agrees p.name p.on_name)); operand = node_found _ _ _ _ _ (c.in_ok-operand-in-Cast.ensures.agrees p.operand p.on_operand) }

pub expressions::expression-returns-in_err-ty-in-Cast-clause-agrees : goal.expressions::expression-returns-in_err-ty-in-Cast-clause-agrees
expressions::expression-returns-in_err-ty-in-Cast-clause-agrees t c =
    let q = err_from_is_err_and c.from_residual-in_err-ty-in-Cast.result c.from_residual-in_err-ty-in-Cast.ensures.1 in
    λ x h. target_fails c.args.env.now c.args.env.now c.declared_type-in-Cast.new.env (cast_parts c.args.tree.now c.args.id c.expr-node.result.now c.in-Cast.name c.in-Cast.operand c.expr-node.ensures.node c.in-Cast.is x h) c.from_residual-in_err-ty-in-Cast.result c.in_err-ty-in-Cast.field-0.0 (q.1 ∙ ap Err q.2) c.in_err-ty-in-Cast.ensures.agrees

pub expressions::expression-returns-in_err-ty-in-Cast-clause-kept : goal.expressions::expression-returns-in_err-ty-in-Cast-clause-kept
expressions::expression-returns-in_err-ty-in-Cast-clause-kept t c =
    c.in_err-ty-in-Cast.ensures.kept

pub expressions::expression-returns-in_err-operand-in-Cast-clause-agrees : goal.expressions::expression-returns-in_err-operand-in-Cast-clause-agrees
expressions::expression-returns-in_err-operand-in-Cast-clause-agrees t c =
    let q = err_from_is_err_and c.from_residual-in_err-operand-in-Cast.result c.from_residual-in_err-operand-in-Cast.ensures.1 in
    λ x h. wholes.cast_operand_fails c.args.env.now c.declared_type-in-Cast.new.env c.expression-in-Cast.new.env (cast_parts c.args.tree.now c.args.id c.expr-node.result.now c.in-Cast.name c.in-Cast.operand c.expr-node.ensures.node c.in-Cast.is x h) c.in_ok-ty-in-Cast.ty c.from_residual-in_err-operand-in-Cast.result c.in_err-operand-in-Cast.field-0.0 (q.1 ∙ ap Err q.2) c.in_ok-ty-in-Cast.ensures.agrees c.in_ok-ty-in-Cast.ensures.kept c.in_err-operand-in-Cast.ensures.agrees

pub expressions::expression-returns-in_err-operand-in-Cast-clause-kept : goal.expressions::expression-returns-in_err-operand-in-Cast-clause-kept
expressions::expression-returns-in_err-operand-in-Cast-clause-kept t c =
    then_stay _ _ _ c.in_ok-ty-in-Cast.ensures.kept c.in_err-operand-in-Cast.ensures.kept

pub expressions::expression-returns-in_ok-operand-in-Cast-clause-agrees : goal.expressions::expression-returns-in_ok-operand-in-Cast-clause-agrees
expressions::expression-returns-in_ok-operand-in-Cast-clause-agrees t c =
    λ x h. cast_done c.args.env.now c.declared_type-in-Cast.new.env c.expression-in-Cast.new.env (cast_parts c.args.tree.now c.args.id c.expr-node.result.now c.in-Cast.name c.in-Cast.operand c.expr-node.ensures.node c.in-Cast.is x h) c.cast.new.env c.in_ok-ty-in-Cast.ty c.in_ok-operand-in-Cast.operand c.cast.result c.in_ok-ty-in-Cast.ensures.agrees c.in_ok-ty-in-Cast.ensures.kept c.in_ok-operand-in-Cast.ensures.agrees c.in_ok-operand-in-Cast.ensures.kept c.cast.ensures.agrees c.cast.ensures.kept.notes

pub expressions::expression-returns-in_ok-operand-in-Cast-clause-kept : goal.expressions::expression-returns-in_ok-operand-in-Cast-clause-kept
expressions::expression-returns-in_ok-operand-in-Cast-clause-kept t c =
    then_stay _ _ _ c.in_ok-ty-in-Cast.ensures.kept (then_stay _ _ _ c.in_ok-operand-in-Cast.ensures.kept (all_stay _ _ c.cast.ensures.kept))

pub expressions::expression-call-requires : goal.expressions::expression-call-requires
expressions::expression-call-requires t c =
    let p = (call_parts c.args.tree.now c.args.id c.expr-node.result.now c.in-Call.callee c.in-Call.arguments c.expr-node.ensures.node c.in-Call.is c.requires.0 c.requires.1) in
    let same = c.as_slice-in-Call.ensures.items in
    (omega (arith, below_expr c.args.tree.now c.args.id c.expr-node.result.now (exprs.Call c.in-Call.callee c.in-Call.arguments) c.requires c.expr-node.ensures.node c.in-Call.is, ap (λ is. greatest (height_in c.args.tree.now) (map AnExpr is)) same), (callee_fits p c.requires.2, subst (AreExprs c.args.tree.now) (sym same) (arguments_fit p c.requires.2)))

pub expressions::expression-returns-in-Call-clause-agrees : goal.expressions::expression-returns-in-Call-clause-agrees
expressions::expression-returns-in-Call-clause-agrees t c =
    λ x h. call_done c.args.env.now c.call.new.env (call_parts c.args.tree.now c.args.id c.expr-node.result.now c.in-Call.callee c.in-Call.arguments c.expr-node.ensures.node c.in-Call.is x h) c.call.result (λ y ys k l. c.call.ensures.agrees y ys k (subst (λ is. StandExprs c.args.tree.now is ys) (sym c.as_slice-in-Call.ensures.items) l))

pub expressions::expression-returns-in-Call-clause-kept : goal.expressions::expression-returns-in-Call-clause-kept
expressions::expression-returns-in-Call-clause-kept t c =
    c.call.ensures.kept

pub expressions::operands-expression-requires : goal.expressions::operands-expression-requires
expressions::operands-expression-requires t c =
    (omega arith, c.requires.left)

pub expressions::operands-expression-requires-2 : goal.expressions::operands-expression-requires-2
expressions::operands-expression-requires-2 t c =
    (omega arith, c.requires.right)

pub expressions::operands-returns-in_err-left-clause-agrees : goal.expressions::operands-returns-in_err-left-clause-agrees
expressions::operands-returns-in_err-left-clause-agrees t c =
    let q = err_from_is_err_and c.from_residual.result c.from_residual.ensures.1 in
    λ x y h k. failed _ _ (AreBoth c.expression.new.env.table) (operands x y c.args.env.now.env) c.from_residual.result c.in_err-left.field-0.0 (q.1 ∙ ap Err q.2) (left_stops (notes_of c.args.env.now) (notes_of c.expression.new.env) (notes_of c.expression.new.env) c.expression.new.env.table c.expression.new.env.table (expression x c.args.env.now.env) (expression y c.args.env.now.env) c.in_err-left.field-0.0 (c.in_err-left.ensures.agrees x h))

pub expressions::operands-returns-in_err-left-clause-kept : goal.expressions::operands-returns-in_err-left-clause-kept
expressions::operands-returns-in_err-left-clause-kept t c =
    c.in_err-left.ensures.kept

pub expressions::operands-returns-in_err-right-clause-agrees : goal.expressions::operands-returns-in_err-right-clause-agrees
expressions::operands-returns-in_err-right-clause-agrees t c =
    let q = err_from_is_err_and c.from_residual-in_err-right.result c.from_residual-in_err-right.ensures.1 in
    λ x y h k. failed _ _ (AreBoth c.expression-2.new.env.table) (operands x y c.args.env.now.env) c.from_residual-in_err-right.result c.in_err-right.field-0.0 (q.1 ∙ ap Err q.2) (right_stops c.args.env.now c.expression.new.env c.expression-2.new.env (expression x c.args.env.now.env) (expression y) c.in_ok-left.left c.in_err-right.field-0.0 (c.in_ok-left.ensures.agrees x h) c.in_ok-left.ensures.kept (c.in_err-right.ensures.agrees y k))

pub expressions::operands-returns-in_err-right-clause-kept : goal.expressions::operands-returns-in_err-right-clause-kept
expressions::operands-returns-in_err-right-clause-kept t c =
    then_stay _ _ _ c.in_ok-left.ensures.kept c.in_err-right.ensures.kept

pub expressions::operands-returns-clause-agrees : goal.expressions::operands-returns-clause-agrees
expressions::operands-returns-clause-agrees t c =
    λ x y h k. both_found c.args.env.now c.expression.new.env c.expression-2.new.env (expression x c.args.env.now.env) (expression y) c.in_ok-left.left c.in_ok-right.right (c.in_ok-left.ensures.agrees x h) c.in_ok-left.ensures.kept (c.in_ok-right.ensures.agrees y k) c.in_ok-right.ensures.kept

pub expressions::operands-returns-clause-kept : goal.expressions::operands-returns-clause-kept
expressions::operands-returns-clause-kept t c =
    then_stay _ _ _ c.in_ok-left.ensures.kept c.in_ok-right.ensures.kept

pub calls::call-call_target-requires : goal.calls::call-call_target-requires
calls::call-call_target-requires t c =
    (omega arith, c.requires.callee)

pub calls::call-arguments-requires : goal.calls::call-arguments-requires
calls::call-arguments-requires t c =
    (omega arith, (c.requires.ids, function_inside _ _ c.call_target.new.env.table _ _ (c.in_ok-target.ensures.agrees c.requires.callee.0 c.requires.callee.1)))

pub calls::call-returns-in_err-target-clause-agrees : goal.calls::call-returns-in_err-target-clause-agrees
calls::call-returns-in_err-target-clause-agrees t c =
    let q = err_from_is_err_and c.from_residual.result c.from_residual.ensures.1 in
    λ x xs h k. failed _ _ (StandsAt c.call_target.new.env.table) (expression (Call c.args.from x xs) c.args.env.now.env) c.from_residual.result c.in_err-target.field-0.0 (q.1 ∙ ap Err q.2) (target_stops c.args.env.now c.call_target.new.env c.args.from x xs c.in_err-target.field-0.0 (c.in_err-target.ensures.agrees x h))

pub calls::call-returns-in_err-target-clause-kept : goal.calls::call-returns-in_err-target-clause-kept
calls::call-returns-in_err-target-clause-kept t c =
    c.in_err-target.ensures.kept

pub calls::call-returns-in_err-arguments-clause-agrees : goal.calls::call-returns-in_err-arguments-clause-agrees
calls::call-returns-in_err-arguments-clause-agrees t c =
    let q = err_from_is_err_and c.from_residual-in_err-arguments.result c.from_residual-in_err-arguments.ensures.1 in
    λ x xs h k. failed _ _ (StandsAt c.arguments.new.env.table) (expression (Call c.args.from x xs) c.args.env.now.env) c.from_residual-in_err-arguments.result c.in_err-arguments.field-0.0 (q.1 ∙ ap Err q.2) (arguments_fail c.args.env.now c.call_target.new.env c.arguments.new.env c.args.from x xs c.in_ok-target.target c.in_err-arguments.field-0.0 (c.in_ok-target.ensures.agrees x h) c.in_ok-target.ensures.kept.env (c.in_err-arguments.ensures.agrees xs k))

pub calls::call-returns-in_err-arguments-clause-kept : goal.calls::call-returns-in_err-arguments-clause-kept
calls::call-returns-in_err-arguments-clause-kept t c =
    then_stay _ _ _ c.in_ok-target.ensures.kept c.in_err-arguments.ensures.kept

pub calls::call-add-requires : goal.calls::call-add-requires
calls::call-add-requires t c =
    record { parts = call_holds c.args.env.now c.call_target.new.env c.arguments.new.env _ _ c.in_ok-target.target c.in_ok-arguments.arguments (c.in_ok-target.ensures.agrees c.requires.callee.0 c.requires.callee.1) c.in_ok-arguments.ensures.kept (c.in_ok-arguments.ensures.agrees c.requires.ids.0 c.requires.ids.1) }

pub calls::call-returns-clause-agrees : goal.calls::call-returns-clause-agrees
calls::call-returns-clause-agrees t c =
    λ x xs h k. call_made c.args.env.now c.call_target.new.env c.arguments.new.env c.add.new.self c.args.from x xs c.in_ok-target.target c.in_ok-arguments.arguments c.in_ok-add.field-0 (c.in_ok-target.ensures.agrees x h) c.in_ok-target.ensures.kept.env (c.in_ok-arguments.ensures.agrees xs k) c.in_ok-arguments.ensures.kept c.in_ok-add.ensures.added c.in_ok-add.ensures.kept.notes

pub calls::call-returns-clause-kept : goal.calls::call-returns-clause-kept
calls::call-returns-clause-kept t c =
    then_stay _ _ _ c.in_ok-target.ensures.kept (then_stay _ _ _ c.in_ok-arguments.ensures.kept (all_stay _ _ c.in_ok-add.ensures.kept))

pub calls::call-returns-in_err-add-clause-kept : goal.calls::call-returns-in_err-add-clause-kept
calls::call-returns-in_err-add-clause-kept t c =
    then_stay _ _ _ c.in_ok-target.ensures.kept (then_stay _ _ _ c.in_ok-arguments.ensures.kept (all_stay _ _ c.in_err-add.ensures.kept))

pub calls::call_target-builtin_named-requires : goal.calls::call_target-builtin_named-requires
calls::call_target-builtin_named-requires t c =
    c.requires

pub calls::call_target-start-requires : goal.calls::call_target-start-requires
calls::call_target-start-requires t c =
    c.requires

pub calls::call_target-expression-requires : goal.calls::call_target-expression-requires
calls::call_target-expression-requires t c =
    (omega arith, c.requires)

pub calls::call_target-called-requires : goal.calls::call_target-called-requires
calls::call_target-called-requires t c =
    node_found _ _ _ _ _ (c.in_ok-callee-in-None.ensures.agrees c.requires.0 c.requires.1)

pub calls::call_target-returns-in-Some-clause-agrees : goal.calls::call_target-returns-in-Some-clause-agrees
calls::call_target-returns-in-Some-clause-agrees t c =
    λ x h. builtin_target c.in-Some.builtin x c.args.env.now c.builtin_called.new.self c.args.from c.start.result c.builtin_called.result (c.in-Some.ensures x h) (c.start.ensures x h) c.builtin_called.ensures.agrees c.builtin_called.ensures.kept.notes

pub calls::call_target-returns-in-Some-clause-kept : goal.calls::call_target-returns-in-Some-clause-kept
calls::call_target-returns-in-Some-clause-kept t c =
    all_stay _ _ c.builtin_called.ensures.kept

pub calls::call_target-returns-in_err-callee-in-None-clause-agrees : goal.calls::call_target-returns-in_err-callee-in-None-clause-agrees
calls::call_target-returns-in_err-callee-in-None-clause-agrees t c =
    let q = err_from_is_err_and c.from_residual.result c.from_residual.ensures.1 in
    λ x h. failed _ _ (IsCalled c.expression.new.env.table) (call_target x c.args.env.now.env c.args.from) c.from_residual.result c.in_err-callee-in-None.field-0.0 (q.1 ∙ ap Err q.2) (callee_stops x c.args.env.now c.expression.new.env c.args.from c.in_err-callee-in-None.field-0.0 (c.in-None.ensures x h) (c.in_err-callee-in-None.ensures.agrees x h))

pub calls::call_target-returns-in_err-callee-in-None-clause-kept : goal.calls::call_target-returns-in_err-callee-in-None-clause-kept
calls::call_target-returns-in_err-callee-in-None-clause-kept t c =
    c.in_err-callee-in-None.ensures.kept

pub calls::call_target-returns-in_ok-callee-in-None-clause-agrees : goal.calls::call_target-returns-in_ok-callee-in-None-clause-agrees
calls::call_target-returns-in_ok-callee-in-None-clause-agrees t c =
    λ x h. callee_target x c.args.env.now c.expression.new.env c.called.new.self c.args.from c.in_ok-callee-in-None.callee c.called.result (c.in-None.ensures x h) (c.in_ok-callee-in-None.ensures.agrees x h) c.in_ok-callee-in-None.ensures.kept.env c.called.ensures.agrees c.called.ensures.kept.notes

pub calls::call_target-returns-in_ok-callee-in-None-clause-kept : goal.calls::call_target-returns-in_ok-callee-in-None-clause-kept
calls::call_target-returns-in_ok-callee-in-None-clause-kept t c =
    then_stay _ _ _ c.in_ok-callee-in-None.ensures.kept (all_stay _ _ c.called.ensures.kept)

pub calls::argument-parameter-requires : goal.calls::argument-parameter-requires
calls::argument-parameter-requires t c =
    c.requires.function

pub calls::argument-expression-requires : goal.calls::argument-expression-requires
calls::argument-expression-requires t c =
    (omega arith, c.requires.id)

pub calls::argument-start-requires : goal.calls::argument-start-requires
calls::argument-start-requires t c =
    c.requires.id

pub calls::argument-converted-requires : goal.calls::argument-converted-requires
calls::argument-converted-requires t c =
    record { ty = type_inside _ _ _ c.in_ok-operand-in-Some.ensures.kept.numbers c.in-Some.ensures.0; operand = node_found _ _ _ _ _ (c.in_ok-operand-in-Some.ensures.agrees c.requires.id.0 c.requires.id.1) }

pub calls::argument-returns-in_err-operand-in-Some-clause-agrees : goal.calls::argument-returns-in_err-operand-in-Some-clause-agrees
calls::argument-returns-in_err-operand-in-Some-clause-agrees t c =
    let q = err_from_is_err_and c.from_residual.result c.from_residual.ensures.1 in
    λ x h. failed _ _ (IsAt c.expression.new.env.table) (argument_of x c.args.env.now.env c.args.from (types_after c.args.number (params_of (type_at c.args.env.now.table.types c.args.function)))) c.from_residual.result c.in_err-operand-in-Some.field-0.0 (q.1 ∙ ap Err q.2) (argument_stops x c.args.env.now c.expression.new.env c.args.from (types_after c.args.number (params_of (type_at c.args.env.now.table.types c.args.function))) _ _ c.in_err-operand-in-Some.field-0.0 c.in-Some.ensures.1 (c.in_err-operand-in-Some.ensures.agrees x h))

pub calls::argument-returns-in_err-operand-in-Some-clause-kept : goal.calls::argument-returns-in_err-operand-in-Some-clause-kept
calls::argument-returns-in_err-operand-in-Some-clause-kept t c =
    c.in_err-operand-in-Some.ensures.kept

pub calls::argument-returns-in_ok-operand-in-Some-clause-agrees : goal.calls::argument-returns-in_ok-operand-in-Some-clause-agrees
calls::argument-returns-in_ok-operand-in-Some-clause-agrees t c =
    λ x h. argument_made x c.args.env.now c.expression.new.env c.converted.new.env c.args.from c.start.result (types_after c.args.number (params_of (type_at c.args.env.now.table.types c.args.function))) _ _ _ c.in_ok-operand-in-Some.operand c.converted.result c.in-Some.ensures.1 (type_stays c.args.env.now.table c.expression.new.env.table c.in-Some.ty c.in_ok-operand-in-Some.ensures.kept.numbers c.in-Some.ensures.0) (c.start.ensures x h) (c.in_ok-operand-in-Some.ensures.agrees x h) c.in_ok-operand-in-Some.ensures.kept.env c.converted.ensures.agrees c.converted.ensures.kept.notes

pub calls::argument-returns-in_ok-operand-in-Some-clause-kept : goal.calls::argument-returns-in_ok-operand-in-Some-clause-kept
calls::argument-returns-in_ok-operand-in-Some-clause-kept t c =
    then_stay _ _ _ c.in_ok-operand-in-Some.ensures.kept (all_stay _ _ c.converted.ensures.kept)

pub calls::argument-returns-in-None-clause-agrees : goal.calls::argument-returns-in-None-clause-agrees
calls::argument-returns-in-None-clause-agrees t c =
    λ x h. too_many x c.args.env.now c.args.from (types_after c.args.number (params_of (type_at c.args.env.now.table.types c.args.function))) c.args.env.now.table c.in-None.ensures

pub calls::argument-returns-in-None-clause-kept : goal.calls::argument-returns-in-None-clause-kept
calls::argument-returns-in-None-clause-kept t c =
    stay c.args.env.now

pub calls::arguments-loop-number-init : goal.calls::arguments-loop-number-init
calls::arguments-loop-number-init t c =
    record {
      kept = stay c.args.env.now;
      rest = λ xs h. rw c.in_ok-values.ensures.items (arguments_begin c.args.tree.now c.args.env.now.env c.args.from (notes_of c.args.env.now) c.args.env.now.table c.args.ids.now xs (params_of (type_at c.args.env.now.table.types c.args.function)) h);
    }

pub calls::arguments-argument-requires : goal.calls::arguments-argument-requires
calls::arguments-argument-requires t c =
    (omega (arith, expr_lower (height_in c.args.tree.now) c.args.ids.now c.loop-number.number (record { 0 = 0 }) (omega arith)), (expr_among c.args.tree.now c.args.ids.now c.loop-number.number (record { 0 = 0 }) (omega arith) c.requires.ids, type_inside _ _ _ c.loop-number.invariant.kept.numbers c.requires.function))

pub calls::arguments-loop-number-preserved : goal.calls::arguments-loop-number-preserved
calls::arguments-loop-number-preserved t c =
    record {
      kept = then_stay _ _ _ c.loop-number.invariant.kept c.in_ok-value.ensures.kept;
      rest = λ xs h. rw c.in_ok-append.ensures.ok (arguments_next c.args.tree.now c.args.env.now.env c.args.from (notes_of c.args.env.now) c.loop-number.env c.argument.new.env c.loop-number.values.items _ _ _ xs (params_of (type_at c.args.env.now.table.types c.args.function)) c.loop-number.number c.in_ok-value.value (from_here c.args.ids.now c.loop-number.number (record { 0 = 0 }) (omega arith)) c.in_ok-value.ensures.kept.numbers c.loop-number.invariant.kept.env (c.loop-number.invariant.rest xs h) (λ y s. passed (notes_of c.loop-number.env) (notes_of c.argument.new.env) (IsAt c.argument.new.env.table) _ _ (Ok c.in_ok-value.value) (ap (λ u. argument_of y c.loop-number.env.env c.args.from (types_after c.loop-number.number (params_of u))) (sym (type_stays c.args.env.now.table c.loop-number.env.table c.args.function c.loop-number.invariant.kept.numbers c.requires.function))) (c.in_ok-value.ensures.agrees y s)));
    }

pub calls::arguments-returns-in_err-value-clause-agrees : goal.calls::arguments-returns-in_err-value-clause-agrees
calls::arguments-returns-in_err-value-clause-agrees t c =
    let q = err_from_is_err_and c.from_residual-in_err-value.result c.from_residual-in_err-value.ensures.1 in
    λ xs h. failed _ _ (AreValues c.argument.new.env.table) (arguments xs c.args.env.now.env c.args.from (params_of (type_at c.args.env.now.table.types c.args.function))) c.from_residual-in_err-value.result c.in_err-value.field-0.0 (q.1 ∙ ap Err q.2) (arguments_stop c.args.tree.now c.args.env.now.env c.args.from (notes_of c.args.env.now) c.loop-number.env c.argument.new.env c.loop-number.values.items _ _ _ xs (params_of (type_at c.args.env.now.table.types c.args.function)) c.loop-number.number c.in_err-value.field-0.0 (from_here c.args.ids.now c.loop-number.number (record { 0 = 0 }) (omega arith)) c.loop-number.invariant.kept.env (c.loop-number.invariant.rest xs h) (λ y s. passed (notes_of c.loop-number.env) (notes_of c.argument.new.env) (IsAt c.argument.new.env.table) _ _ (Err c.in_err-value.field-0.0) (ap (λ u. argument_of y c.loop-number.env.env c.args.from (types_after c.loop-number.number (params_of u))) (sym (type_stays c.args.env.now.table c.loop-number.env.table c.args.function c.loop-number.invariant.kept.numbers c.requires.function))) (c.in_err-value.ensures.agrees y s)))

pub calls::arguments-returns-in_err-value-clause-kept : goal.calls::arguments-returns-in_err-value-clause-kept
calls::arguments-returns-in_err-value-clause-kept t c =
    then_stay _ _ _ c.loop-number.invariant.kept c.in_err-value.ensures.kept

pub calls::arguments-returns-in_err-append-clause-kept : goal.calls::arguments-returns-in_err-append-clause-kept
calls::arguments-returns-in_err-append-clause-kept t c =
    then_stay _ _ _ c.loop-number.invariant.kept c.in_ok-value.ensures.kept

pub calls::arguments-returns-in_err-values-clause-kept : goal.calls::arguments-returns-in_err-values-clause-kept
calls::arguments-returns-in_err-values-clause-kept t c =
    stay c.args.env.now

pub calls::arguments-parameter-requires : goal.calls::arguments-parameter-requires
calls::arguments-parameter-requires t c =
    type_inside _ _ _ c.loop-number.invariant.kept.numbers c.requires.function

pub calls::arguments-returns-in-Some-clause-agrees : goal.calls::arguments-returns-in-Some-clause-agrees
calls::arguments-returns-in-Some-clause-agrees t c =
    let at_end : c.loop-number.number ≡ length c.args.ids.now = omega arith in
    λ xs h. too_few c.args.tree.now c.args.env.now.env c.args.from (notes_of c.args.env.now) c.loop-number.env c.loop-number.values.items _ xs (params_of (type_at c.args.env.now.table.types c.args.function)) c.loop-number.number _ _ (drop_all c.loop-number.number c.args.ids.now (omega arith)) (ap (λ u. types_after c.loop-number.number (params_of u)) (sym (type_stays c.args.env.now.table c.loop-number.env.table c.args.function c.loop-number.invariant.kept.numbers c.requires.function)) ∙ (ap (λ n. types_after n (params_of (type_at c.loop-number.env.table.types c.args.function))) (at_end) ∙ c.in-Some.ensures.1)) (c.loop-number.invariant.rest xs h)

pub calls::arguments-returns-in-Some-clause-kept : goal.calls::arguments-returns-in-Some-clause-kept
calls::arguments-returns-in-Some-clause-kept t c =
    c.loop-number.invariant.kept

pub calls::arguments-returns-in_ok-new-in-None-clause-agrees : goal.calls::arguments-returns-in_ok-new-in-None-clause-agrees
calls::arguments-returns-in_ok-new-in-None-clause-agrees t c =
    let at_end : c.loop-number.number ≡ length c.args.ids.now = omega arith in
    λ xs h. rw c.in_ok-new-in-None.ensures (arguments_end c.args.tree.now c.args.env.now.env c.args.from (notes_of c.args.env.now) c.loop-number.env c.loop-number.values.items _ xs (params_of (type_at c.args.env.now.table.types c.args.function)) c.loop-number.number (drop_all c.loop-number.number c.args.ids.now (omega arith)) (ap (λ u. types_after c.loop-number.number (params_of u)) (sym (type_stays c.args.env.now.table c.loop-number.env.table c.args.function c.loop-number.invariant.kept.numbers c.requires.function)) ∙ (ap (λ n. types_after n (params_of (type_at c.loop-number.env.table.types c.args.function))) (at_end) ∙ c.in-None.ensures)) (c.loop-number.invariant.rest xs h))

pub calls::arguments-returns-in_ok-new-in-None-clause-kept : goal.calls::arguments-returns-in_ok-new-in-None-clause-kept
calls::arguments-returns-in_ok-new-in-None-clause-kept t c =
    c.loop-number.invariant.kept

pub calls::arguments-returns-in_err-new-in-None-clause-kept : goal.calls::arguments-returns-in_err-new-in-None-clause-kept
calls::arguments-returns-in_err-new-in-None-clause-kept t c =
    c.loop-number.invariant.kept

pub declarators::declared_type-decl-decl-requires : goal.declarators::declared_type-decl-decl-requires
declarators::declared_type-decl-decl-requires t c =
    record { inside = decl_inside c.args.tree.now c.args.id c.requires }

pub declarators::declared_type-declarator-requires : goal.declarators::declared_type-declarator-requires
declarators::declared_type-declarator-requires t c =
    let p = decl_parts c.args.tree.now c.args.id c.decl-decl.result.now c.decl-decl.ensures.node c.requires.0 c.requires.1 in
    let same = c.as_slice.ensures.items in
    (omega (arith, below_parts c.args.tree.now c.args.id c.decl-decl.result.now c.requires c.decl-decl.ensures.node, ap (λ vs. greatest (height_in c.args.tree.now) (by_parts vs)) same), (subst (AreParts c.args.tree.now) (sym same) (parts_fit p c.requires.2), c.in_ok-base.ensures.names.inside))

pub declarators::declared_type-note_size-requires : goal.declarators::declared_type-note_size-requires
declarators::declared_type-note_size-requires t c =
    let p = decl_parts c.args.tree.now c.args.id c.decl-decl.result.now c.decl-decl.ensures.node c.requires.0 c.requires.1 in
    type_found _ _ c.declarator.new.env.table _ _ (c.in_ok-ty.ensures.agrees p.parts (subst (λ vs. StandParts c.args.tree.now vs p.parts) (sym c.as_slice.ensures.items) p.on_parts))

pub declarators::declared_type-returns-in_err-ty-clause-agrees : goal.declarators::declared_type-returns-in_err-ty-clause-agrees
declarators::declared_type-returns-in_err-ty-clause-agrees t c =
    let q = err_from_is_err_and c.from_residual-in_err-ty.result c.from_residual-in_err-ty.ensures.1 in
    λ e h.
    let p = decl_parts c.args.tree.now c.args.id c.decl-decl.result.now c.decl-decl.ensures.node e h in
    failed _ _ (IsType c.declarator.new.env.table) (declared_type e c.args.env.now.env) c.from_residual-in_err-ty.result c.in_err-ty.field-0.0 (q.1 ∙ ap Err q.2)
    (passed (notes_of c.args.env.now) (notes_of c.declarator.new.env) (IsType c.declarator.new.env.table) _ _ (Err c.in_err-ty.field-0.0) (p.declared c.args.env.now.env)
    (declared_stops c.args.env.now c.base_type.new.self c.declarator.new.env p.parts (base_type c.args.env.now.env c.decl-decl.result.now.base) c.in_ok-base.base c.in_ok-base.ensures.names c.in_ok-base.ensures.kept c.in_err-ty.field-0.0
    (c.in_err-ty.ensures.agrees p.parts (subst (λ vs. StandParts c.args.tree.now vs p.parts) (sym c.as_slice.ensures.items) p.on_parts))))

pub declarators::declared_type-returns-in_err-ty-clause-kept : goal.declarators::declared_type-returns-in_err-ty-clause-kept
declarators::declared_type-returns-in_err-ty-clause-kept t c =
    then_stay _ _ _ (all_stay _ _ c.in_ok-base.ensures.kept) c.in_err-ty.ensures.kept

pub declarators::declared_type-returns-clause-agrees : goal.declarators::declared_type-returns-clause-agrees
declarators::declared_type-returns-clause-agrees t c =
    λ e h.
    let p = decl_parts c.args.tree.now c.args.id c.decl-decl.result.now c.decl-decl.ensures.node e h in
    passed (notes_of c.args.env.now) (notes_of c.note_size.new.env) (IsType c.note_size.new.env.table) _ _ (Ok c.in_ok-ty.ty) (p.declared c.args.env.now.env)
    (declared_made c.args.env.now c.base_type.new.self c.declarator.new.env p.parts (base_type c.args.env.now.env c.decl-decl.result.now.base) c.in_ok-base.base c.in_ok-base.ensures.names c.in_ok-base.ensures.kept c.note_size.new.env c.in_ok-ty.ty
    (c.in_ok-ty.ensures.agrees p.parts (subst (λ vs. StandParts c.args.tree.now vs p.parts) (sym c.as_slice.ensures.items) p.on_parts)) c.in_ok-ty.ensures.kept.env c.note_size.ensures.table c.note_size.ensures.noted)

pub declarators::declared_type-returns-clause-kept : goal.declarators::declared_type-returns-clause-kept
declarators::declared_type-returns-clause-kept t c =
    then_stay _ _ _ (then_stay _ _ _ (all_stay _ _ c.in_ok-base.ensures.kept) c.in_ok-ty.ensures.kept) (sized_stays _ _ c.note_size.ensures.table c.note_size.ensures.env)

pub declarators::declared_type-returns-in_err-base-clause-kept : goal.declarators::declared_type-returns-in_err-base-clause-kept
declarators::declared_type-returns-in_err-base-clause-kept t c =
    all_stay _ _ c.in_err-base.ensures.kept

pub declarators::declarator-loop-part-init : goal.declarators::declarator-loop-part-init
declarators::declarator-loop-part-init t c =
    record {
      kept = stay c.args.env.now;
      inside = c.requires.ty;
      rest = λ ps h. parts_begin c.args.tree.now c.args.env.now.env (notes_of c.args.env.now) c.args.parts.now ps (type_at c.args.env.now.table.types c.args.ty) h;
    }

pub declarators::declarator-part_type-requires : goal.declarators::declarator-part_type-requires
declarators::declarator-part_type-requires t c =
    let low = part_lower (height_in c.args.tree.now) c.args.parts.now c.loop-part.part-index c.part-item.result (omega arith) in
    (omega (arith, low, ap (λ (w : Part). greatest (height_in c.args.tree.now) (by_kind w.kind)) c.part-item.is), (subst (λ (w : Part). AreParts c.args.tree.now (w ∷ [])) (sym c.part-item.is) (part_at c.args.tree.now c.args.parts.now c.loop-part.part-index c.part-item.result (omega arith) c.requires.parts), c.loop-part.invariant.inside))

pub declarators::declarator-loop-part-preserved : goal.declarators::declarator-loop-part-preserved
declarators::declarator-loop-part-preserved t c =
    record {
      kept = then_stay _ _ _ c.loop-part.invariant.kept c.in_ok-made.ensures.kept;
      inside = (let one = subst (λ (w : Part). AreParts c.args.tree.now (w ∷ [])) (sym c.part-item.is) (part_at c.args.tree.now c.args.parts.now c.loop-part.part-index c.part-item.result (omega arith) c.requires.parts) in type_found _ _ c.part_type.new.env.table _ _ (c.in_ok-made.ensures.agrees one.0 one.1));
      rest = λ ps h. parts_next c.args.tree.now c.args.env.now.env (notes_of c.args.env.now) c.loop-part.env c.part_type.new.env c.part-item.result _ _ ps (type_at c.args.env.now.table.types c.args.ty) (type_at c.loop-part.env.table.types c.loop-part.made) c.in_ok-made.made (from_here c.args.parts.now c.loop-part.part-index c.part-item.result (omega arith) ∙ ap (λ w. w ∷ drop (c.loop-part.part-index + 1) c.args.parts.now) (sym c.part-item.is)) c.loop-part.invariant.kept.env (c.loop-part.invariant.rest ps h) c.in_ok-made.ensures.agrees;
    }

pub declarators::declarator-returns-in_err-made-clause-agrees : goal.declarators::declarator-returns-in_err-made-clause-agrees
declarators::declarator-returns-in_err-made-clause-agrees t c =
    let q = err_from_is_err_and c.from_residual.result c.from_residual.ensures.1 in
    λ ps h. failed _ _ (IsType c.part_type.new.env.table) (declarator_type ps c.args.env.now.env (type_at c.args.env.now.table.types c.args.ty)) c.from_residual.result c.in_err-made.field-0.0 (q.1 ∙ ap Err q.2) (parts_stop c.args.tree.now c.args.env.now.env (notes_of c.args.env.now) c.loop-part.env c.part_type.new.env c.part-item.result _ _ ps (type_at c.args.env.now.table.types c.args.ty) (type_at c.loop-part.env.table.types c.loop-part.made) c.in_err-made.field-0.0 (from_here c.args.parts.now c.loop-part.part-index c.part-item.result (omega arith) ∙ ap (λ w. w ∷ drop (c.loop-part.part-index + 1) c.args.parts.now) (sym c.part-item.is)) c.loop-part.invariant.kept.env (c.loop-part.invariant.rest ps h) c.in_err-made.ensures.agrees)

pub declarators::declarator-returns-in_err-made-clause-kept : goal.declarators::declarator-returns-in_err-made-clause-kept
declarators::declarator-returns-in_err-made-clause-kept t c =
    then_stay _ _ _ c.loop-part.invariant.kept c.in_err-made.ensures.kept

pub declarators::declarator-returns-clause-agrees : goal.declarators::declarator-returns-clause-agrees
declarators::declarator-returns-clause-agrees t c =
    λ ps h. parts_end c.args.tree.now c.args.env.now.env (notes_of c.args.env.now) c.loop-part.env _ ps (type_at c.args.env.now.table.types c.args.ty) c.loop-part.made (drop_all c.loop-part.part-index c.args.parts.now (omega arith)) c.loop-part.invariant.inside (c.loop-part.invariant.rest ps h)

pub declarators::declarator-returns-clause-kept : goal.declarators::declarator-returns-clause-kept
declarators::declarator-returns-clause-kept t c =
    c.loop-part.invariant.kept

pub declarators::part_type-note_size-requires : goal.declarators::part_type-note_size-requires
declarators::part_type-note_size-requires t c =
    c.requires.ty

pub declarators::part_type-add_type-requires : goal.declarators::part_type-add_type-requires
declarators::part_type-add_type-requires t c =
    record { parts = subst (λ (u : Table). IsBelow (length u.types) c.args.ty) (sym c.note_size.ensures.table) c.requires.ty }

pub declarators::part_type-returns-in_ok-add_type-in-Pointer-clause-agrees : goal.declarators::part_type-returns-in_ok-add_type-in-Pointer-clause-agrees
declarators::part_type-returns-in_ok-add_type-in-Pointer-clause-agrees t c =
    λ ps h. pointer_made c.args.tree.now c.args.part.now ps c.args.env.now c.note_size.new.env c.add_type.new.self c.args.ty c.in_ok-add_type-in-Pointer.field-0 c.in-Pointer.is h c.note_size.ensures.table c.note_size.ensures.noted c.in_ok-add_type-in-Pointer.ensures.names c.in_ok-add_type-in-Pointer.ensures.kept.notes

pub declarators::part_type-returns-in_ok-add_type-in-Pointer-clause-kept : goal.declarators::part_type-returns-in_ok-add_type-in-Pointer-clause-kept
declarators::part_type-returns-in_ok-add_type-in-Pointer-clause-kept t c =
    then_stay _ _ _ (sized_stays _ _ c.note_size.ensures.table c.note_size.ensures.env) (all_stay _ _ c.in_ok-add_type-in-Pointer.ensures.kept)

pub declarators::part_type-returns-in_err-add_type-in-Pointer-clause-kept : goal.declarators::part_type-returns-in_err-add_type-in-Pointer-clause-kept
declarators::part_type-returns-in_err-add_type-in-Pointer-clause-kept t c =
    then_stay _ _ _ (sized_stays _ _ c.note_size.ensures.table c.note_size.ensures.env) (all_stay _ _ c.in_err-add_type-in-Pointer.ensures.kept)

pub declarators::part_type-array-requires : goal.declarators::part_type-array-requires
declarators::part_type-array-requires t c =
    let same = (ap (λ k. greatest (height_in c.args.tree.now) (by_kind k)) c.in-Array.is) in
    (omega (arith, same), (size_stands c.args.tree.now c.args.part.now c.in-Array.size c.in-Array.is c.requires.part, c.requires.ty))

pub declarators::part_type-returns-in-Array-clause-agrees : goal.declarators::part_type-returns-in-Array-clause-agrees
declarators::part_type-returns-in-Array-clause-agrees t c =
    λ ps h.
    let p = array_part c.args.tree.now c.args.part.now c.in-Array.size ps c.in-Array.is h in
    passed _ _ (IsType c.array.new.env.table) _ _ c.array.result (ap (λ qs. declarator_type qs c.args.env.now.env (type_at c.args.env.now.table.types c.args.ty)) p.1) (c.array.ensures.agrees p.0 p.2)

pub declarators::part_type-returns-in-Array-clause-kept : goal.declarators::part_type-returns-in-Array-clause-kept
declarators::part_type-returns-in-Array-clause-kept t c =
    c.array.ensures.kept

pub declarators::part_type-function-requires : goal.declarators::part_type-function-requires
declarators::part_type-function-requires t c =
    let same = (ap (λ k. greatest (height_in c.args.tree.now) (by_kind k)) c.in-Params.is) in
    let list = c.as_slice.ensures.items in
    (omega (arith, same, ap (λ is. greatest (height_in c.args.tree.now) (map ADecl is)) list), (subst (AreDecls c.args.tree.now) (sym list) (params_stand c.args.tree.now c.args.part.now c.in-Params.params c.in-Params.is c.requires.part), c.requires.ty))

pub declarators::part_type-returns-in-Params-clause-agrees : goal.declarators::part_type-returns-in-Params-clause-agrees
declarators::part_type-returns-in-Params-clause-agrees t c =
    λ ps h.
    let p = function_part c.args.tree.now c.args.part.now c.in-Params.params ps c.in-Params.is h in
    passed _ _ (IsType c.function.new.env.table) _ _ c.function.result (ap (λ qs. declarator_type qs c.args.env.now.env (type_at c.args.env.now.table.types c.args.ty)) p.1)
    (c.function.ensures.agrees p.0 (subst (λ is. StandDecls c.args.tree.now is p.0) (sym c.as_slice.ensures.items) p.2))

pub declarators::part_type-returns-in-Params-clause-kept : goal.declarators::part_type-returns-in-Params-clause-kept
declarators::part_type-returns-in-Params-clause-kept t c =
    c.function.ensures.kept

pub declarators::array-complete-requires : goal.declarators::array-complete-requires
declarators::array-complete-requires t c =
    c.requires.element

pub declarators::array-note_size-requires : goal.declarators::array-note_size-requires
declarators::array-note_size-requires t c =
    c.requires.element

pub declarators::array-expression-requires : goal.declarators::array-expression-requires
declarators::array-expression-requires t c =
    (omega arith, c.requires.size)

pub declarators::array-array_with_length-requires : goal.declarators::array-array_with_length-requires
declarators::array-array_with_length-requires t c =
    let inside : IsBelow (length c.note_size.new.env.table.types) c.args.element = subst (λ (u : Table). IsBelow (length u.types) c.args.element) (sym c.note_size.ensures.table) c.requires.element in
    record { element = type_inside _ _ _ c.in_ok-size.ensures.kept.numbers inside; size = node_found _ _ _ _ _ (c.in_ok-size.ensures.agrees c.requires.size.0 c.requires.size.1) }

pub declarators::array-returns-in_err-complete-clause-agrees : goal.declarators::array-returns-in_err-complete-clause-agrees
declarators::array-returns-in_err-complete-clause-agrees t c =
    let q = err_from_is_err_and c.from_residual.result c.from_residual.ensures.1 in
    λ x h. failed _ _ (IsType c.args.env.now.table) (declarator_type (Array c.args.from x NoParts) c.args.env.now.env (type_at c.args.env.now.table.types c.args.element)) c.from_residual.result c.in_err-complete.field-0.0 (q.1 ∙ ap Err q.2) (element_stops c.args.env.now c.args.from x (type_at c.args.env.now.table.types c.args.element) c.args.env.now.table c.in_err-complete.field-0.0 c.in_err-complete.ensures.agrees)

pub declarators::array-returns-in_err-complete-clause-kept : goal.declarators::array-returns-in_err-complete-clause-kept
declarators::array-returns-in_err-complete-clause-kept t c =
    stay c.args.env.now

pub declarators::array-returns-in_err-size-clause-agrees : goal.declarators::array-returns-in_err-size-clause-agrees
declarators::array-returns-in_err-size-clause-agrees t c =
    let q = err_from_is_err_and c.from_residual-in_err-size.result c.from_residual-in_err-size.ensures.1 in
    λ x h. failed _ _ (IsType c.expression.new.env.table) (declarator_type (Array c.args.from x NoParts) c.args.env.now.env (type_at c.args.env.now.table.types c.args.element)) c.from_residual-in_err-size.result c.in_err-size.field-0.0 (q.1 ∙ ap Err q.2)
    (size_stops c.args.env.now c.note_size.new.env c.args.from x (type_at c.args.env.now.table.types c.args.element) c.in_ok-complete.ensures.agrees c.note_size.ensures.env c.note_size.ensures.noted c.expression.new.env c.in_err-size.field-0.0 (c.in_err-size.ensures.agrees x h))

pub declarators::array-returns-in_err-size-clause-kept : goal.declarators::array-returns-in_err-size-clause-kept
declarators::array-returns-in_err-size-clause-kept t c =
    then_stay _ _ _ (sized_stays _ _ c.note_size.ensures.table c.note_size.ensures.env) c.in_err-size.ensures.kept

pub declarators::array-returns-clause-agrees : goal.declarators::array-returns-clause-agrees
declarators::array-returns-clause-agrees t c =
    let inside : IsBelow (length c.note_size.new.env.table.types) c.args.element = subst (λ (u : Table). IsBelow (length u.types) c.args.element) (sym c.note_size.ensures.table) c.requires.element in
    let type : type_at c.expression.new.env.table.types c.args.element ≡ type_at c.args.env.now.table.types c.args.element =
    type_stays c.note_size.new.env.table c.expression.new.env.table c.args.element c.in_ok-size.ensures.kept.numbers inside ∙ ap (λ (u : Table). type_at u.types c.args.element) c.note_size.ensures.table in
    λ x h. array_made c.args.env.now c.note_size.new.env c.args.from x (type_at c.args.env.now.table.types c.args.element) c.in_ok-complete.ensures.agrees c.note_size.ensures.env c.note_size.ensures.noted
    c.expression.new.env c.array_with_length.new.env c.args.element c.in_ok-size.size c.array_with_length.result (c.in_ok-size.ensures.agrees x h) type c.array_with_length.ensures.agrees

pub declarators::array-returns-clause-kept : goal.declarators::array-returns-clause-kept
declarators::array-returns-clause-kept t c =
    then_stay _ _ _ (sized_stays _ _ c.note_size.ensures.table c.note_size.ensures.env) (then_stay _ _ _ c.in_ok-size.ensures.kept c.array_with_length.ensures.kept)

pub declarators::function-is_result-requires : goal.declarators::function-is_result-requires
declarators::function-is_result-requires t c =
    c.requires.ty

pub declarators::function-parameter_types-requires : goal.declarators::function-parameter_types-requires
declarators::function-parameter_types-requires t c =
    (omega arith, c.requires.params)

pub declarators::function-add_type-requires : goal.declarators::function-add_type-requires
declarators::function-add_type-requires t c =
    record { parts = (type_inside _ _ _ c.in_ok-params.ensures.kept.numbers c.requires.ty, found_below _ _ c.parameter_types.new.env.table _ _ (c.in_ok-params.ensures.agrees c.requires.params.0 c.requires.params.1)) }

pub declarators::function-returns-then-not-is_result-clause-agrees : goal.declarators::function-returns-then-not-is_result-clause-agrees
declarators::function-returns-then-not-is_result-clause-agrees t c =
    λ ds h. no_result c.args.env.now c.args.from ds (type_at c.args.env.now.table.types c.args.ty) c.args.env.now.table (sym c.is_result.ensures ∙ c.if-not-is_result.true)

pub declarators::function-returns-then-not-is_result-clause-kept : goal.declarators::function-returns-then-not-is_result-clause-kept
declarators::function-returns-then-not-is_result-clause-kept t c =
    stay c.args.env.now

pub declarators::function-returns-in_err-params-clause-agrees : goal.declarators::function-returns-in_err-params-clause-agrees
declarators::function-returns-in_err-params-clause-agrees t c =
    let q = err_from_is_err_and c.from_residual.result c.from_residual.ensures.1 in
    λ ds h. failed _ _ (IsType c.parameter_types.new.env.table) (declarator_type (Params c.args.from ds NoParts) c.args.env.now.env (type_at c.args.env.now.table.types c.args.ty)) c.from_residual.result c.in_err-params.field-0.0 (q.1 ∙ ap Err q.2) (params_stop c.args.env.now c.parameter_types.new.env c.args.from ds (type_at c.args.env.now.table.types c.args.ty) c.in_err-params.field-0.0 (sym c.is_result.ensures ∙ c.if-not-is_result.false) (c.in_err-params.ensures.agrees ds h))

pub declarators::function-returns-in_err-params-clause-kept : goal.declarators::function-returns-in_err-params-clause-kept
declarators::function-returns-in_err-params-clause-kept t c =
    c.in_err-params.ensures.kept

pub declarators::function-returns-clause-agrees : goal.declarators::function-returns-clause-agrees
declarators::function-returns-clause-agrees t c =
    λ ds h. function_made c.args.env.now c.parameter_types.new.env c.add_type.new.self c.args.from ds c.args.ty c.in_ok-params.params c.in_ok-add_type.field-0 c.requires.ty (sym c.is_result.ensures ∙ c.if-not-is_result.false) (c.in_ok-params.ensures.agrees ds h) c.in_ok-params.ensures.kept c.in_ok-add_type.ensures.names c.in_ok-add_type.ensures.kept.notes

pub declarators::function-returns-clause-kept : goal.declarators::function-returns-clause-kept
declarators::function-returns-clause-kept t c =
    then_stay _ _ _ c.in_ok-params.ensures.kept (all_stay _ _ c.in_ok-add_type.ensures.kept)

pub declarators::function-returns-in_err-add_type-clause-kept : goal.declarators::function-returns-in_err-add_type-clause-kept
declarators::function-returns-in_err-add_type-clause-kept t c =
    then_stay _ _ _ c.in_ok-params.ensures.kept (all_stay _ _ c.in_err-add_type.ensures.kept)

pub parameters::parameter_types-types_here-types-requires : goal.parameters::parameter_types-types_here-types-requires
parameters::parameter_types-types_here-types-requires t c =
    (omega arith, c.requires)

pub parameters::parameter_types-close_scope-requires : goal.parameters::parameter_types-close_scope-requires
parameters::parameter_types-close_scope-requires t c =
    can_close c.open_scope.new.self c.types_here-types.new.env c.in_ok-open_scope.ensures.within c.types_here-types.ensures.kept

pub parameters::parameter_types-returns-clause-agrees : goal.parameters::parameter_types-returns-clause-agrees
parameters::parameter_types-returns-clause-agrees t c =
    λ ds h. within_scope c.args.env.now c.open_scope.new.self c.types_here-types.new.env c.close_scope.new.self ds c.types_here-types.result c.in_ok-open_scope.ensures.opened (c.types_here-types.ensures.agrees ds h) c.close_scope.ensures

pub parameters::parameter_types-returns-clause-kept : goal.parameters::parameter_types-returns-clause-kept
parameters::parameter_types-returns-clause-kept t c =
    stays_within c.args.env.now c.open_scope.new.self c.types_here-types.new.env c.close_scope.new.self c.in_ok-open_scope.ensures.opened c.types_here-types.ensures.kept c.close_scope.ensures

pub parameters::parameter_types-returns-in_err-open_scope-clause-kept : goal.parameters::parameter_types-returns-in_err-open_scope-clause-kept
parameters::parameter_types-returns-in_err-open_scope-clause-kept t c =
    subst (Stays c.args.env.now) (sym c.in_err-open_scope.ensures.err) (stay c.args.env.now)

pub parameters::types_here-loop-place-init : goal.parameters::types_here-loop-place-init
parameters::types_here-loop-place-init t c =
    record {
      kept = stay_around _ _ (stay c.args.env.now);
      rest = λ ds h. rw c.in_ok-types.ensures.items (parameters_begin c.args.tree.now c.args.env.now.env (notes_of c.args.env.now) c.args.env.now.table c.args.ids.now ds h);
    }

pub parameters::types_here-parameter_type-requires : goal.parameters::types_here-parameter_type-requires
parameters::types_here-parameter_type-requires t c =
    (omega (arith, decl_lower (height_in c.args.tree.now) c.args.ids.now c.loop-place.place (record { 0 = 0 }) (omega arith)), (decl_among c.args.tree.now c.args.ids.now c.loop-place.place (record { 0 = 0 }) (omega arith) c.requires))

pub parameters::types_here-declare-requires : goal.parameters::types_here-declare-requires
parameters::types_here-declare-requires t c =
    let one = (decl_among c.args.tree.now c.args.ids.now c.loop-place.place (record { 0 = 0 }) (omega arith) c.requires) in
    record { id = one; ty = type_found _ _ c.parameter_type.new.env.table _ _ (c.in_ok-ty.ensures.agrees one.0 one.1) }

pub parameters::types_here-loop-place-preserved : goal.parameters::types_here-loop-place-preserved
parameters::types_here-loop-place-preserved t c =
    record {
      kept = then_stay_around _ _ _ c.loop-place.invariant.kept (then_stay_around _ _ _ (stay_around _ _ c.in_ok-ty.ensures.kept) c.in_ok-declare.ensures.kept);
      rest = λ ds h. rw c.in_ok-append.ensures.ok (parameters_next c.args.tree.now c.args.env.now.env (notes_of c.args.env.now) c.loop-place.env c.parameter_type.new.env c.declare.new.env c.loop-place.types.items c.loop-place.place _ _ _ ds c.in_ok-ty.ty (from_here c.args.ids.now c.loop-place.place (record { 0 = 0 }) (omega arith)) c.in_ok-ty.ensures.kept.numbers c.in_ok-declare.ensures.kept.numbers c.in_ok-ty.ensures.kept.env (c.loop-place.invariant.rest ds h) c.in_ok-ty.ensures.agrees c.in_ok-declare.ensures.agrees);
    }

pub parameters::types_here-returns-in_err-ty-clause-agrees : goal.parameters::types_here-returns-in_err-ty-clause-agrees
parameters::types_here-returns-in_err-ty-clause-agrees t c =
    let q = err_from_is_err_and c.from_residual-in_err-ty.result c.from_residual-in_err-ty.ensures.1 in
    λ ds h. failed _ _ (AreTypes c.parameter_type.new.env.table) (parameter_types ds c.args.env.now.env 0) c.from_residual-in_err-ty.result c.in_err-ty.field-0.0 (q.1 ∙ ap Err q.2) (type_stops c.args.tree.now c.args.env.now.env (notes_of c.args.env.now) c.loop-place.env c.parameter_type.new.env c.parameter_type.new.env.table c.loop-place.types.items c.loop-place.place _ _ _ ds c.in_err-ty.field-0.0 (from_here c.args.ids.now c.loop-place.place (record { 0 = 0 }) (omega arith)) (c.loop-place.invariant.rest ds h) c.in_err-ty.ensures.agrees)

pub parameters::types_here-returns-in_err-ty-clause-kept : goal.parameters::types_here-returns-in_err-ty-clause-kept
parameters::types_here-returns-in_err-ty-clause-kept t c =
    then_stay_around _ _ _ c.loop-place.invariant.kept (stay_around _ _ c.in_err-ty.ensures.kept)

pub parameters::types_here-returns-in_err-declare-clause-agrees : goal.parameters::types_here-returns-in_err-declare-clause-agrees
parameters::types_here-returns-in_err-declare-clause-agrees t c =
    let q = err_from_is_err_and c.from_residual-in_err-declare.result c.from_residual-in_err-declare.ensures.1 in
    λ ds h. failed _ _ (AreTypes c.declare.new.env.table) (parameter_types ds c.args.env.now.env 0) c.from_residual-in_err-declare.result c.in_err-declare.field-0.0 (q.1 ∙ ap Err q.2) (scope_stops c.args.tree.now c.args.env.now.env (notes_of c.args.env.now) c.loop-place.env c.parameter_type.new.env c.declare.new.env c.loop-place.types.items c.loop-place.place _ _ _ ds c.in_ok-ty.ty c.in_err-declare.field-0.0 (from_here c.args.ids.now c.loop-place.place (record { 0 = 0 }) (omega arith)) c.in_ok-ty.ensures.kept.env (c.loop-place.invariant.rest ds h) c.in_ok-ty.ensures.agrees c.in_err-declare.ensures.agrees)

pub parameters::types_here-returns-in_err-declare-clause-kept : goal.parameters::types_here-returns-in_err-declare-clause-kept
parameters::types_here-returns-in_err-declare-clause-kept t c =
    then_stay_around _ _ _ c.loop-place.invariant.kept (then_stay_around _ _ _ (stay_around _ _ c.in_ok-ty.ensures.kept) c.in_err-declare.ensures.kept)

pub parameters::types_here-returns-in_err-append-clause-kept : goal.parameters::types_here-returns-in_err-append-clause-kept
parameters::types_here-returns-in_err-append-clause-kept t c =
    then_stay_around _ _ _ c.loop-place.invariant.kept (then_stay_around _ _ _ (stay_around _ _ c.in_ok-ty.ensures.kept) c.in_ok-declare.ensures.kept)

pub parameters::types_here-returns-in_err-types-clause-kept : goal.parameters::types_here-returns-in_err-types-clause-kept
parameters::types_here-returns-in_err-types-clause-kept t c =
    stay_around _ _ (stay c.args.env.now)

pub parameters::types_here-returns-clause-agrees : goal.parameters::types_here-returns-clause-agrees
parameters::types_here-returns-clause-agrees t c =
    λ ds h. rw c.from.ensures (parameters_end c.args.tree.now c.args.env.now.env (notes_of c.args.env.now) c.loop-place.env c.loop-place.types.items c.loop-place.place _ ds (drop_all c.loop-place.place c.args.ids.now (omega arith)) (c.loop-place.invariant.rest ds h))

pub parameters::types_here-returns-clause-kept : goal.parameters::types_here-returns-clause-kept
parameters::types_here-returns-clause-kept t c =
    c.loop-place.invariant.kept

pub parameters::parameter_type-decl-decl-requires : goal.parameters::parameter_type-decl-decl-requires
parameters::parameter_type-decl-decl-requires t c =
    record { inside = decl_inside c.args.tree.now c.args.id c.requires }

pub parameters::parameter_type-annotation_types-requires : goal.parameters::parameter_type-annotation_types-requires
parameters::parameter_type-annotation_types-requires t c =
    let p = decl_parts c.args.tree.now c.args.id c.decl-decl.result.now c.decl-decl.ensures.node c.requires.0 c.requires.1 in
    let same = c.as_slice.ensures.items in
    (omega (arith, below_annots c.args.tree.now c.args.id c.decl-decl.result.now c.requires c.decl-decl.ensures.node, ap (λ vs. greatest (height_in c.args.tree.now) (by_annots vs)) same), subst (AreAnnots c.args.tree.now) (sym same) (annots_fit p c.requires.2))

pub parameters::parameter_type-declarator-requires : goal.parameters::parameter_type-declarator-requires
parameters::parameter_type-declarator-requires t c =
    let p = decl_parts c.args.tree.now c.args.id c.decl-decl.result.now c.decl-decl.ensures.node c.requires.0 c.requires.1 in
    let same = c.as_slice-2.ensures.items in
    (omega (arith, below_parts c.args.tree.now c.args.id c.decl-decl.result.now c.requires c.decl-decl.ensures.node, ap (λ vs. greatest (height_in c.args.tree.now) (by_parts vs)) same), (subst (AreParts c.args.tree.now) (sym same) (parts_fit p c.requires.2), c.in_ok-base.ensures.names.inside))

pub parameters::parameter_type-adjusted-requires : goal.parameters::parameter_type-adjusted-requires
parameters::parameter_type-adjusted-requires t c =
    let p = decl_parts c.args.tree.now c.args.id c.decl-decl.result.now c.decl-decl.ensures.node c.requires.0 c.requires.1 in
    type_found _ _ c.declarator.new.env.table _ _ (c.in_ok-ty.ensures.agrees p.parts (subst (λ vs. StandParts c.args.tree.now vs p.parts) (sym c.as_slice-2.ensures.items) p.on_parts))

pub parameters::parameter_type-returns-in_err-annotation_types-clause-agrees : goal.parameters::parameter_type-returns-in_err-annotation_types-clause-agrees
parameters::parameter_type-returns-in_err-annotation_types-clause-agrees t c =
    let q = err_from_is_err_and c.from_residual.result c.from_residual.ensures.1 in
    λ e h.
    let p = decl_parts c.args.tree.now c.args.id c.decl-decl.result.now c.decl-decl.ensures.node e h in
    failed _ _ (IsType c.annotation_types.new.env.table) (parameter_type e c.args.env.now.env) c.from_residual.result c.in_err-annotation_types.field-0.0 (q.1 ∙ ap Err q.2) (passed (notes_of c.args.env.now) (notes_of c.annotation_types.new.env) (IsType c.annotation_types.new.env.table) _ _ (Err c.in_err-annotation_types.field-0.0) (p.as_parameter c.args.env.now.env) (annotations_stop p.annots p.parts (base_type c.args.env.now.env c.decl-decl.result.now.base) c.decl-decl.result.now.from c.args.env.now c.annotation_types.new.env c.in_err-annotation_types.field-0.0 (c.in_err-annotation_types.ensures.agrees p.annots (subst (λ vs. StandAnnots c.args.tree.now vs p.annots) (sym c.as_slice.ensures.items) p.on_annots))))

pub parameters::parameter_type-returns-in_err-annotation_types-clause-kept : goal.parameters::parameter_type-returns-in_err-annotation_types-clause-kept
parameters::parameter_type-returns-in_err-annotation_types-clause-kept t c =
    c.in_err-annotation_types.ensures.kept

pub parameters::parameter_type-returns-in_err-base-clause-kept : goal.parameters::parameter_type-returns-in_err-base-clause-kept
parameters::parameter_type-returns-in_err-base-clause-kept t c =
    then_stay _ _ _ c.in_ok-annotation_types.ensures.kept (all_stay _ _ c.in_err-base.ensures.kept)

pub parameters::parameter_type-returns-in_err-ty-clause-agrees : goal.parameters::parameter_type-returns-in_err-ty-clause-agrees
parameters::parameter_type-returns-in_err-ty-clause-agrees t c =
    let q = err_from_is_err_and c.from_residual-in_err-ty.result c.from_residual-in_err-ty.ensures.1 in
    let names = subst (λ F. Names c.base_type.new.self.table.types c.in_ok-base.base (base_type F c.decl-decl.result.now.base)) c.in_ok-annotation_types.ensures.kept.env c.in_ok-base.ensures.names in
    λ e h.
    let p = decl_parts c.args.tree.now c.args.id c.decl-decl.result.now c.decl-decl.ensures.node e h in
    failed _ _ (IsType c.declarator.new.env.table) (parameter_type e c.args.env.now.env) c.from_residual-in_err-ty.result c.in_err-ty.field-0.0 (q.1 ∙ ap Err q.2) (passed (notes_of c.args.env.now) (notes_of c.declarator.new.env) (IsType c.declarator.new.env.table) _ _ (Err c.in_err-ty.field-0.0) (p.as_parameter c.args.env.now.env) (declarator_stops p.annots p.parts (base_type c.args.env.now.env c.decl-decl.result.now.base) c.decl-decl.result.now.from c.args.env.now c.annotation_types.new.env c.base_type.new.self c.in_ok-base.base (c.in_ok-annotation_types.ensures.agrees p.annots (subst (λ vs. StandAnnots c.args.tree.now vs p.annots) (sym c.as_slice.ensures.items) p.on_annots)) c.in_ok-annotation_types.ensures.kept.env names c.in_ok-base.ensures.kept c.declarator.new.env c.in_err-ty.field-0.0 (c.in_err-ty.ensures.agrees p.parts (subst (λ vs. StandParts c.args.tree.now vs p.parts) (sym c.as_slice-2.ensures.items) p.on_parts))))

pub parameters::parameter_type-returns-in_err-ty-clause-kept : goal.parameters::parameter_type-returns-in_err-ty-clause-kept
parameters::parameter_type-returns-in_err-ty-clause-kept t c =
    then_stay _ _ _ c.in_ok-annotation_types.ensures.kept (then_stay _ _ _ (all_stay _ _ c.in_ok-base.ensures.kept) c.in_err-ty.ensures.kept)

pub parameters::parameter_type-returns-clause-agrees : goal.parameters::parameter_type-returns-clause-agrees
parameters::parameter_type-returns-clause-agrees t c =
    let names = subst (λ F. Names c.base_type.new.self.table.types c.in_ok-base.base (base_type F c.decl-decl.result.now.base)) c.in_ok-annotation_types.ensures.kept.env c.in_ok-base.ensures.names in
    λ e h.
    let p = decl_parts c.args.tree.now c.args.id c.decl-decl.result.now c.decl-decl.ensures.node e h in
    passed _ _ (IsType c.adjusted.new.env.table) _ _ c.adjusted.result (p.as_parameter c.args.env.now.env) (parameter_made p.annots p.parts (base_type c.args.env.now.env c.decl-decl.result.now.base) c.decl-decl.result.now.from c.args.env.now c.annotation_types.new.env c.base_type.new.self c.in_ok-base.base (c.in_ok-annotation_types.ensures.agrees p.annots (subst (λ vs. StandAnnots c.args.tree.now vs p.annots) (sym c.as_slice.ensures.items) p.on_annots)) c.in_ok-annotation_types.ensures.kept.env names c.in_ok-base.ensures.kept c.declarator.new.env c.adjusted.new.env c.in_ok-ty.ty c.adjusted.result (c.in_ok-ty.ensures.agrees p.parts (subst (λ vs. StandParts c.args.tree.now vs p.parts) (sym c.as_slice-2.ensures.items) p.on_parts)) c.adjusted.ensures.agrees c.adjusted.ensures.kept.notes)

pub parameters::parameter_type-returns-clause-kept : goal.parameters::parameter_type-returns-clause-kept
parameters::parameter_type-returns-clause-kept t c =
    then_stay _ _ _ c.in_ok-annotation_types.ensures.kept (then_stay _ _ _ (all_stay _ _ c.in_ok-base.ensures.kept) (then_stay _ _ _ c.in_ok-ty.ensures.kept (all_stay _ _ c.adjusted.ensures.kept)))

pub annotations::annotation_types-loop-annot-init : goal.annotations::annotation_types-loop-annot-init
annotations::annotation_types-loop-annot-init t c =
    record {
      kept = stay c.args.env.now;
      rest = λ xs h. annots_begin c.args.tree.now c.args.env.now.env (notes_of c.args.env.now) c.args.annots.now xs h;
    }

pub annotations::annotation_types-item_types-requires : goal.annotations::annotation_types-item_types-requires
annotations::annotation_types-item_types-requires t c =
    let low = annot_lower (height_in c.args.tree.now) c.args.annots.now c.loop-annot.annot-index c.annot-item.result (omega arith) in
    let same = c.as_slice.ensures.items ∙ ap (λ (w : Annot). w.items) c.annot-item.is in
    (omega (arith, low, ap (λ ws. greatest (height_in c.args.tree.now) (by_items ws)) same), subst (AreItems c.args.tree.now) (sym same) (annot_among c.args.tree.now c.args.annots.now c.loop-annot.annot-index c.annot-item.result (omega arith) c.requires))

pub annotations::annotation_types-loop-annot-preserved : goal.annotations::annotation_types-loop-annot-preserved
annotations::annotation_types-loop-annot-preserved t c =
    record {
      kept = then_stay _ _ _ c.loop-annot.invariant.kept c.in_ok-item_types.ensures.kept;
      rest = λ xs h. annots_next c.args.tree.now c.args.env.now.env (notes_of c.args.env.now) c.loop-annot.env c.item_types.new.env c.annot-item.result _ _ xs (from_here c.args.annots.now c.loop-annot.annot-index c.annot-item.result (omega arith) ∙ ap (λ w. w ∷ drop (c.loop-annot.annot-index + 1) c.args.annots.now) (sym c.annot-item.is)) c.loop-annot.invariant.kept.env (c.loop-annot.invariant.rest xs h) (λ is s. c.in_ok-item_types.ensures.agrees is (subst (λ ws. StandItems c.args.tree.now ws is) (sym c.as_slice.ensures.items) s));
    }

pub annotations::annotation_types-returns-in_err-item_types-clause-agrees : goal.annotations::annotation_types-returns-in_err-item_types-clause-agrees
annotations::annotation_types-returns-in_err-item_types-clause-agrees t c =
    let q = err_from_is_err_and c.from_residual.result c.from_residual.ensures.1 in
    λ xs h. failed _ _ IsNothing (annotation_types xs c.args.env.now.env) c.from_residual.result c.in_err-item_types.field-0.0 (q.1 ∙ ap Err q.2) (annots_stop c.args.tree.now c.args.env.now.env (notes_of c.args.env.now) c.loop-annot.env c.item_types.new.env c.annot-item.result _ _ xs c.in_err-item_types.field-0.0 (from_here c.args.annots.now c.loop-annot.annot-index c.annot-item.result (omega arith) ∙ ap (λ w. w ∷ drop (c.loop-annot.annot-index + 1) c.args.annots.now) (sym c.annot-item.is)) c.loop-annot.invariant.kept.env (c.loop-annot.invariant.rest xs h) (λ is s. c.in_err-item_types.ensures.agrees is (subst (λ ws. StandItems c.args.tree.now ws is) (sym c.as_slice.ensures.items) s)))

pub annotations::annotation_types-returns-in_err-item_types-clause-kept : goal.annotations::annotation_types-returns-in_err-item_types-clause-kept
annotations::annotation_types-returns-in_err-item_types-clause-kept t c =
    then_stay _ _ _ c.loop-annot.invariant.kept c.in_err-item_types.ensures.kept

pub annotations::annotation_types-returns-clause-agrees : goal.annotations::annotation_types-returns-clause-agrees
annotations::annotation_types-returns-clause-agrees t c =
    λ xs h. annots_end c.args.tree.now c.args.env.now.env (notes_of c.args.env.now) (notes_of c.loop-annot.env) _ xs (drop_all c.loop-annot.annot-index c.args.annots.now (omega arith)) (c.loop-annot.invariant.rest xs h)

pub annotations::annotation_types-returns-clause-kept : goal.annotations::annotation_types-returns-clause-kept
annotations::annotation_types-returns-clause-kept t c =
    c.loop-annot.invariant.kept

pub annotations::item_types-loop-item-init : goal.annotations::item_types-loop-item-init
annotations::item_types-loop-item-init t c =
    record {
      kept = stay c.args.env.now;
      rest = λ xs h. items_begin c.args.tree.now c.args.env.now.env (notes_of c.args.env.now) c.args.items.now xs h;
    }

pub annotations::item_types-item_type-requires : goal.annotations::item_types-item_type-requires
annotations::item_types-item_type-requires t c =
    let low = item_lower (height_in c.args.tree.now) c.args.items.now c.loop-item.item-index c.item-item.result (omega arith) in
    let same = c.item-item.is in
    (omega (arith, low, ap (λ w. greatest (height_in c.args.tree.now) (by_item w)) same), subst (IsItem c.args.tree.now) (sym same) (item_among c.args.tree.now c.args.items.now c.loop-item.item-index c.item-item.result (omega arith) c.requires))

pub annotations::item_types-loop-item-preserved : goal.annotations::item_types-loop-item-preserved
annotations::item_types-loop-item-preserved t c =
    record {
      kept = then_stay _ _ _ c.loop-item.invariant.kept c.in_ok-item_type.ensures.kept;
      rest = λ xs h. items_next c.args.tree.now c.args.env.now.env (notes_of c.args.env.now) c.loop-item.env c.item_type.new.env c.item-item.result _ _ xs (from_here c.args.items.now c.loop-item.item-index c.item-item.result (omega arith) ∙ ap (λ w. w ∷ drop (c.loop-item.item-index + 1) c.args.items.now) (sym c.item-item.is)) c.loop-item.invariant.kept.env (c.loop-item.invariant.rest xs h) c.in_ok-item_type.ensures.agrees;
    }

pub annotations::item_types-returns-in_err-item_type-clause-agrees : goal.annotations::item_types-returns-in_err-item_type-clause-agrees
annotations::item_types-returns-in_err-item_type-clause-agrees t c =
    let q = err_from_is_err_and c.from_residual.result c.from_residual.ensures.1 in
    λ xs h. failed _ _ IsNothing (item_types xs c.args.env.now.env) c.from_residual.result c.in_err-item_type.field-0.0 (q.1 ∙ ap Err q.2) (items_stop c.args.tree.now c.args.env.now.env (notes_of c.args.env.now) c.loop-item.env c.item_type.new.env c.item-item.result _ _ xs c.in_err-item_type.field-0.0 (from_here c.args.items.now c.loop-item.item-index c.item-item.result (omega arith) ∙ ap (λ w. w ∷ drop (c.loop-item.item-index + 1) c.args.items.now) (sym c.item-item.is)) c.loop-item.invariant.kept.env (c.loop-item.invariant.rest xs h) c.in_err-item_type.ensures.agrees)

pub annotations::item_types-returns-in_err-item_type-clause-kept : goal.annotations::item_types-returns-in_err-item_type-clause-kept
annotations::item_types-returns-in_err-item_type-clause-kept t c =
    then_stay _ _ _ c.loop-item.invariant.kept c.in_err-item_type.ensures.kept

pub annotations::item_types-returns-clause-agrees : goal.annotations::item_types-returns-clause-agrees
annotations::item_types-returns-clause-agrees t c =
    λ xs h. items_end c.args.tree.now c.args.env.now.env (notes_of c.args.env.now) (notes_of c.loop-item.env) _ xs (drop_all c.loop-item.item-index c.args.items.now (omega arith)) (c.loop-item.invariant.rest xs h)

pub annotations::item_types-returns-clause-kept : goal.annotations::item_types-returns-clause-kept
annotations::item_types-returns-clause-kept t c =
    c.loop-item.invariant.kept

pub annotations::item_type-atom_type-requires : goal.annotations::item_type-atom_type-requires
annotations::item_type-atom_type-requires t c =
    (omega (arith, greatest_of_joined (height_in c.args.tree.now) (by_atom c.args.item.now.a) (by_second c.args.item.now.b)), first_factor c.args.tree.now c.args.item.now c.requires)

pub annotations::item_type-atom_type-requires-in-Some : goal.annotations::item_type-atom_type-requires-in-Some
annotations::item_type-atom_type-requires-in-Some t c =
    (omega (arith, greatest_of_joined (height_in c.args.tree.now) (by_atom c.args.item.now.a) (by_second c.args.item.now.b), ap (λ o. greatest (height_in c.args.tree.now) (by_second o)) c.in-Some.is), second_factor c.args.tree.now c.args.item.now c.in-Some.second c.in-Some.is c.requires)

pub annotations::item_type-returns-in_err-atom_type-clause-agrees : goal.annotations::item_type-returns-in_err-atom_type-clause-agrees
annotations::item_type-returns-in_err-atom_type-clause-agrees t c =
    let q = err_from_is_err_and c.from_residual.result c.from_residual.ensures.1 in
    λ x h. failed _ _ IsNothing (item_type x c.args.env.now.env) c.from_residual.result c.in_err-atom_type.field-0.0 (q.1 ∙ ap Err q.2) (factor_stops c.args.tree.now c.args.item.now c.args.env.now c.atom_type.new.env x c.in_err-atom_type.field-0.0 c.in_err-atom_type.ensures.agrees h)

pub annotations::item_type-returns-in_err-atom_type-clause-kept : goal.annotations::item_type-returns-in_err-atom_type-clause-kept
annotations::item_type-returns-in_err-atom_type-clause-kept t c =
    c.in_err-atom_type.ensures.kept

pub annotations::item_type-returns-in-Some-clause-agrees : goal.annotations::item_type-returns-in-Some-clause-agrees
annotations::item_type-returns-in-Some-clause-agrees t c =
    λ x h. two_factors c.args.tree.now c.args.item.now c.args.env.now c.atom_type.new.env c.atom_type-in-Some.new.env x c.in-Some.second c.atom_type-in-Some.result c.in-Some.is c.in_ok-atom_type.ensures.kept.env c.in_ok-atom_type.ensures.agrees c.atom_type-in-Some.ensures.agrees h

pub annotations::item_type-returns-in-Some-clause-kept : goal.annotations::item_type-returns-in-Some-clause-kept
annotations::item_type-returns-in-Some-clause-kept t c =
    then_stay _ _ _ c.in_ok-atom_type.ensures.kept c.atom_type-in-Some.ensures.kept

pub annotations::item_type-returns-in-None-clause-agrees : goal.annotations::item_type-returns-in-None-clause-agrees
annotations::item_type-returns-in-None-clause-agrees t c =
    λ x h. one_factor c.args.tree.now c.args.item.now c.args.env.now c.atom_type.new.env x c.in-None.is c.in_ok-atom_type.ensures.agrees h

pub annotations::item_type-returns-in-None-clause-kept : goal.annotations::item_type-returns-in-None-clause-kept
annotations::item_type-returns-in-None-clause-kept t c =
    c.in_ok-atom_type.ensures.kept

pub annotations::atom_type-declared_type-requires : goal.annotations::atom_type-declared_type-requires
annotations::atom_type-declared_type-requires t c =
    (omega (arith, ap (λ a. greatest (height_in c.args.tree.now) (by_atom a)) c.in-Sizeof.is), sizeof_name c.args.tree.now c.args.atom.now c.in-Sizeof.name c.in-Sizeof.is c.requires)

pub annotations::atom_type-sized-requires : goal.annotations::atom_type-sized-requires
annotations::atom_type-sized-requires t c =
    let p = sizeof_name c.args.tree.now c.args.atom.now c.in-Sizeof.name c.in-Sizeof.is c.requires in
    type_found _ _ c.declared_type.new.env.table _ _ (c.in_ok-ty-in-Sizeof.ensures.agrees p.0 p.1)

pub annotations::atom_type-returns-in_err-ty-in-Sizeof-clause-agrees : goal.annotations::atom_type-returns-in_err-ty-in-Sizeof-clause-agrees
annotations::atom_type-returns-in_err-ty-in-Sizeof-clause-agrees t c =
    let q = err_from_is_err_and c.from_residual.result c.from_residual.ensures.1 in
    λ x h.
    let p = sizeof_atom c.args.tree.now c.args.atom.now c.in-Sizeof.name x c.in-Sizeof.is h in
    failed _ _ IsNothing (atom_type x c.args.env.now.env c.args.from) c.from_residual.result c.in_err-ty-in-Sizeof.field-0.0 (q.1 ∙ ap Err q.2) (passed (notes_of c.args.env.now) (notes_of c.declared_type.new.env) IsNothing _ _ (Err c.in_err-ty-in-Sizeof.field-0.0) (ap (λ a. atom_type a c.args.env.now.env c.args.from) p.1)
    (stopped_in (notes_of c.args.env.now) (notes_of c.declared_type.new.env) (notes_of c.declared_type.new.env) (IsType c.declared_type.new.env.table) IsNothing (declared_type p.0 c.args.env.now.env) (sized (extents c.args.env.now.env) c.args.from) c.in_err-ty-in-Sizeof.field-0.0 (c.in_err-ty-in-Sizeof.ensures.agrees p.0 p.2)))

pub annotations::atom_type-returns-in_err-ty-in-Sizeof-clause-kept : goal.annotations::atom_type-returns-in_err-ty-in-Sizeof-clause-kept
annotations::atom_type-returns-in_err-ty-in-Sizeof-clause-kept t c =
    c.in_err-ty-in-Sizeof.ensures.kept

pub annotations::atom_type-returns-in_ok-ty-in-Sizeof-clause-agrees : goal.annotations::atom_type-returns-in_ok-ty-in-Sizeof-clause-agrees
annotations::atom_type-returns-in_ok-ty-in-Sizeof-clause-agrees t c =
    λ x h.
    let p = sizeof_atom c.args.tree.now c.args.atom.now c.in-Sizeof.name x c.in-Sizeof.is h in
    passed _ _ IsNothing _ _ c.sized.result (ap (λ a. atom_type a c.args.env.now.env c.args.from) p.1)
    (type_goes_on (λ u. IsNothing) (λ F. sized (extents F) c.args.from) c.args.env.now c.declared_type.new.env c.declared_type.new.env (declared_type p.0 c.args.env.now.env) c.in_ok-ty-in-Sizeof.ty c.sized.result (c.in_ok-ty-in-Sizeof.ensures.agrees p.0 p.2) c.in_ok-ty-in-Sizeof.ensures.kept.env c.sized.ensures refl)

pub annotations::atom_type-returns-in_ok-ty-in-Sizeof-clause-kept : goal.annotations::atom_type-returns-in_ok-ty-in-Sizeof-clause-kept
annotations::atom_type-returns-in_ok-ty-in-Sizeof-clause-kept t c =
    c.in_ok-ty-in-Sizeof.ensures.kept

pub annotations::atom_type-returns-in_default-clause-agrees : goal.annotations::atom_type-returns-in_default-clause-agrees
annotations::atom_type-returns-in_default-clause-agrees t c =
    λ x h. passed _ _ IsNothing _ _ (Ok tt) (plain_atom c.args.tree.now c.args.atom.now x c.args.env.now.env c.args.from c.in_default.not-Sizeof h) (tt, refl)

pub annotations::atom_type-returns-in_default-clause-kept : goal.annotations::atom_type-returns-in_default-clause-kept
annotations::atom_type-returns-in_default-clause-kept t c =
    stay c.args.env.now
