use Rattle.std.proofs.Common.{true, [], ◌∷◌, length, Some, None, Ok, Err, refl, sym, ap, ◌∙◌, arith, subst}
use Rattle.std.specs.List.{All}
use Rattle.std.proofs.lemmas.Result.{err_from_is_err_and}
use Rattle.c_syntax.specs.declared.statement.StmtKind.TheVariants as stmts
use Rattle.c_syntax.specs.Syntax.{Block, Do, If, IfElse, StmtEntry, While}
use Rattle.c_syntax.specs.Stands.{StandDecls, StandEntries}
use Rattle.c_types_table.specs.Tables.{IsBelow}
use Rattle.c_types_rules.specs.Statements.{entries, entry, statement}
use Rattle.c_types_program.specs.declared.statement.Statement.TheVariants.{Break, Continue}
use Rattle.c_types_environment.specs.States.{State}
use Rattle.c_types_expressions.specs.Found.{Stays}
use Rattle.c_types_expressions.specs.Walks.{AreDecls}
use Rattle.c_types_expressions.proofs.Kept.{same_table, stay, stay_around, then_kept, then_stay, then_stay_around, type_inside}
use Rattle.c_types_expressions.proofs.Wholes.{failed}
use Rattle.c_types_statements.specs.Pieces.{for_here}
use Rattle.c_types_statements.specs.Typed.{AddsDeclared, AreTyped, IsTyped, declared_in, place_in}
use Rattle.c_types_statements.specs.Walks.{AreEntries, IsEntry}
use Rattle.c_types_statements.proofs.Arms.{block_arm, break_arm, continue_arm, do_arm, expression_arm, for_arm, if_arm, if_else_arm, parts_of, return_arm, while_arm}
use Rattle.c_types_statements.proofs.Blocks.{entry_found, local_entry, same_entry, statement_breaks}
use Rattle.c_types_statements.proofs.Entries.{entries_read, entry_broken, entry_here, entry_read, no_entry_read}
use Rattle.c_types_statements.proofs.Kept.{below_kept, looping_inside}
use Rattle.c_types_statements.proofs.Lists.{entry_among}
use Rattle.c_types_statements.proofs.Lower.{block_falls, do_falls, entry_falls, for_falls, greatest_of, if_else_falls, if_falls, statement_falls, while_falls}
use Rattle.c_types_statements.proofs.OfChoices.{first_broken, if_else_found, if_found, second_broken, test_broken, tests_broken, then_broken}
use Rattle.c_types_statements.proofs.OfLoops.{body_broken, do_broken, do_found, for_body_broken, for_first_broken, for_found, for_last_broken, for_test_broken, while_broken, while_found, while_test_broken}
use Rattle.c_types_statements.proofs.OfMade.{break_stands, continue_stands}
use Rattle.c_types_statements.proofs.Parts.{local_ids, statement_entry, statement_id, stmt_inside}
use Rattle.c_types_statements.proofs.Scoped.{scope_below, scope_locals, scope_place, scope_stays, scoped_block, scoped_block_broken, scoped_for, still_open}
use Rattle.c_types_statements.proofs.+walk.Goals as goal

pub statements::statement-stmt-node-requires : goal.statements::statement-stmt-node-requires
statements::statement-stmt-node-requires t c =
    record { inside = stmt_inside c.args.tree.now c.args.id c.requires.id }

pub statements::statement-block-requires : goal.statements::statement-block-requires
statements::statement-block-requires t c =
    let same = c.as_slice.ensures.items in
    let fits = parts_of c.args.tree.now c.args.id c.stmt-node.result.now c.stmt-node.ensures.node (stmts.Block c.in-Block.items) c.in-Block.is c.requires.id in
    (omega (arith, block_falls c.args.tree.now c.args.id c.stmt-node.result.now c.requires.id c.stmt-node.ensures.node c.in-Block.items c.in-Block.is, ap (greatest_of c.args.tree.now) same), (subst (AreEntries c.args.tree.now) (sym same) fits, (c.requires.place, c.requires.locals)))

pub statements::statement-returns-in-Block-clause-agrees : goal.statements::statement-returns-in-Block-clause-agrees
statements::statement-returns-in-Block-clause-agrees t c =
    λ s h. block_arm c.args.tree.now c.args.id c.stmt-node.result.now c.stmt-node.ensures.node c.args.env.now c.block.new.env (IsTyped c.block.new.env c.block.new.locals.items) (place_in c.args.env.now c.args.place) (declared_in c.args.env.now c.args.locals.now.items) c.block.result c.in-Block.items c.in-Block.is
    (λ es k. c.block.ensures.agrees es (subst (λ vs. StandEntries c.args.tree.now vs es) (sym c.as_slice.ensures.items) k)) s h

pub statements::statement-returns-in-Block-clause-kept : goal.statements::statement-returns-in-Block-clause-kept
statements::statement-returns-in-Block-clause-kept t c =
    c.block.ensures.kept

pub statements::statement-returns-in-Block-clause-locals : goal.statements::statement-returns-in-Block-clause-locals
statements::statement-returns-in-Block-clause-locals t c =
    c.block.ensures.locals

pub statements::statement-evaluated-requires : goal.statements::statement-evaluated-requires
statements::statement-evaluated-requires t c =
    parts_of c.args.tree.now c.args.id c.stmt-node.result.now c.stmt-node.ensures.node (stmts.Expr c.in-Expr.value) c.in-Expr.is c.requires.id

pub statements::statement-returns-in-Expr-clause-agrees : goal.statements::statement-returns-in-Expr-clause-agrees
statements::statement-returns-in-Expr-clause-agrees t c =
    λ s h. expression_arm c.args.tree.now c.args.id c.stmt-node.result.now c.stmt-node.ensures.node c.args.env.now c.evaluated.new.env c.args.place c.args.locals.now.items c.evaluated.result c.requires.locals c.in-Expr.value c.in-Expr.is c.evaluated.ensures.kept c.evaluated.ensures.agrees s h

pub statements::statement-returns-in-Expr-clause-kept : goal.statements::statement-returns-in-Expr-clause-kept
statements::statement-returns-in-Expr-clause-kept t c =
    c.evaluated.ensures.kept

pub statements::statement-returns-in-Expr-clause-locals : goal.statements::statement-returns-in-Expr-clause-locals
statements::statement-returns-in-Expr-clause-locals t c =
    below_kept _ _ c.args.locals.now.items c.evaluated.ensures.kept.numbers c.requires.locals

pub statements::statement-choice-requires : goal.statements::statement-choice-requires
statements::statement-choice-requires t c =
    let fits = parts_of c.args.tree.now c.args.id c.stmt-node.result.now c.stmt-node.ensures.node (stmts.If c.in-If.test c.in-If.then None) (c.in-If.is ∙ ap (stmts.If c.in-If.test c.in-If.then) c.in-None.is) c.requires.id in
    (omega (arith, if_falls c.args.tree.now c.args.id c.stmt-node.result.now c.requires.id c.stmt-node.ensures.node c.in-If.test c.in-If.then (c.in-If.is ∙ ap (stmts.If c.in-If.test c.in-If.then) c.in-None.is)), (fits.0, (fits.1, (c.requires.place, c.requires.locals))))

pub statements::statement-returns-in-None-clause-agrees : goal.statements::statement-returns-in-None-clause-agrees
statements::statement-returns-in-None-clause-agrees t c =
    λ s h. if_arm c.args.tree.now c.args.id c.stmt-node.result.now c.stmt-node.ensures.node c.args.env.now c.choice.new.env (IsTyped c.choice.new.env c.choice.new.locals.items) (place_in c.args.env.now c.args.place) (declared_in c.args.env.now c.args.locals.now.items) c.choice.result c.in-If.test c.in-If.then (c.in-If.is ∙ ap (stmts.If c.in-If.test c.in-If.then) c.in-None.is) c.choice.ensures.agrees s h

pub statements::statement-returns-in-None-clause-kept : goal.statements::statement-returns-in-None-clause-kept
statements::statement-returns-in-None-clause-kept t c =
    c.choice.ensures.kept

pub statements::statement-returns-in-None-clause-locals : goal.statements::statement-returns-in-None-clause-locals
statements::statement-returns-in-None-clause-locals t c =
    c.choice.ensures.locals

pub statements::statement-choice_of_two-requires : goal.statements::statement-choice_of_two-requires
statements::statement-choice_of_two-requires t c =
    let fits = parts_of c.args.tree.now c.args.id c.stmt-node.result.now c.stmt-node.ensures.node (stmts.If c.in-If.test c.in-If.then (Some c.in-Some.otherwise)) (c.in-If.is ∙ ap (stmts.If c.in-If.test c.in-If.then) c.in-Some.is) c.requires.id in
    (omega (arith, if_else_falls c.args.tree.now c.args.id c.stmt-node.result.now c.requires.id c.stmt-node.ensures.node c.in-If.test c.in-If.then c.in-Some.otherwise (c.in-If.is ∙ ap (stmts.If c.in-If.test c.in-If.then) c.in-Some.is)), (fits.0, (fits.1, (fits.2, (c.requires.place, c.requires.locals)))))

pub statements::statement-returns-in-Some-clause-agrees : goal.statements::statement-returns-in-Some-clause-agrees
statements::statement-returns-in-Some-clause-agrees t c =
    λ s h. if_else_arm c.args.tree.now c.args.id c.stmt-node.result.now c.stmt-node.ensures.node c.args.env.now c.choice_of_two.new.env (IsTyped c.choice_of_two.new.env c.choice_of_two.new.locals.items) (place_in c.args.env.now c.args.place) (declared_in c.args.env.now c.args.locals.now.items) c.choice_of_two.result c.in-If.test c.in-If.then c.in-Some.otherwise (c.in-If.is ∙ ap (stmts.If c.in-If.test c.in-If.then) c.in-Some.is) c.choice_of_two.ensures.agrees s h

pub statements::statement-returns-in-Some-clause-kept : goal.statements::statement-returns-in-Some-clause-kept
statements::statement-returns-in-Some-clause-kept t c =
    c.choice_of_two.ensures.kept

pub statements::statement-returns-in-Some-clause-locals : goal.statements::statement-returns-in-Some-clause-locals
statements::statement-returns-in-Some-clause-locals t c =
    c.choice_of_two.ensures.locals

pub statements::statement-while_loop-requires : goal.statements::statement-while_loop-requires
statements::statement-while_loop-requires t c =
    let fits = parts_of c.args.tree.now c.args.id c.stmt-node.result.now c.stmt-node.ensures.node (stmts.While c.in-While.test c.in-While.body) c.in-While.is c.requires.id in
    (omega (arith, while_falls c.args.tree.now c.args.id c.stmt-node.result.now c.requires.id c.stmt-node.ensures.node c.in-While.test c.in-While.body c.in-While.is), (fits.0, (fits.1, (c.requires.place, c.requires.locals))))

pub statements::statement-returns-in-While-clause-agrees : goal.statements::statement-returns-in-While-clause-agrees
statements::statement-returns-in-While-clause-agrees t c =
    λ s h. while_arm c.args.tree.now c.args.id c.stmt-node.result.now c.stmt-node.ensures.node c.args.env.now c.while_loop.new.env (IsTyped c.while_loop.new.env c.while_loop.new.locals.items) (place_in c.args.env.now c.args.place) (declared_in c.args.env.now c.args.locals.now.items) c.while_loop.result c.in-While.test c.in-While.body c.in-While.is c.while_loop.ensures.agrees s h

pub statements::statement-returns-in-While-clause-kept : goal.statements::statement-returns-in-While-clause-kept
statements::statement-returns-in-While-clause-kept t c =
    c.while_loop.ensures.kept

pub statements::statement-returns-in-While-clause-locals : goal.statements::statement-returns-in-While-clause-locals
statements::statement-returns-in-While-clause-locals t c =
    c.while_loop.ensures.locals

pub statements::statement-do_loop-requires : goal.statements::statement-do_loop-requires
statements::statement-do_loop-requires t c =
    let fits = parts_of c.args.tree.now c.args.id c.stmt-node.result.now c.stmt-node.ensures.node (stmts.Do c.in-Do.body c.in-Do.test) c.in-Do.is c.requires.id in
    (omega (arith, do_falls c.args.tree.now c.args.id c.stmt-node.result.now c.requires.id c.stmt-node.ensures.node c.in-Do.body c.in-Do.test c.in-Do.is), (fits.0, (fits.1, (c.requires.place, c.requires.locals))))

pub statements::statement-returns-in-Do-clause-agrees : goal.statements::statement-returns-in-Do-clause-agrees
statements::statement-returns-in-Do-clause-agrees t c =
    λ s h. do_arm c.args.tree.now c.args.id c.stmt-node.result.now c.stmt-node.ensures.node c.args.env.now c.do_loop.new.env (IsTyped c.do_loop.new.env c.do_loop.new.locals.items) (place_in c.args.env.now c.args.place) (declared_in c.args.env.now c.args.locals.now.items) c.do_loop.result c.in-Do.body c.in-Do.test c.in-Do.is c.do_loop.ensures.agrees s h

pub statements::statement-returns-in-Do-clause-kept : goal.statements::statement-returns-in-Do-clause-kept
statements::statement-returns-in-Do-clause-kept t c =
    c.do_loop.ensures.kept

pub statements::statement-returns-in-Do-clause-locals : goal.statements::statement-returns-in-Do-clause-locals
statements::statement-returns-in-Do-clause-locals t c =
    c.do_loop.ensures.locals

pub statements::statement-for_loop-requires : goal.statements::statement-for_loop-requires
statements::statement-for_loop-requires t c =
    let fits = parts_of c.args.tree.now c.args.id c.stmt-node.result.now c.stmt-node.ensures.node (stmts.For c.in-For.first c.in-For.test c.in-For.last c.in-For.body) c.in-For.is c.requires.id in
    (omega (arith, for_falls c.args.tree.now c.args.id c.stmt-node.result.now c.requires.id c.stmt-node.ensures.node c.in-For.first c.in-For.test c.in-For.last c.in-For.body c.in-For.is), (fits.0, (fits.1, (fits.2, (fits.3, (c.requires.place, c.requires.locals))))))

pub statements::statement-returns-in-For-clause-agrees : goal.statements::statement-returns-in-For-clause-agrees
statements::statement-returns-in-For-clause-agrees t c =
    λ s h. for_arm c.args.tree.now c.args.id c.stmt-node.result.now c.stmt-node.ensures.node c.args.env.now c.for_loop.new.env (IsTyped c.for_loop.new.env c.for_loop.new.locals.items) (place_in c.args.env.now c.args.place) (declared_in c.args.env.now c.args.locals.now.items) c.for_loop.result c.in-For.first c.in-For.test c.in-For.last c.in-For.body c.in-For.is c.for_loop.ensures.agrees s h

pub statements::statement-returns-in-For-clause-kept : goal.statements::statement-returns-in-For-clause-kept
statements::statement-returns-in-For-clause-kept t c =
    c.for_loop.ensures.kept

pub statements::statement-returns-in-For-clause-locals : goal.statements::statement-returns-in-For-clause-locals
statements::statement-returns-in-For-clause-locals t c =
    c.for_loop.ensures.locals

pub statements::statement-returns-in-Break-clause-agrees : goal.statements::statement-returns-in-Break-clause-agrees
statements::statement-returns-in-Break-clause-agrees t c =
    λ s h. break_arm c.args.tree.now c.args.id c.stmt-node.result.now c.stmt-node.ensures.node c.args.env.now c.args.place c.args.locals.now.items Break c.in_loop_only.result c.in_loop_only.ensures c.in-Break.is (break_stands c.args.env.now.table) s h

pub statements::statement-returns-in-Break-clause-kept : goal.statements::statement-returns-in-Break-clause-kept
statements::statement-returns-in-Break-clause-kept t c =
    stay c.args.env.now

pub statements::statement-returns-in-Break-clause-locals : goal.statements::statement-returns-in-Break-clause-locals
statements::statement-returns-in-Break-clause-locals t c =
    c.requires.locals

pub statements::statement-returns-in-Continue-clause-agrees : goal.statements::statement-returns-in-Continue-clause-agrees
statements::statement-returns-in-Continue-clause-agrees t c =
    λ s h. continue_arm c.args.tree.now c.args.id c.stmt-node.result.now c.stmt-node.ensures.node c.args.env.now c.args.place c.args.locals.now.items Continue c.in_loop_only-in-Continue.result c.in_loop_only-in-Continue.ensures c.in-Continue.is (continue_stands c.args.env.now.table) s h

pub statements::statement-returns-in-Continue-clause-kept : goal.statements::statement-returns-in-Continue-clause-kept
statements::statement-returns-in-Continue-clause-kept t c =
    stay c.args.env.now

pub statements::statement-returns-in-Continue-clause-locals : goal.statements::statement-returns-in-Continue-clause-locals
statements::statement-returns-in-Continue-clause-locals t c =
    c.requires.locals

pub statements::statement-returned-requires : goal.statements::statement-returned-requires
statements::statement-returned-requires t c =
    record { id = parts_of c.args.tree.now c.args.id c.stmt-node.result.now c.stmt-node.ensures.node (stmts.Return c.in-Return.value) c.in-Return.is c.requires.id; ty = c.requires.place }

pub statements::statement-returns-in-Return-clause-agrees : goal.statements::statement-returns-in-Return-clause-agrees
statements::statement-returns-in-Return-clause-agrees t c =
    λ s h. return_arm c.args.tree.now c.args.id c.stmt-node.result.now c.stmt-node.ensures.node c.args.env.now c.returned.new.env c.args.place c.args.locals.now.items c.returned.result c.requires.locals c.in-Return.value c.in-Return.is c.returned.ensures.kept c.returned.ensures.agrees s h

pub statements::statement-returns-in-Return-clause-kept : goal.statements::statement-returns-in-Return-clause-kept
statements::statement-returns-in-Return-clause-kept t c =
    c.returned.ensures.kept

pub statements::statement-returns-in-Return-clause-locals : goal.statements::statement-returns-in-Return-clause-locals
statements::statement-returns-in-Return-clause-locals t c =
    below_kept _ _ c.args.locals.now.items c.returned.ensures.kept.numbers c.requires.locals

pub statements::block-entries-statements-requires : goal.statements::block-entries-statements-requires
statements::block-entries-statements-requires t c =
    (omega arith, (c.requires.items, (scope_place c.args.env.now c.open_scope.new.self c.in_ok-open_scope.ensures.opened c.args.place c.requires.place, scope_locals c.args.env.now c.open_scope.new.self c.in_ok-open_scope.ensures.opened c.args.locals.now.items c.requires.locals)))

pub statements::block-close_scope-requires : goal.statements::block-close_scope-requires
statements::block-close_scope-requires t c =
    still_open c.open_scope.new.self c.entries-statements.new.env c.in_ok-open_scope.ensures.within c.entries-statements.ensures.kept

pub statements::block-returns-in_err-statements-clause-agrees : goal.statements::block-returns-in_err-statements-clause-agrees
statements::block-returns-in_err-statements-clause-agrees t c =
    let q = err_from_is_err_and c.from_residual-in_err-statements.result c.from_residual-in_err-statements.ensures.1 in
    λ es h. failed _ _ (IsTyped c.close_scope.new.self c.entries-statements.new.locals.items) (statement (Block 0 es) (place_in c.args.env.now c.args.place) (declared_in c.args.env.now c.args.locals.now.items)) c.from_residual-in_err-statements.result c.in_err-statements.field-0.0 (q.1 ∙ ap Err q.2)
    (scoped_block_broken c.args.env.now c.open_scope.new.self c.entries-statements.new.env c.close_scope.new.self c.in_ok-open_scope.ensures.opened c.close_scope.ensures c.args.place c.args.locals.now.items c.entries-statements.new.locals.items es c.in_err-statements.field-0.0 (c.in_err-statements.ensures.agrees es h))

pub statements::block-returns-clause-agrees : goal.statements::block-returns-clause-agrees
statements::block-returns-clause-agrees t c =
    λ es h. scoped_block c.args.env.now c.open_scope.new.self c.entries-statements.new.env c.close_scope.new.self c.in_ok-open_scope.ensures.opened c.close_scope.ensures c.args.place c.args.locals.now.items c.entries-statements.new.locals.items es c.in_ok-statements.field-0 c.block.result (c.in_ok-statements.ensures.agrees es h) c.block.ensures

pub statements::block-returns-in_err-statements-clause-kept : goal.statements::block-returns-in_err-statements-clause-kept
statements::block-returns-in_err-statements-clause-kept t c =
    scope_stays c.args.env.now c.open_scope.new.self c.entries-statements.new.env c.close_scope.new.self c.in_ok-open_scope.ensures.opened c.close_scope.ensures c.entries-statements.ensures.kept

pub statements::block-returns-in_err-statements-clause-locals : goal.statements::block-returns-in_err-statements-clause-locals
statements::block-returns-in_err-statements-clause-locals t c =
    scope_below c.args.env.now c.open_scope.new.self c.entries-statements.new.env c.close_scope.new.self c.in_ok-open_scope.ensures.opened c.close_scope.ensures c.entries-statements.new.locals.items c.entries-statements.ensures.locals

pub statements::block-returns-clause-kept : goal.statements::block-returns-clause-kept
statements::block-returns-clause-kept t c =
    scope_stays c.args.env.now c.open_scope.new.self c.entries-statements.new.env c.close_scope.new.self c.in_ok-open_scope.ensures.opened c.close_scope.ensures c.entries-statements.ensures.kept

pub statements::block-returns-clause-locals : goal.statements::block-returns-clause-locals
statements::block-returns-clause-locals t c =
    scope_below c.args.env.now c.open_scope.new.self c.entries-statements.new.env c.close_scope.new.self c.in_ok-open_scope.ensures.opened c.close_scope.ensures c.entries-statements.new.locals.items c.entries-statements.ensures.locals

pub statements::block-returns-in_err-open_scope-clause-kept : goal.statements::block-returns-in_err-open_scope-clause-kept
statements::block-returns-in_err-open_scope-clause-kept t c =
    subst (Stays c.args.env.now) (sym c.in_err-open_scope.ensures.err) (stay c.args.env.now)

pub statements::block-returns-in_err-open_scope-clause-locals : goal.statements::block-returns-in_err-open_scope-clause-locals
statements::block-returns-in_err-open_scope-clause-locals t c =
    let Q : State → Type 0 = λ z. All (IsBelow (length z.table.types)) c.args.locals.now.items in subst Q (sym c.in_err-open_scope.ensures.err) c.requires.locals

pub statements::entries-loop-item-init : goal.statements::entries-loop-item-init
statements::entries-loop-item-init t c =
    record {
      kept = stay_around _ _ (stay c.args.env.now);
      below = c.requires.locals;
      read = λ es h. rw c.in_ok-statements.ensures.items (no_entry_read c.args.tree.now c.args.items.now es (place_in c.args.env.now c.args.place) c.args.env.now c.args.locals.now.items h);
    }

pub statements::entries-entry-requires : goal.statements::entries-entry-requires
statements::entries-entry-requires t c =
    (omega (arith, entry_falls c.args.tree.now c.args.items.now c.loop-item.item-index c.item-item.result (omega arith), ap (λ v. greatest_of c.args.tree.now (v ∷ [])) c.item-item.is), (subst (IsEntry c.args.tree.now) (sym c.item-item.is) (entry_among c.args.tree.now c.args.items.now c.loop-item.item-index c.item-item.result (omega arith) c.requires.items), (type_inside _ _ _ c.loop-item.invariant.kept.numbers c.requires.place, c.loop-item.invariant.below)))

pub statements::entries-loop-item-preserved : goal.statements::entries-loop-item-preserved
statements::entries-loop-item-preserved t c =
    record {
      kept = then_stay_around _ _ _ c.loop-item.invariant.kept c.in_ok-entry.ensures.kept;
      below = c.in_ok-entry.ensures.locals;
      read = λ es h. entry_read c.args.tree.now c.args.items.now es (place_in c.args.env.now c.args.place) c.args.env.now (declared_in c.args.env.now c.args.locals.now.items) c.loop-item.item-index c.loop-item.env c.loop-item.locals.items c.loop-item.statements.items (c.loop-item.invariant.read es h) c.item-item.result c.entry.new.env c.entry.new.locals.items c.entry.new.statements.items (omega arith) c.in_ok-entry.ensures.kept.numbers (λ x s. entry_here c.args.tree.now c.args.env.now c.loop-item.env c.entry.new.env c.args.place c.item-item.result _ x c.loop-item.locals.items (AddsDeclared c.entry.new.env c.entry.new.locals.items c.loop-item.statements.items c.entry.new.statements.items) (Ok tt) c.loop-item.invariant.kept.numbers c.requires.place c.item-item.is c.in_ok-entry.ensures.agrees s);
    }

pub statements::entries-returns-in_err-entry-clause-agrees : goal.statements::entries-returns-in_err-entry-clause-agrees
statements::entries-returns-in_err-entry-clause-agrees t c =
    let q = err_from_is_err_and c.from_residual-in_err-entry.result c.from_residual-in_err-entry.ensures.1 in
    λ es h. failed _ _ (AreTyped c.entry.new.env c.entry.new.locals.items) (entries es (place_in c.args.env.now c.args.place) (declared_in c.args.env.now c.args.locals.now.items)) c.from_residual-in_err-entry.result c.in_err-entry.field-0.0 (q.1 ∙ ap Err q.2)
    (entry_broken c.args.tree.now c.args.items.now es (place_in c.args.env.now c.args.place) c.args.env.now (declared_in c.args.env.now c.args.locals.now.items) c.loop-item.item-index c.loop-item.env c.loop-item.locals.items c.loop-item.statements.items (c.loop-item.invariant.read es h) c.item-item.result c.entry.new.env c.entry.new.env c.entry.new.locals.items c.entry.new.locals.items c.entry.new.statements.items c.in_err-entry.field-0.0 (omega arith) (λ x s. entry_here c.args.tree.now c.args.env.now c.loop-item.env c.entry.new.env c.args.place c.item-item.result _ x c.loop-item.locals.items (AddsDeclared c.entry.new.env c.entry.new.locals.items c.loop-item.statements.items c.entry.new.statements.items) (Err c.in_err-entry.field-0.0) c.loop-item.invariant.kept.numbers c.requires.place c.item-item.is c.in_err-entry.ensures.agrees s))

pub statements::entries-returns-in_err-entry-clause-kept : goal.statements::entries-returns-in_err-entry-clause-kept
statements::entries-returns-in_err-entry-clause-kept t c =
    then_stay_around _ _ _ c.loop-item.invariant.kept c.in_err-entry.ensures.kept

pub statements::entries-returns-in_err-entry-clause-locals : goal.statements::entries-returns-in_err-entry-clause-locals
statements::entries-returns-in_err-entry-clause-locals t c =
    c.in_err-entry.ensures.locals

pub statements::entries-returns-clause-agrees : goal.statements::entries-returns-clause-agrees
statements::entries-returns-clause-agrees t c =
    λ es h. entries_read c.args.tree.now c.args.items.now es (place_in c.args.env.now c.args.place) c.args.env.now (declared_in c.args.env.now c.args.locals.now.items) c.loop-item.item-index c.loop-item.env c.loop-item.locals.items c.loop-item.statements.items (c.loop-item.invariant.read es h) c.loop-item.statements refl (omega arith)

pub statements::entries-returns-clause-kept : goal.statements::entries-returns-clause-kept
statements::entries-returns-clause-kept t c =
    c.loop-item.invariant.kept

pub statements::entries-returns-clause-locals : goal.statements::entries-returns-clause-locals
statements::entries-returns-clause-locals t c =
    c.loop-item.invariant.below

pub statements::entries-returns-in_err-statements-clause-kept : goal.statements::entries-returns-in_err-statements-clause-kept
statements::entries-returns-in_err-statements-clause-kept t c =
    stay_around _ _ (stay c.args.env.now)

pub statements::entries-returns-in_err-statements-clause-locals : goal.statements::entries-returns-in_err-statements-clause-locals
statements::entries-returns-in_err-statements-clause-locals t c =
    c.requires.locals

pub statements::entry-declare_locals-requires : goal.statements::entry-declare_locals-requires
statements::entry-declare_locals-requires t c =
    record { ids = subst (AreDecls c.args.tree.now) (sym c.as_slice.ensures.items) (local_ids c.args.tree.now c.args.item.now c.in-Local.ids c.in-Local.is c.requires.item); locals = c.requires.locals }

pub statements::entry-returns-in-Local-clause-agrees : goal.statements::entry-returns-in-Local-clause-agrees
statements::entry-returns-in-Local-clause-agrees t c =
    λ e h. local_entry c.args.tree.now c.args.item.now c.in-Local.ids c.in-Local.is e (place_in c.args.env.now c.args.place) (declared_in c.args.env.now c.args.locals.now.items) c.args.env.now c.declare_locals.new.env (AddsDeclared c.declare_locals.new.env c.declare_locals.new.locals.items c.args.statements.now.items c.declare_locals.new.statements.items) c.declare_locals.result h (λ ds k. c.declare_locals.ensures.agrees ds (subst (λ is. StandDecls c.args.tree.now is ds) (sym c.as_slice.ensures.items) k))

pub statements::entry-returns-in-Local-clause-kept : goal.statements::entry-returns-in-Local-clause-kept
statements::entry-returns-in-Local-clause-kept t c =
    c.declare_locals.ensures.kept

pub statements::entry-returns-in-Local-clause-locals : goal.statements::entry-returns-in-Local-clause-locals
statements::entry-returns-in-Local-clause-locals t c =
    c.declare_locals.ensures.locals

pub statements::entry-statement-requires : goal.statements::entry-statement-requires
statements::entry-statement-requires t c =
    (omega (arith, statement_falls c.args.tree.now c.args.item.now c.in-Stmt.id c.in-Stmt.is), (statement_id c.args.tree.now c.args.item.now c.in-Stmt.id c.in-Stmt.is c.requires.item, (c.requires.place, c.requires.locals)))

pub statements::entry-returns-in_err-made-in-Stmt-clause-agrees : goal.statements::entry-returns-in_err-made-in-Stmt-clause-agrees
statements::entry-returns-in_err-made-in-Stmt-clause-agrees t c =
    let q = err_from_is_err_and c.from_residual.result c.from_residual.ensures.1 in
    λ e h.
    let p = statement_entry c.args.tree.now c.args.item.now c.in-Stmt.id c.in-Stmt.is e h in
    failed _ _ (AddsDeclared c.statement.new.env c.statement.new.locals.items c.args.statements.now.items c.args.statements.now.items) (entry e (place_in c.args.env.now c.args.place) (declared_in c.args.env.now c.args.locals.now.items)) c.from_residual.result c.in_err-made-in-Stmt.field-0.0 (q.1 ∙ ap Err q.2)
    (same_entry c.args.env.now c.statement.new.env (AddsDeclared c.statement.new.env c.statement.new.locals.items c.args.statements.now.items c.args.statements.now.items) (place_in c.args.env.now c.args.place) (declared_in c.args.env.now c.args.locals.now.items) (Err c.in_err-made-in-Stmt.field-0.0) e (StmtEntry p.0) p.1 (statement_breaks c.args.env.now c.statement.new.env c.args.place c.args.locals.now.items c.statement.new.locals.items p.0 c.args.statements.now.items c.args.statements.now.items c.in_err-made-in-Stmt.field-0.0 (c.in_err-made-in-Stmt.ensures.agrees p.0 p.2)))

pub statements::entry-returns-in_err-made-in-Stmt-clause-kept : goal.statements::entry-returns-in_err-made-in-Stmt-clause-kept
statements::entry-returns-in_err-made-in-Stmt-clause-kept t c =
    stay_around _ _ c.in_err-made-in-Stmt.ensures.kept

pub statements::entry-returns-in_err-made-in-Stmt-clause-locals : goal.statements::entry-returns-in_err-made-in-Stmt-clause-locals
statements::entry-returns-in_err-made-in-Stmt-clause-locals t c =
    c.in_err-made-in-Stmt.ensures.locals

pub statements::entry-returns-in_ok-append-in-Stmt-clause-agrees : goal.statements::entry-returns-in_ok-append-in-Stmt-clause-agrees
statements::entry-returns-in_ok-append-in-Stmt-clause-agrees t c =
    λ e h.
    let p = statement_entry c.args.tree.now c.args.item.now c.in-Stmt.id c.in-Stmt.is e h in
    same_entry c.args.env.now c.statement.new.env (AddsDeclared c.statement.new.env c.statement.new.locals.items c.args.statements.now.items c.append.new.items.items) (place_in c.args.env.now c.args.place) (declared_in c.args.env.now c.args.locals.now.items) (Ok tt) e (StmtEntry p.0) p.1 (entry_found c.args.env.now c.statement.new.env c.args.place c.args.locals.now.items c.statement.new.locals.items p.0 c.in_ok-made-in-Stmt.made c.args.statements.now.items c.append.new.items.items (c.in_ok-made-in-Stmt.ensures.agrees p.0 p.2) c.in_ok-made-in-Stmt.ensures.kept c.in_ok-append-in-Stmt.ensures.ok)

pub statements::entry-returns-in_ok-append-in-Stmt-clause-kept : goal.statements::entry-returns-in_ok-append-in-Stmt-clause-kept
statements::entry-returns-in_ok-append-in-Stmt-clause-kept t c =
    stay_around _ _ c.in_ok-made-in-Stmt.ensures.kept

pub statements::entry-returns-in_ok-append-in-Stmt-clause-locals : goal.statements::entry-returns-in_ok-append-in-Stmt-clause-locals
statements::entry-returns-in_ok-append-in-Stmt-clause-locals t c =
    c.in_ok-made-in-Stmt.ensures.locals

pub statements::entry-returns-in_err-append-in-Stmt-clause-kept : goal.statements::entry-returns-in_err-append-in-Stmt-clause-kept
statements::entry-returns-in_err-append-in-Stmt-clause-kept t c =
    stay_around _ _ c.in_ok-made-in-Stmt.ensures.kept

pub statements::entry-returns-in_err-append-in-Stmt-clause-locals : goal.statements::entry-returns-in_err-append-in-Stmt-clause-locals
statements::entry-returns-in_err-append-in-Stmt-clause-locals t c =
    c.in_ok-made-in-Stmt.ensures.locals

pub choices::choice-condition-requires : goal.choices::choice-condition-requires
choices::choice-condition-requires t c =
    c.requires.test

pub choices::choice-statement-requires : goal.choices::choice-statement-requires
choices::choice-statement-requires t c =
    (omega arith, (c.requires.then, (type_inside _ _ _ c.in_ok-test.ensures.kept.numbers c.requires.place, below_kept _ _ c.args.locals.now.items c.in_ok-test.ensures.kept.numbers c.requires.locals)))

pub choices::choice-returns-in_err-test-clause-agrees : goal.choices::choice-returns-in_err-test-clause-agrees
choices::choice-returns-in_err-test-clause-agrees t c =
    let q = err_from_is_err_and c.from_residual.result c.from_residual.ensures.1 in
    λ x s h k. failed _ _ (IsTyped c.condition.new.env c.args.locals.now.items) (statement (If 0 x s) (place_in c.args.env.now c.args.place) (declared_in c.args.env.now c.args.locals.now.items)) c.from_residual.result c.in_err-test.field-0.0 (q.1 ∙ ap Err q.2) (test_broken c.args.env.now c.condition.new.env c.args.place c.args.locals.now.items x s c.in_err-test.field-0.0 (c.in_err-test.ensures.agrees x h))

pub choices::choice-returns-in_err-test-clause-kept : goal.choices::choice-returns-in_err-test-clause-kept
choices::choice-returns-in_err-test-clause-kept t c =
    c.in_err-test.ensures.kept

pub choices::choice-returns-in_err-test-clause-locals : goal.choices::choice-returns-in_err-test-clause-locals
choices::choice-returns-in_err-test-clause-locals t c =
    below_kept _ _ c.args.locals.now.items c.in_err-test.ensures.kept.numbers c.requires.locals

pub choices::choice-returns-in_err-then-clause-agrees : goal.choices::choice-returns-in_err-then-clause-agrees
choices::choice-returns-in_err-then-clause-agrees t c =
    let q = err_from_is_err_and c.from_residual-in_err-then.result c.from_residual-in_err-then.ensures.1 in
    λ x s h k. failed _ _ (IsTyped c.statement.new.env c.statement.new.locals.items) (statement (If 0 x s) (place_in c.args.env.now c.args.place) (declared_in c.args.env.now c.args.locals.now.items)) c.from_residual-in_err-then.result c.in_err-then.field-0.0 (q.1 ∙ ap Err q.2) (then_broken c.args.env.now c.condition.new.env c.statement.new.env c.args.place c.args.locals.now.items c.statement.new.locals.items x s c.requires.place c.requires.locals c.in_ok-test.test (c.in_ok-test.ensures.agrees x h) c.in_ok-test.ensures.kept c.in_err-then.field-0.0 (c.in_err-then.ensures.agrees s k))

pub choices::choice-returns-in_err-then-clause-kept : goal.choices::choice-returns-in_err-then-clause-kept
choices::choice-returns-in_err-then-clause-kept t c =
    then_stay _ _ _ c.in_ok-test.ensures.kept c.in_err-then.ensures.kept

pub choices::choice-returns-in_err-then-clause-locals : goal.choices::choice-returns-in_err-then-clause-locals
choices::choice-returns-in_err-then-clause-locals t c =
    c.in_err-then.ensures.locals

pub choices::choice-returns-clause-agrees : goal.choices::choice-returns-clause-agrees
choices::choice-returns-clause-agrees t c =
    λ x s h k. if_found c.args.env.now c.condition.new.env c.statement.new.env c.args.place c.args.locals.now.items c.statement.new.locals.items x s c.requires.place c.requires.locals c.in_ok-test.test (c.in_ok-test.ensures.agrees x h) c.in_ok-test.ensures.kept c.in_ok-then.then c.in_ok-choice.field-0 (c.in_ok-then.ensures.agrees s k) c.in_ok-then.ensures.kept c.in_ok-choice.ensures

pub choices::choice-returns-clause-kept : goal.choices::choice-returns-clause-kept
choices::choice-returns-clause-kept t c =
    then_stay _ _ _ c.in_ok-test.ensures.kept c.in_ok-then.ensures.kept

pub choices::choice-returns-clause-locals : goal.choices::choice-returns-clause-locals
choices::choice-returns-clause-locals t c =
    c.in_ok-then.ensures.locals

pub choices::choice-returns-in_err-choice-clause-kept : goal.choices::choice-returns-in_err-choice-clause-kept
choices::choice-returns-in_err-choice-clause-kept t c =
    then_stay _ _ _ c.in_ok-test.ensures.kept c.in_ok-then.ensures.kept

pub choices::choice-returns-in_err-choice-clause-locals : goal.choices::choice-returns-in_err-choice-clause-locals
choices::choice-returns-in_err-choice-clause-locals t c =
    c.in_ok-then.ensures.locals

pub choices::choice_of_two-condition-requires : goal.choices::choice_of_two-condition-requires
choices::choice_of_two-condition-requires t c =
    c.requires.test

pub choices::choice_of_two-statement-requires : goal.choices::choice_of_two-statement-requires
choices::choice_of_two-statement-requires t c =
    (omega arith, (c.requires.then, (type_inside _ _ _ c.in_ok-test.ensures.kept.numbers c.requires.place, below_kept _ _ c.args.locals.now.items c.in_ok-test.ensures.kept.numbers c.requires.locals)))

pub choices::choice_of_two-statement-requires-2 : goal.choices::choice_of_two-statement-requires-2
choices::choice_of_two-statement-requires-2 t c =
    (omega arith, (c.requires.otherwise, (type_inside _ _ _ (then_kept _ _ _ c.in_ok-test.ensures.kept.numbers c.in_ok-then.ensures.kept.numbers) c.requires.place, c.in_ok-then.ensures.locals)))

pub choices::choice_of_two-returns-in_err-test-clause-agrees : goal.choices::choice_of_two-returns-in_err-test-clause-agrees
choices::choice_of_two-returns-in_err-test-clause-agrees t c =
    let q = err_from_is_err_and c.from_residual.result c.from_residual.ensures.1 in
    λ x s z h k l. failed _ _ (IsTyped c.condition.new.env c.args.locals.now.items) (statement (IfElse 0 x s z) (place_in c.args.env.now c.args.place) (declared_in c.args.env.now c.args.locals.now.items)) c.from_residual.result c.in_err-test.field-0.0 (q.1 ∙ ap Err q.2) (tests_broken c.args.env.now c.condition.new.env c.args.place c.args.locals.now.items x s z c.in_err-test.field-0.0 (c.in_err-test.ensures.agrees x h))

pub choices::choice_of_two-returns-in_err-test-clause-kept : goal.choices::choice_of_two-returns-in_err-test-clause-kept
choices::choice_of_two-returns-in_err-test-clause-kept t c =
    c.in_err-test.ensures.kept

pub choices::choice_of_two-returns-in_err-test-clause-locals : goal.choices::choice_of_two-returns-in_err-test-clause-locals
choices::choice_of_two-returns-in_err-test-clause-locals t c =
    below_kept _ _ c.args.locals.now.items c.in_err-test.ensures.kept.numbers c.requires.locals

pub choices::choice_of_two-returns-in_err-then-clause-agrees : goal.choices::choice_of_two-returns-in_err-then-clause-agrees
choices::choice_of_two-returns-in_err-then-clause-agrees t c =
    let q = err_from_is_err_and c.from_residual-in_err-then.result c.from_residual-in_err-then.ensures.1 in
    λ x s z h k l. failed _ _ (IsTyped c.statement.new.env c.statement.new.locals.items) (statement (IfElse 0 x s z) (place_in c.args.env.now c.args.place) (declared_in c.args.env.now c.args.locals.now.items)) c.from_residual-in_err-then.result c.in_err-then.field-0.0 (q.1 ∙ ap Err q.2) (first_broken c.args.env.now c.condition.new.env c.statement.new.env c.args.place c.args.locals.now.items c.statement.new.locals.items x s z c.requires.place c.requires.locals c.in_ok-test.test (c.in_ok-test.ensures.agrees x h) c.in_ok-test.ensures.kept c.in_err-then.field-0.0 (c.in_err-then.ensures.agrees s k))

pub choices::choice_of_two-returns-in_err-then-clause-kept : goal.choices::choice_of_two-returns-in_err-then-clause-kept
choices::choice_of_two-returns-in_err-then-clause-kept t c =
    then_stay _ _ _ c.in_ok-test.ensures.kept c.in_err-then.ensures.kept

pub choices::choice_of_two-returns-in_err-then-clause-locals : goal.choices::choice_of_two-returns-in_err-then-clause-locals
choices::choice_of_two-returns-in_err-then-clause-locals t c =
    c.in_err-then.ensures.locals

pub choices::choice_of_two-returns-in_err-otherwise-clause-agrees : goal.choices::choice_of_two-returns-in_err-otherwise-clause-agrees
choices::choice_of_two-returns-in_err-otherwise-clause-agrees t c =
    let q = err_from_is_err_and c.from_residual-in_err-otherwise.result c.from_residual-in_err-otherwise.ensures.1 in
    λ x s z h k l. failed _ _ (IsTyped c.statement-2.new.env c.statement-2.new.locals.items) (statement (IfElse 0 x s z) (place_in c.args.env.now c.args.place) (declared_in c.args.env.now c.args.locals.now.items)) c.from_residual-in_err-otherwise.result c.in_err-otherwise.field-0.0 (q.1 ∙ ap Err q.2) (second_broken c.args.env.now c.condition.new.env c.statement.new.env c.args.place c.args.locals.now.items c.statement.new.locals.items x s z c.requires.place c.requires.locals c.in_ok-test.test (c.in_ok-test.ensures.agrees x h) c.in_ok-test.ensures.kept c.in_ok-then.then (c.in_ok-then.ensures.agrees s k) c.in_ok-then.ensures.kept c.statement-2.new.env c.statement-2.new.locals.items c.in_err-otherwise.field-0.0 (c.in_err-otherwise.ensures.agrees z l))

pub choices::choice_of_two-returns-in_err-otherwise-clause-kept : goal.choices::choice_of_two-returns-in_err-otherwise-clause-kept
choices::choice_of_two-returns-in_err-otherwise-clause-kept t c =
    then_stay _ _ _ c.in_ok-test.ensures.kept (then_stay _ _ _ c.in_ok-then.ensures.kept c.in_err-otherwise.ensures.kept)

pub choices::choice_of_two-returns-in_err-otherwise-clause-locals : goal.choices::choice_of_two-returns-in_err-otherwise-clause-locals
choices::choice_of_two-returns-in_err-otherwise-clause-locals t c =
    c.in_err-otherwise.ensures.locals

pub choices::choice_of_two-returns-clause-agrees : goal.choices::choice_of_two-returns-clause-agrees
choices::choice_of_two-returns-clause-agrees t c =
    λ x s z h k l. if_else_found c.args.env.now c.condition.new.env c.statement.new.env c.args.place c.args.locals.now.items c.statement.new.locals.items x s z c.requires.place c.requires.locals c.in_ok-test.test (c.in_ok-test.ensures.agrees x h) c.in_ok-test.ensures.kept c.in_ok-then.then (c.in_ok-then.ensures.agrees s k) c.in_ok-then.ensures.kept c.statement-2.new.env c.statement-2.new.locals.items c.in_ok-otherwise.otherwise c.in_ok-choice_of_two.field-0 (c.in_ok-otherwise.ensures.agrees z l) c.in_ok-otherwise.ensures.kept c.in_ok-choice_of_two.ensures

pub choices::choice_of_two-returns-clause-kept : goal.choices::choice_of_two-returns-clause-kept
choices::choice_of_two-returns-clause-kept t c =
    then_stay _ _ _ c.in_ok-test.ensures.kept (then_stay _ _ _ c.in_ok-then.ensures.kept c.in_ok-otherwise.ensures.kept)

pub choices::choice_of_two-returns-clause-locals : goal.choices::choice_of_two-returns-clause-locals
choices::choice_of_two-returns-clause-locals t c =
    c.in_ok-otherwise.ensures.locals

pub choices::choice_of_two-returns-in_err-choice_of_two-clause-kept : goal.choices::choice_of_two-returns-in_err-choice_of_two-clause-kept
choices::choice_of_two-returns-in_err-choice_of_two-clause-kept t c =
    then_stay _ _ _ c.in_ok-test.ensures.kept (then_stay _ _ _ c.in_ok-then.ensures.kept c.in_ok-otherwise.ensures.kept)

pub choices::choice_of_two-returns-in_err-choice_of_two-clause-locals : goal.choices::choice_of_two-returns-in_err-choice_of_two-clause-locals
choices::choice_of_two-returns-in_err-choice_of_two-clause-locals t c =
    c.in_ok-otherwise.ensures.locals

pub loops::while_loop-condition-requires : goal.loops::while_loop-condition-requires
loops::while_loop-condition-requires t c =
    c.requires.test

pub loops::while_loop-statement-requires : goal.loops::while_loop-statement-requires
loops::while_loop-statement-requires t c =
    (omega arith, (c.requires.body, (looping_inside _ _ c.args.place c.looping.result c.looping.ensures c.in_ok-test.ensures.kept.numbers c.requires.place, below_kept _ _ c.args.locals.now.items c.in_ok-test.ensures.kept.numbers c.requires.locals)))

pub loops::while_loop-returns-in_err-test-clause-agrees : goal.loops::while_loop-returns-in_err-test-clause-agrees
loops::while_loop-returns-in_err-test-clause-agrees t c =
    let q = err_from_is_err_and c.from_residual.result c.from_residual.ensures.1 in
    λ x s h k. failed _ _ (IsTyped c.condition.new.env c.args.locals.now.items) (statement (While c.args.from x s) (place_in c.args.env.now c.args.place) (declared_in c.args.env.now c.args.locals.now.items)) c.from_residual.result c.in_err-test.field-0.0 (q.1 ∙ ap Err q.2) (while_test_broken c.args.env.now c.condition.new.env c.args.place c.args.locals.now.items c.args.from x s c.in_err-test.field-0.0 (c.in_err-test.ensures.agrees x h))

pub loops::while_loop-returns-in_err-test-clause-kept : goal.loops::while_loop-returns-in_err-test-clause-kept
loops::while_loop-returns-in_err-test-clause-kept t c =
    c.in_err-test.ensures.kept

pub loops::while_loop-returns-in_err-test-clause-locals : goal.loops::while_loop-returns-in_err-test-clause-locals
loops::while_loop-returns-in_err-test-clause-locals t c =
    below_kept _ _ c.args.locals.now.items c.in_err-test.ensures.kept.numbers c.requires.locals

pub loops::while_loop-returns-in_err-body-clause-agrees : goal.loops::while_loop-returns-in_err-body-clause-agrees
loops::while_loop-returns-in_err-body-clause-agrees t c =
    let q = err_from_is_err_and c.from_residual-in_err-body.result c.from_residual-in_err-body.ensures.1 in
    λ x s h k. failed _ _ (IsTyped c.statement.new.env c.statement.new.locals.items) (statement (While c.args.from x s) (place_in c.args.env.now c.args.place) (declared_in c.args.env.now c.args.locals.now.items)) c.from_residual-in_err-body.result c.in_err-body.field-0.0 (q.1 ∙ ap Err q.2) (while_broken c.args.env.now c.condition.new.env c.statement.new.env c.args.place c.looping.result c.args.locals.now.items c.statement.new.locals.items c.args.from x s c.requires.place c.requires.locals c.looping.ensures c.in_ok-test.test (c.in_ok-test.ensures.agrees x h) c.in_ok-test.ensures.kept c.in_err-body.field-0.0 (c.in_err-body.ensures.agrees s k))

pub loops::while_loop-returns-in_err-body-clause-kept : goal.loops::while_loop-returns-in_err-body-clause-kept
loops::while_loop-returns-in_err-body-clause-kept t c =
    then_stay _ _ _ c.in_ok-test.ensures.kept c.in_err-body.ensures.kept

pub loops::while_loop-returns-in_err-body-clause-locals : goal.loops::while_loop-returns-in_err-body-clause-locals
loops::while_loop-returns-in_err-body-clause-locals t c =
    c.in_err-body.ensures.locals

pub loops::while_loop-returns-clause-agrees : goal.loops::while_loop-returns-clause-agrees
loops::while_loop-returns-clause-agrees t c =
    λ x s h k. while_found c.args.env.now c.condition.new.env c.statement.new.env c.args.place c.looping.result c.args.locals.now.items c.statement.new.locals.items c.args.from x s c.requires.place c.requires.locals c.looping.ensures c.in_ok-test.test (c.in_ok-test.ensures.agrees x h) c.in_ok-test.ensures.kept c.in_ok-body.body c.in_ok-while_loop.field-0 (c.in_ok-body.ensures.agrees s k) c.in_ok-body.ensures.kept c.in_ok-while_loop.ensures

pub loops::while_loop-returns-clause-kept : goal.loops::while_loop-returns-clause-kept
loops::while_loop-returns-clause-kept t c =
    then_stay _ _ _ c.in_ok-test.ensures.kept c.in_ok-body.ensures.kept

pub loops::while_loop-returns-clause-locals : goal.loops::while_loop-returns-clause-locals
loops::while_loop-returns-clause-locals t c =
    c.in_ok-body.ensures.locals

pub loops::while_loop-returns-in_err-while_loop-clause-kept : goal.loops::while_loop-returns-in_err-while_loop-clause-kept
loops::while_loop-returns-in_err-while_loop-clause-kept t c =
    then_stay _ _ _ c.in_ok-test.ensures.kept c.in_ok-body.ensures.kept

pub loops::while_loop-returns-in_err-while_loop-clause-locals : goal.loops::while_loop-returns-in_err-while_loop-clause-locals
loops::while_loop-returns-in_err-while_loop-clause-locals t c =
    c.in_ok-body.ensures.locals

pub loops::do_loop-statement-requires : goal.loops::do_loop-statement-requires
loops::do_loop-statement-requires t c =
    (omega arith, (c.requires.body, (looping_inside _ _ c.args.place c.looping.result c.looping.ensures (same_table c.args.env.now.table) c.requires.place, c.requires.locals)))

pub loops::do_loop-condition-requires : goal.loops::do_loop-condition-requires
loops::do_loop-condition-requires t c =
    c.requires.test

pub loops::do_loop-returns-in_err-done-clause-agrees : goal.loops::do_loop-returns-in_err-done-clause-agrees
loops::do_loop-returns-in_err-done-clause-agrees t c =
    let q = err_from_is_err_and c.from_residual.result c.from_residual.ensures.1 in
    λ s x h k. failed _ _ (IsTyped c.statement.new.env c.statement.new.locals.items) (statement (Do c.args.from s x) (place_in c.args.env.now c.args.place) (declared_in c.args.env.now c.args.locals.now.items)) c.from_residual.result c.in_err-done.field-0.0 (q.1 ∙ ap Err q.2) (body_broken c.args.env.now c.statement.new.env c.statement.new.env c.args.place c.looping.result c.args.locals.now.items c.statement.new.locals.items c.args.from s x c.requires.place c.looping.ensures c.in_err-done.field-0.0 (c.in_err-done.ensures.agrees s h))

pub loops::do_loop-returns-in_err-done-clause-kept : goal.loops::do_loop-returns-in_err-done-clause-kept
loops::do_loop-returns-in_err-done-clause-kept t c =
    c.in_err-done.ensures.kept

pub loops::do_loop-returns-in_err-done-clause-locals : goal.loops::do_loop-returns-in_err-done-clause-locals
loops::do_loop-returns-in_err-done-clause-locals t c =
    c.in_err-done.ensures.locals

pub loops::do_loop-returns-in_err-test-clause-agrees : goal.loops::do_loop-returns-in_err-test-clause-agrees
loops::do_loop-returns-in_err-test-clause-agrees t c =
    let q = err_from_is_err_and c.from_residual-in_err-test.result c.from_residual-in_err-test.ensures.1 in
    λ s x h k. failed _ _ (IsTyped c.condition.new.env c.statement.new.locals.items) (statement (Do c.args.from s x) (place_in c.args.env.now c.args.place) (declared_in c.args.env.now c.args.locals.now.items)) c.from_residual-in_err-test.result c.in_err-test.field-0.0 (q.1 ∙ ap Err q.2) (do_broken c.args.env.now c.statement.new.env c.condition.new.env c.args.place c.looping.result c.args.locals.now.items c.statement.new.locals.items c.args.from s x c.requires.place c.looping.ensures c.in_ok-done.done (c.in_ok-done.ensures.agrees s h) c.in_ok-done.ensures.kept c.in_err-test.field-0.0 (c.in_err-test.ensures.agrees x k))

pub loops::do_loop-returns-in_err-test-clause-kept : goal.loops::do_loop-returns-in_err-test-clause-kept
loops::do_loop-returns-in_err-test-clause-kept t c =
    then_stay _ _ _ c.in_ok-done.ensures.kept c.in_err-test.ensures.kept

pub loops::do_loop-returns-in_err-test-clause-locals : goal.loops::do_loop-returns-in_err-test-clause-locals
loops::do_loop-returns-in_err-test-clause-locals t c =
    below_kept _ _ c.statement.new.locals.items c.in_err-test.ensures.kept.numbers c.in_ok-done.ensures.locals

pub loops::do_loop-returns-clause-agrees : goal.loops::do_loop-returns-clause-agrees
loops::do_loop-returns-clause-agrees t c =
    λ s x h k. do_found c.args.env.now c.statement.new.env c.condition.new.env c.args.place c.looping.result c.args.locals.now.items c.statement.new.locals.items c.args.from s x c.requires.place c.looping.ensures c.in_ok-done.done (c.in_ok-done.ensures.agrees s h) c.in_ok-done.ensures.kept c.in_ok-test.test c.in_ok-do_loop.field-0 (c.in_ok-test.ensures.agrees x k) c.in_ok-test.ensures.kept c.in_ok-done.ensures.locals (λ t y z p q. c.in_ok-do_loop.ensures t y z p q)

pub loops::do_loop-returns-clause-kept : goal.loops::do_loop-returns-clause-kept
loops::do_loop-returns-clause-kept t c =
    then_stay _ _ _ c.in_ok-done.ensures.kept c.in_ok-test.ensures.kept

pub loops::do_loop-returns-clause-locals : goal.loops::do_loop-returns-clause-locals
loops::do_loop-returns-clause-locals t c =
    below_kept _ _ c.statement.new.locals.items c.in_ok-test.ensures.kept.numbers c.in_ok-done.ensures.locals

pub loops::do_loop-returns-in_err-do_loop-clause-kept : goal.loops::do_loop-returns-in_err-do_loop-clause-kept
loops::do_loop-returns-in_err-do_loop-clause-kept t c =
    then_stay _ _ _ c.in_ok-done.ensures.kept c.in_ok-test.ensures.kept

pub loops::do_loop-returns-in_err-do_loop-clause-locals : goal.loops::do_loop-returns-in_err-do_loop-clause-locals
loops::do_loop-returns-in_err-do_loop-clause-locals t c =
    below_kept _ _ c.statement.new.locals.items c.in_ok-test.ensures.kept.numbers c.in_ok-done.ensures.locals

pub loops::for_loop-for_here-made-requires : goal.loops::for_loop-for_here-made-requires
loops::for_loop-for_here-made-requires t c =
    (omega arith, (c.requires.first, (c.requires.test, (c.requires.last, (c.requires.body, (scope_place c.args.env.now c.open_scope.new.self c.in_ok-open_scope.ensures.opened c.args.place c.requires.place, scope_locals c.args.env.now c.open_scope.new.self c.in_ok-open_scope.ensures.opened c.args.locals.now.items c.requires.locals))))))

pub loops::for_loop-close_scope-requires : goal.loops::for_loop-close_scope-requires
loops::for_loop-close_scope-requires t c =
    still_open c.open_scope.new.self c.for_here-made.new.env c.in_ok-open_scope.ensures.within c.for_here-made.ensures.kept

pub loops::for_loop-returns-clause-agrees : goal.loops::for_loop-returns-clause-agrees
loops::for_loop-returns-clause-agrees t c =
    λ f x y s h k l m. scoped_for c.args.env.now c.open_scope.new.self c.for_here-made.new.env c.close_scope.new.self c.in_ok-open_scope.ensures.opened c.close_scope.ensures c.args.place c.args.locals.now.items c.for_here-made.new.locals.items c.args.head.from f x y s c.for_here-made.result (c.for_here-made.ensures.agrees f x y s h k l m)

pub loops::for_loop-returns-clause-kept : goal.loops::for_loop-returns-clause-kept
loops::for_loop-returns-clause-kept t c =
    scope_stays c.args.env.now c.open_scope.new.self c.for_here-made.new.env c.close_scope.new.self c.in_ok-open_scope.ensures.opened c.close_scope.ensures c.for_here-made.ensures.kept

pub loops::for_loop-returns-clause-locals : goal.loops::for_loop-returns-clause-locals
loops::for_loop-returns-clause-locals t c =
    scope_below c.args.env.now c.open_scope.new.self c.for_here-made.new.env c.close_scope.new.self c.in_ok-open_scope.ensures.opened c.close_scope.ensures c.for_here-made.new.locals.items c.for_here-made.ensures.locals

pub loops::for_loop-returns-in_err-open_scope-clause-kept : goal.loops::for_loop-returns-in_err-open_scope-clause-kept
loops::for_loop-returns-in_err-open_scope-clause-kept t c =
    subst (Stays c.args.env.now) (sym c.in_err-open_scope.ensures.err) (stay c.args.env.now)

pub loops::for_loop-returns-in_err-open_scope-clause-locals : goal.loops::for_loop-returns-in_err-open_scope-clause-locals
loops::for_loop-returns-in_err-open_scope-clause-locals t c =
    let Q : State → Type 0 = λ z. All (IsBelow (length z.table.types)) c.args.locals.now.items in subst Q (sym c.in_err-open_scope.ensures.err) c.requires.locals

pub loops::for_here-first_part-requires : goal.loops::for_here-first_part-requires
loops::for_here-first_part-requires t c =
    record { first = c.requires.first; locals = c.requires.locals }

pub loops::for_here-maybe_condition-requires : goal.loops::for_here-maybe_condition-requires
loops::for_here-maybe_condition-requires t c =
    c.requires.test

pub loops::for_here-maybe_value-requires : goal.loops::for_here-maybe_value-requires
loops::for_here-maybe_value-requires t c =
    c.requires.last

pub loops::for_here-statement-requires : goal.loops::for_here-statement-requires
loops::for_here-statement-requires t c =
    (omega arith, (c.requires.body, (looping_inside _ _ c.args.place c.looping.result c.looping.ensures (then_kept _ _ _ c.in_ok-first.ensures.kept.numbers (then_kept _ _ _ c.in_ok-test.ensures.kept.numbers c.in_ok-last.ensures.kept.numbers)) c.requires.place, below_kept _ _ c.first_part.new.locals.items (then_kept _ _ _ c.in_ok-test.ensures.kept.numbers c.in_ok-last.ensures.kept.numbers) c.in_ok-first.ensures.locals)))

pub loops::for_here-returns-in_err-first-clause-agrees : goal.loops::for_here-returns-in_err-first-clause-agrees
loops::for_here-returns-in_err-first-clause-agrees t c =
    let q = err_from_is_err_and c.from_residual.result c.from_residual.ensures.1 in
    λ f x y s h k l m. failed _ _ (IsTyped c.first_part.new.env c.first_part.new.locals.items) (for_here c.args.head.from f x y s (place_in c.args.env.now c.args.place) (declared_in c.args.env.now c.args.locals.now.items)) c.from_residual.result c.in_err-first.field-0.0 (q.1 ∙ ap Err q.2) (for_first_broken c.args.env.now c.first_part.new.env c.first_part.new.env c.first_part.new.env c.first_part.new.env c.args.place (record c.args.place { in_loop = true }) c.args.locals.now.items c.first_part.new.locals.items c.first_part.new.locals.items c.args.head.from f x y s c.requires.place refl c.in_err-first.field-0.0 (c.in_err-first.ensures.agrees f (place_in c.args.env.now c.args.place) h))

pub loops::for_here-returns-in_err-first-clause-kept : goal.loops::for_here-returns-in_err-first-clause-kept
loops::for_here-returns-in_err-first-clause-kept t c =
    c.in_err-first.ensures.kept

pub loops::for_here-returns-in_err-first-clause-locals : goal.loops::for_here-returns-in_err-first-clause-locals
loops::for_here-returns-in_err-first-clause-locals t c =
    c.in_err-first.ensures.locals

pub loops::for_here-returns-in_err-test-clause-agrees : goal.loops::for_here-returns-in_err-test-clause-agrees
loops::for_here-returns-in_err-test-clause-agrees t c =
    let q = err_from_is_err_and c.from_residual-in_err-test.result c.from_residual-in_err-test.ensures.1 in
    λ f x y s h k l m. failed _ _ (IsTyped c.maybe_condition.new.env c.first_part.new.locals.items) (for_here c.args.head.from f x y s (place_in c.args.env.now c.args.place) (declared_in c.args.env.now c.args.locals.now.items)) c.from_residual-in_err-test.result c.in_err-test.field-0.0 (q.1 ∙ ap Err q.2) (for_test_broken c.args.env.now c.first_part.new.env c.maybe_condition.new.env c.maybe_condition.new.env c.maybe_condition.new.env c.args.place (record c.args.place { in_loop = true }) c.args.locals.now.items c.first_part.new.locals.items c.first_part.new.locals.items c.args.head.from f x y s c.requires.place refl c.in_ok-first.first (c.in_ok-first.ensures.agrees f (place_in c.args.env.now c.args.place) h) c.in_ok-first.ensures.kept c.in_err-test.field-0.0 (c.in_err-test.ensures.agrees x k))

pub loops::for_here-returns-in_err-test-clause-kept : goal.loops::for_here-returns-in_err-test-clause-kept
loops::for_here-returns-in_err-test-clause-kept t c =
    then_stay_around _ _ _ c.in_ok-first.ensures.kept (stay_around _ _ c.in_err-test.ensures.kept)

pub loops::for_here-returns-in_err-test-clause-locals : goal.loops::for_here-returns-in_err-test-clause-locals
loops::for_here-returns-in_err-test-clause-locals t c =
    below_kept _ _ c.first_part.new.locals.items c.in_err-test.ensures.kept.numbers c.in_ok-first.ensures.locals

pub loops::for_here-returns-in_err-last-clause-agrees : goal.loops::for_here-returns-in_err-last-clause-agrees
loops::for_here-returns-in_err-last-clause-agrees t c =
    let q = err_from_is_err_and c.from_residual-in_err-last.result c.from_residual-in_err-last.ensures.1 in
    λ f x y s h k l m. failed _ _ (IsTyped c.maybe_value.new.env c.first_part.new.locals.items) (for_here c.args.head.from f x y s (place_in c.args.env.now c.args.place) (declared_in c.args.env.now c.args.locals.now.items)) c.from_residual-in_err-last.result c.in_err-last.field-0.0 (q.1 ∙ ap Err q.2) (for_last_broken c.args.env.now c.first_part.new.env c.maybe_condition.new.env c.maybe_value.new.env c.maybe_value.new.env c.args.place (record c.args.place { in_loop = true }) c.args.locals.now.items c.first_part.new.locals.items c.first_part.new.locals.items c.args.head.from f x y s c.requires.place refl c.in_ok-first.first (c.in_ok-first.ensures.agrees f (place_in c.args.env.now c.args.place) h) c.in_ok-first.ensures.kept c.in_ok-test.test (c.in_ok-test.ensures.agrees x k) c.in_ok-test.ensures.kept c.in_err-last.field-0.0 (c.in_err-last.ensures.agrees y l))

pub loops::for_here-returns-in_err-last-clause-kept : goal.loops::for_here-returns-in_err-last-clause-kept
loops::for_here-returns-in_err-last-clause-kept t c =
    then_stay_around _ _ _ c.in_ok-first.ensures.kept (stay_around _ _ (then_stay _ _ _ c.in_ok-test.ensures.kept c.in_err-last.ensures.kept))

pub loops::for_here-returns-in_err-last-clause-locals : goal.loops::for_here-returns-in_err-last-clause-locals
loops::for_here-returns-in_err-last-clause-locals t c =
    below_kept _ _ c.first_part.new.locals.items (then_kept _ _ _ c.in_ok-test.ensures.kept.numbers c.in_err-last.ensures.kept.numbers) c.in_ok-first.ensures.locals

pub loops::for_here-returns-in_err-body-clause-agrees : goal.loops::for_here-returns-in_err-body-clause-agrees
loops::for_here-returns-in_err-body-clause-agrees t c =
    let q = err_from_is_err_and c.from_residual-in_err-body.result c.from_residual-in_err-body.ensures.1 in
    λ f x y s h k l m. failed _ _ (IsTyped c.statement.new.env c.statement.new.locals.items) (for_here c.args.head.from f x y s (place_in c.args.env.now c.args.place) (declared_in c.args.env.now c.args.locals.now.items)) c.from_residual-in_err-body.result c.in_err-body.field-0.0 (q.1 ∙ ap Err q.2) (for_body_broken c.args.env.now c.first_part.new.env c.maybe_condition.new.env c.maybe_value.new.env c.statement.new.env c.args.place c.looping.result c.args.locals.now.items c.first_part.new.locals.items c.statement.new.locals.items c.args.head.from f x y s c.requires.place c.looping.ensures c.in_ok-first.first (c.in_ok-first.ensures.agrees f (place_in c.args.env.now c.args.place) h) c.in_ok-first.ensures.kept c.in_ok-test.test (c.in_ok-test.ensures.agrees x k) c.in_ok-test.ensures.kept c.in_ok-last.last (c.in_ok-last.ensures.agrees y l) c.in_ok-last.ensures.kept c.in_ok-first.ensures.locals c.in_err-body.field-0.0 (c.in_err-body.ensures.agrees s m))

pub loops::for_here-returns-in_err-body-clause-kept : goal.loops::for_here-returns-in_err-body-clause-kept
loops::for_here-returns-in_err-body-clause-kept t c =
    then_stay_around _ _ _ c.in_ok-first.ensures.kept (stay_around _ _ (then_stay _ _ _ c.in_ok-test.ensures.kept (then_stay _ _ _ c.in_ok-last.ensures.kept c.in_err-body.ensures.kept)))

pub loops::for_here-returns-in_err-body-clause-locals : goal.loops::for_here-returns-in_err-body-clause-locals
loops::for_here-returns-in_err-body-clause-locals t c =
    c.in_err-body.ensures.locals

pub loops::for_here-returns-clause-agrees : goal.loops::for_here-returns-clause-agrees
loops::for_here-returns-clause-agrees t c =
    λ f x y s h k l m. for_found c.args.env.now c.first_part.new.env c.maybe_condition.new.env c.maybe_value.new.env c.statement.new.env c.args.place c.looping.result c.args.locals.now.items c.first_part.new.locals.items c.statement.new.locals.items c.args.head.from f x y s c.requires.place c.looping.ensures c.in_ok-first.first (c.in_ok-first.ensures.agrees f (place_in c.args.env.now c.args.place) h) c.in_ok-first.ensures.kept c.in_ok-test.test (c.in_ok-test.ensures.agrees x k) c.in_ok-test.ensures.kept c.in_ok-last.last (c.in_ok-last.ensures.agrees y l) c.in_ok-last.ensures.kept c.in_ok-first.ensures.locals c.in_ok-body.body c.in_ok-for_loop.field-0 (c.in_ok-body.ensures.agrees s m) c.in_ok-body.ensures.kept c.in_ok-for_loop.ensures

pub loops::for_here-returns-clause-kept : goal.loops::for_here-returns-clause-kept
loops::for_here-returns-clause-kept t c =
    then_stay_around _ _ _ c.in_ok-first.ensures.kept (stay_around _ _ (then_stay _ _ _ c.in_ok-test.ensures.kept (then_stay _ _ _ c.in_ok-last.ensures.kept c.in_ok-body.ensures.kept)))

pub loops::for_here-returns-clause-locals : goal.loops::for_here-returns-clause-locals
loops::for_here-returns-clause-locals t c =
    c.in_ok-body.ensures.locals

pub loops::for_here-returns-in_err-for_loop-clause-kept : goal.loops::for_here-returns-in_err-for_loop-clause-kept
loops::for_here-returns-in_err-for_loop-clause-kept t c =
    then_stay_around _ _ _ c.in_ok-first.ensures.kept (stay_around _ _ (then_stay _ _ _ c.in_ok-test.ensures.kept (then_stay _ _ _ c.in_ok-last.ensures.kept c.in_ok-body.ensures.kept)))

pub loops::for_here-returns-in_err-for_loop-clause-locals : goal.loops::for_here-returns-in_err-for_loop-clause-locals
loops::for_here-returns-in_err-for_loop-clause-locals t c =
    c.in_ok-body.ensures.locals
