use Rattle.std.proofs.Common.{◌++◌, ◌∷◌, [], Err, refl, sym, ap, ◌∙◌, subst}
use Rattle.std.proofs.lemmas.Result.{err_from_is_err_and}
use Rattle.c_syntax.specs.Stands.{StandDecls}
use Rattle.c_types_rules.specs.Statements.{first}
use Rattle.c_types_program.specs.declared.statement.Statement.TheVariants.{Evaluate}
use Rattle.c_types_expressions.specs.Walks.{AreDecls}
use Rattle.c_types_expressions.proofs.Wholes.{failed}
use Rattle.c_types_statements.specs.Typed.{AreDeclaring, declared_in}
use Rattle.c_types_statements.proofs.OfFirsts.{locals_first_broken, locals_first_found, nothing_first, value_first_broken, value_first_found}
use Rattle.c_types_statements.proofs.Parts.{first_expr, first_ids}
use Rattle.c_types_statements.proofs.loops.first_part.Goals as goal

pub returns-in-None-clause-agrees : goal.returns-in-None-clause-agrees
returns-in-None-clause-agrees c =
    let a = c.args.env.now in
    let ids = c.args.locals.now.items in
    λ f p h. nothing_first c.args.tree.now c.args.first.now a a ids ids f p h c.new.result c.in-None.is c.new.ensures.items

pub declare_locals-requires : goal.declare_locals-requires
declare_locals-requires c = record { ids = subst (AreDecls c.args.tree.now) (sym c.as_slice.ensures.items) (first_ids c.args.tree.now c.args.first.now c.in-Local.ids c.in-Local.is c.requires.first); locals = c.requires.locals }

pub returns-in_err-declare_locals-in-Local-clause-agrees : goal.returns-in_err-declare_locals-in-Local-clause-agrees
returns-in_err-declare_locals-in-Local-clause-agrees c =
    let q = err_from_is_err_and c.from_residual.result c.from_residual.ensures.1 in
    let a = c.args.env.now in
    let b = c.declare_locals.new.env in
    let ids = c.args.locals.now.items in
    let found = c.declare_locals.new.locals.items in
    λ f p h. failed _ _ (AreDeclaring b found) (first f p (declared_in a ids)) c.from_residual.result c.in_err-declare_locals-in-Local.field-0.0 (q.1 ∙ ap Err q.2)
    (locals_first_broken c.args.tree.now c.args.first.now a b ids found f p h c.in-Local.ids c.in-Local.is c.new-statements.result.items c.declare_locals.new.statements.items c.in_err-declare_locals-in-Local.field-0.0
    (λ ds k. c.in_err-declare_locals-in-Local.ensures.agrees ds (subst (λ is. StandDecls c.args.tree.now is ds) (sym c.as_slice.ensures.items) k)))

pub returns-in_ok-declare_locals-in-Local-clause-agrees : goal.returns-in_ok-declare_locals-in-Local-clause-agrees
returns-in_ok-declare_locals-in-Local-clause-agrees c =
    let a = c.args.env.now in
    let b = c.declare_locals.new.env in
    let ids = c.args.locals.now.items in
    let found = c.declare_locals.new.locals.items in
    λ f p h. locals_first_found c.args.tree.now c.args.first.now a b ids found f p h c.in-Local.ids c.in-Local.is c.new-statements.result.items c.declare_locals.new.statements.items c.declare_locals.new.statements c.new-statements.ensures.items refl
    (λ ds k. c.in_ok-declare_locals-in-Local.ensures.agrees ds (subst (λ is. StandDecls c.args.tree.now is ds) (sym c.as_slice.ensures.items) k))

pub value-requires : goal.value-requires
value-requires c = first_expr c.args.tree.now c.args.first.now c.in-Expr.id c.in-Expr.is c.requires.first

pub returns-in_err-value-in-Expr-clause-agrees : goal.returns-in_err-value-in-Expr-clause-agrees
returns-in_err-value-in-Expr-clause-agrees c =
    let q = err_from_is_err_and c.from_residual-in_err-value-in-Expr.result c.from_residual-in_err-value-in-Expr.ensures.1 in
    let a = c.args.env.now in
    let b = c.value.new.env in
    let ids = c.args.locals.now.items in
    λ f p h. failed _ _ (AreDeclaring b ids) (first f p (declared_in a ids)) c.from_residual-in_err-value-in-Expr.result c.in_err-value-in-Expr.field-0.0 (q.1 ∙ ap Err q.2)
    (value_first_broken c.args.tree.now c.args.first.now a b ids ids f p h c.in-Expr.id c.in-Expr.is c.in_err-value-in-Expr.field-0.0 c.in_err-value-in-Expr.ensures.agrees)

pub returns-in_ok-append-in-Expr-clause-agrees : goal.returns-in_ok-append-in-Expr-clause-agrees
returns-in_ok-append-in-Expr-clause-agrees c =
    let a = c.args.env.now in
    let b = c.value.new.env in
    let ids = c.args.locals.now.items in
    λ f p h. value_first_found c.args.tree.now c.args.first.now a b ids ids f p h c.in-Expr.id c.in-Expr.is c.in_ok-value-in-Expr.value c.append.new.items c.in_ok-value-in-Expr.ensures.agrees c.in_ok-value-in-Expr.ensures.kept c.requires.locals (c.in_ok-append-in-Expr.ensures.ok ∙ ap (λ xs. xs ++ Evaluate c.in_ok-value-in-Expr.value ∷ []) c.new-statements-in-Expr.ensures.items)
