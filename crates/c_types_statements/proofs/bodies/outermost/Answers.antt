use Rattle.std.proofs.Common.{Err, sym, ap, ◌∙◌, subst}
use Rattle.std.proofs.lemmas.Result.{err_from_is_err_and}
use Rattle.c_syntax.specs.declared.statement.StmtKind.TheVariants.{Block}
use Rattle.c_syntax.specs.Stands.{StandEntries}
use Rattle.c_types_rules.specs.Sources.{block_of}
use Rattle.c_types_expressions.proofs.Kept.{stay_around}
use Rattle.c_types_expressions.proofs.Wholes.{failed}
use Rattle.c_types_statements.specs.Typed.{IsTyped, declared_in, place_in}
use Rattle.c_types_statements.specs.Walks.{AreEntries}
use Rattle.c_types_statements.proofs.Arms.{parts_of}
use Rattle.c_types_statements.proofs.OfBodies.{outer_block, outer_block_broken, outer_statement}
use Rattle.c_types_statements.proofs.Parts.{stmt_inside}
use Rattle.c_types_statements.proofs.bodies.outermost.Goals as goal

pub stmt-requires : goal.stmt-requires
stmt-requires c = record { inside = stmt_inside c.args.tree.now c.args.id c.requires.id }

pub entries-requires : goal.entries-requires
entries-requires c = record {
  items = subst (AreEntries c.args.tree.now) (sym c.as_slice.ensures.items) (parts_of c.args.tree.now c.args.id c.stmt.result.now c.stmt.ensures.node (Block c.in-Block.items) c.in-Block.is c.requires.id);
  place = c.requires.place;
  locals = c.requires.locals;
}

pub returns-in_err-statements-in-Block-clause-agrees : goal.returns-in_err-statements-in-Block-clause-agrees
returns-in_err-statements-in-Block-clause-agrees c =
    let q = err_from_is_err_and c.from_residual.result c.from_residual.ensures.1 in
    let a = c.args.env.now in
    let b = c.entries.new.env in
    let found = c.entries.new.locals.items in
    let p = place_in a c.args.place in
    let d = declared_in a c.args.locals.now.items in
    λ s h. failed _ _ (IsTyped b found) (block_of s p d) c.from_residual.result c.in_err-statements-in-Block.field-0.0 (q.1 ∙ ap Err q.2)
    (outer_block_broken c.args.tree.now c.args.id c.stmt.result.now c.stmt.ensures.node a b p d found c.in-Block.items c.in-Block.is c.in_err-statements-in-Block.field-0.0
    (λ es k. c.in_err-statements-in-Block.ensures.agrees es (subst (λ vs. StandEntries c.args.tree.now vs es) (sym c.as_slice.ensures.items) k)) s h)

pub returns-in_ok-statements-in-Block-clause-agrees : goal.returns-in_ok-statements-in-Block-clause-agrees
returns-in_ok-statements-in-Block-clause-agrees c =
    let a = c.args.env.now in
    let b = c.entries.new.env in
    let found = c.entries.new.locals.items in
    let p = place_in a c.args.place in
    let d = declared_in a c.args.locals.now.items in
    λ s h. outer_block c.args.tree.now c.args.id c.stmt.result.now c.stmt.ensures.node a b p d found c.in-Block.items c.in-Block.is c.in_ok-statements-in-Block.statements c.block.result
    (λ es k. c.in_ok-statements-in-Block.ensures.agrees es (subst (λ vs. StandEntries c.args.tree.now vs es) (sym c.as_slice.ensures.items) k)) c.block.ensures s h

pub returns-in_default-clause-agrees : goal.returns-in_default-clause-agrees
returns-in_default-clause-agrees c =
    let a = c.args.env.now in
    let p = place_in a c.args.place in
    let d = declared_in a c.args.locals.now.items in
    λ s h. outer_statement c.args.tree.now c.args.id c.stmt.result.now c.stmt.ensures.node a c.statement.new.env p d c.statement.new.locals.items c.statement.result c.in_default.not-Block s h (c.statement.ensures.agrees s h)

pub returns-in_default-clause-kept : goal.returns-in_default-clause-kept
returns-in_default-clause-kept c = stay_around _ _ c.statement.ensures.kept
