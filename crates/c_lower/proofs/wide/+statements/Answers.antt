use Rattle.std.proofs.Common.{◌≡◌, ℕ, ◌-◌, ◌<◌, max, List, ◌∷◌, rules, refl, sym, ap, ◌∙◌, subst, arith}
use Rattle.c_types_rules.specs.TypedTree as tree
use Rattle.c_types_program.specs.declared.statement.Statement.{Statement}
use Rattle.c_types_program.specs.Statements.{AllStatements, IsStatement, maybe_at, statement_in, statements_in}
use Rattle.c_types_program.proofs.Vectors.{block_inside, block_means, first_inside, for_means}
use Rattle.c_lower_placement.specs.Heights.{maybe_depth, statement_depth, statements_depth}
use Rattle.c_lower_bodies.proofs.Among.{one_lighter, statement_among}
use Rattle.c_lower_bodies.proofs.Weights.{statement_weight, statements_weight}
use Rattle.c_lower.specs.Depths.{capped}
use Rattle.c_lower.proofs.wide.+statements.Goals as goal

pub statement_depth-statements_depth-requires : goal.statement_depth-statements_depth-requires
statement_depth-statements_depth-requires t c =
    let table = c.args.table.now in
    let inside : AllStatements table c.in-Block.statements.items = block_inside table c.in-Block.statements (subst (λ (s : Statement). IsStatement table s) c.in-Block.is c.requires) in
    let all : AllStatements table c.deref.result.now = subst (λ (ss : List Statement). AllStatements table ss) (sym c.deref.ensures.value) inside in
    let means : tree.Block (statements_in table c.deref.result.now) ≡ statement_in table c.args.statement.now =
    ap (λ (ss : List Statement). tree.Block (statements_in table ss)) c.deref.ensures.value ∙ (sym (block_means table c.in-Block.statements) ∙ ap (statement_in table) (sym c.in-Block.is)) in
    let smaller : statements_weight (statements_in table c.deref.result.now) < statement_weight (statement_in table c.args.statement.now) = omega (arith, ap statement_weight means) in
    search rules

pub statement_depth-returns-in-Block : goal.statement_depth-returns-in-Block
statement_depth-returns-in-Block t c =
    let table = c.args.table.now in
    let means : tree.Block (statements_in table c.deref.result.now) ≡ statement_in table c.args.statement.now =
    ap (λ (ss : List Statement). tree.Block (statements_in table ss)) c.deref.ensures.value ∙ (sym (block_means table c.in-Block.statements) ∙ ap (statement_in table) (sym c.in-Block.is)) in
    c.statements_depth.ensures ∙ ap (λ (s : tree.Statement). capped (statement_depth s)) means

pub statement_depth-statements_depth-requires-in-For : goal.statement_depth-statements_depth-requires-in-For
statement_depth-statements_depth-requires-in-For t c =
    let table = c.args.table.now in
    let condition = maybe_at table c.in-For.condition in
    let last = maybe_at table c.in-For.last in
    let body = statement_in table c.in-For.body.value in
    let inside : AllStatements table c.in-For.first.items =
    first_inside table c.in-For.from c.in-For.first c.in-For.condition c.in-For.last c.in-For.body (subst (λ (s : Statement). IsStatement table s) c.in-For.is c.requires) in
    let all : AllStatements table c.deref-in-For.result.now = subst (λ (ss : List Statement). AllStatements table ss) (sym c.deref-in-For.ensures.value) inside in
    let means : tree.For c.in-For.from (statements_in table c.deref-in-For.result.now) condition last body ≡ statement_in table c.args.statement.now =
    ap (λ (ss : List Statement). tree.For c.in-For.from (statements_in table ss) condition last body) c.deref-in-For.ensures.value
    ∙ (sym (for_means table c.in-For.from c.in-For.first c.in-For.condition c.in-For.last c.in-For.body) ∙ ap (statement_in table) (sym c.in-For.is)) in
    let smaller : statements_weight (statements_in table c.deref-in-For.result.now) < statement_weight (statement_in table c.args.statement.now) = omega (arith, ap statement_weight means) in
    search rules

pub statement_depth-returns-in-For : goal.statement_depth-returns-in-For
statement_depth-returns-in-For t c =
    let table = c.args.table.now in
    let condition = maybe_at table c.in-For.condition in
    let last = maybe_at table c.in-For.last in
    let first = statements_in table c.deref-in-For.result.now in
    let body = statement_in table c.deref-in-For-2.result.now in
    let means : tree.For c.in-For.from first condition last body ≡ statement_in table c.args.statement.now =
    ap (λ (ss : List Statement). tree.For c.in-For.from (statements_in table ss) condition last body) c.deref-in-For.ensures.value
    ∙ (ap (λ (s : Statement). tree.For c.in-For.from (statements_in table c.in-For.first.items) condition last (statement_in table s)) c.deref-in-For-2.ensures
    ∙ (sym (for_means table c.in-For.from c.in-For.first c.in-For.condition c.in-For.last c.in-For.body) ∙ ap (statement_in table) (sym c.in-For.is))) in
    let inner = max (maybe_depth last) (statement_depth body) in
    let outer = max (maybe_depth condition) inner in
    c.either-in-For-3.ensures (statements_depth first) outer c.statements_depth-in-For.ensures
    (c.either-in-For-2.ensures (maybe_depth condition) inner c.maybe_depth.ensures (c.either-in-For.ensures (maybe_depth last) (statement_depth body) c.maybe_depth-in-For.ensures c.statement_depth-in-For.ensures))
    ∙ ap (λ (s : tree.Statement). capped (statement_depth s)) means

pub statements_depth-statement_depth-requires : goal.statements_depth-statement_depth-requires
statements_depth-statement_depth-requires t c =
    let table = c.args.table.now in
    let inside : IsStatement table c.index-statements-i.result = statement_among table c.args.statements.now (c.loop-i.i - 1) c.index-statements-i.result c.requires (omega arith) c.index-statements-i.is in
    let smaller : statement_weight (statement_in table c.index-statements-i.result) < statements_weight (statements_in table c.args.statements.now) =
    one_lighter table c.args.statements.now (c.loop-i.i - 1) c.index-statements-i.result (omega arith) c.index-statements-i.is in
    search rules
