use Rattle.std.proofs.Common.{◌≡◌, ◌+◌, ◌<◌, List, [], ◌∷◌, drop, rules, sym, ap, ◌∙◌, subst, arith}
use Rattle.std.proofs.lemmas.List.{drop_all}
use Rattle.c_types_rules.specs.TypedTree as tree
use Rattle.c_types_program.specs.declared.statement.Statement.{Statement}
use Rattle.c_types_program.specs.Statements.{AllStatements, IsStatement, maybe_at, statement_in, statements_in}
use Rattle.c_types_program.proofs.Vectors.{block_inside, block_means, first_inside, for_means}
use Rattle.cut_graph_rules.specs.Mentions.{statement_mentions, statements_mentions}
use Rattle.cut_graph_mentions.specs.Growing.{IsAdded}
use Rattle.cut_graph_mentions.proofs.Growing.{nothing, two}
use Rattle.cut_graph_mentions.proofs.Lists.{one_lighter, one_more, statement_among}
use Rattle.cut_graph_mentions.proofs.Weights.{statement_weight, statements_weight}
use Rattle.cut_graph_mentions.proofs.statements.+statements.Goals as goal

pub statement-statements-requires : goal.statement-statements-requires
statement-statements-requires t c =
    let table = c.args.table.now in
    let inside : AllStatements table c.in-Block.inner.items = block_inside table c.in-Block.inner (subst (λ (s : Statement). IsStatement table s) c.in-Block.is c.requires) in
    let all : AllStatements table c.deref.result.now = subst (λ (ss : List Statement). AllStatements table ss) (sym c.deref.ensures.value) inside in
    let means : tree.Block (statements_in table c.deref.result.now) ≡ statement_in table c.args.statement.now =
    ap (λ (ss : List Statement). tree.Block (statements_in table ss)) c.deref.ensures.value ∙ (sym (block_means table c.in-Block.inner) ∙ ap (statement_in table) (sym c.in-Block.is)) in
    let smaller : statements_weight (statements_in table c.deref.result.now) < statement_weight (statement_in table c.args.statement.now) = omega (arith, ap statement_weight means) in
    search rules

pub statement-returns-in-Block : goal.statement-returns-in-Block
statement-returns-in-Block t c =
    let table = c.args.table.now in
    let means : tree.Block (statements_in table c.deref.result.now) ≡ statement_in table c.args.statement.now =
    ap (λ (ss : List Statement). tree.Block (statements_in table ss)) c.deref.ensures.value ∙ (sym (block_means table c.in-Block.inner) ∙ ap (statement_in table) (sym c.in-Block.is)) in
    subst (λ (s : tree.Statement). IsAdded c.args.found.now (statement_mentions s) c.statements.new.found) means c.statements.ensures

pub statement-repeated-requires : goal.statement-repeated-requires
statement-repeated-requires t c =
    let table = c.args.table.now in
    let condition = maybe_at table c.in-For.condition in
    let last = maybe_at table c.in-For.last in
    let first = statements_in table c.deref-in-For.result.now in
    let body = statement_in table c.deref-in-For-2.result.now in
    let inside : AllStatements table c.in-For.first.items =
    first_inside table c.in-For.from c.in-For.first c.in-For.condition c.in-For.last c.in-For.body (subst (λ (s : Statement). IsStatement table s) c.in-For.is c.requires) in
    let all : AllStatements table c.deref-in-For.result.now = subst (λ (ss : List Statement). AllStatements table ss) (sym c.deref-in-For.ensures.value) inside in
    let means : tree.For c.in-For.from first condition last body ≡ statement_in table c.args.statement.now =
    ap (λ (ss : List Statement). tree.For c.in-For.from (statements_in table ss) condition last body) c.deref-in-For.ensures.value
    ∙ (ap (λ (s : Statement). tree.For c.in-For.from (statements_in table c.in-For.first.items) condition last (statement_in table s)) c.deref-in-For-2.ensures
    ∙ (sym (for_means table c.in-For.from c.in-For.first c.in-For.condition c.in-For.last c.in-For.body) ∙ ap (statement_in table) (sym c.in-For.is))) in
    let smaller : 1 + (statements_weight first + statement_weight body) < statement_weight (statement_in table c.args.statement.now) = omega (arith, ap statement_weight means) in
    search rules

pub statement-returns-in-For : goal.statement-returns-in-For
statement-returns-in-For t c =
    let table = c.args.table.now in
    let condition = maybe_at table c.in-For.condition in
    let last = maybe_at table c.in-For.last in
    let first = statements_in table c.deref-in-For.result.now in
    let body = statement_in table c.deref-in-For-2.result.now in
    let means : tree.For c.in-For.from first condition last body ≡ statement_in table c.args.statement.now =
    ap (λ (ss : List Statement). tree.For c.in-For.from (statements_in table ss) condition last body) c.deref-in-For.ensures.value
    ∙ (ap (λ (s : Statement). tree.For c.in-For.from (statements_in table c.in-For.first.items) condition last (statement_in table s)) c.deref-in-For-2.ensures
    ∙ (sym (for_means table c.in-For.from c.in-For.first c.in-For.condition c.in-For.last c.in-For.body) ∙ ap (statement_in table) (sym c.in-For.is))) in
    subst (λ (s : tree.Statement). IsAdded c.args.found.now (statement_mentions s) c.repeated.new.found) means c.repeated.ensures

pub statements-statement-requires : goal.statements-statement-requires
statements-statement-requires t c =
    let table = c.args.table.now in
    let inside : IsStatement table c.index-statements-i.result = statement_among table c.args.statements.now c.loop-i.i c.index-statements-i.result c.requires (omega arith) c.index-statements-i.is in
    let smaller : statement_weight (statement_in table c.index-statements-i.result) < statements_weight (statements_in table c.args.statements.now) =
    one_lighter table c.args.statements.now c.loop-i.i c.index-statements-i.result (omega arith) c.index-statements-i.is in
    search rules

pub statements-loop-i-preserved : goal.statements-loop-i-preserved
statements-loop-i-preserved t c =
    let table = c.args.table.now in
    let ss = c.args.statements.now in
    let s = c.index-statements-i.result in
    let more : drop c.loop-i.i ss ≡ s ∷ drop (c.loop-i.i + 1) ss = one_more ss c.loop-i.i s (omega arith) c.index-statements-i.is in
    λ q h. c.loop-i.invariant q
    (subst (λ (xs : List Statement). IsAdded c.loop-i.found (statements_mentions (statements_in table xs)) q) (sym more) (two c.statement.ensures h))

pub statements-returns : goal.statements-returns
statements-returns t c =
    let table = c.args.table.now in
    let ss = c.args.statements.now in
    let all : drop c.loop-i.i ss ≡ [] = drop_all c.loop-i.i ss (omega arith) in
    c.loop-i.invariant _
    (subst (λ (xs : List Statement). IsAdded c.loop-i.found (statements_mentions (statements_in table xs)) c.loop-i.found) (sym all) (nothing c.loop-i.found))

pub guarded-returns : goal.guarded-returns
guarded-returns t c = two c.evaluated.ensures c.statement.ensures

pub chosen-returns : goal.chosen-returns
chosen-returns t c = two c.evaluated.ensures (two c.statement.ensures c.statement-2.ensures)

pub tested-returns : goal.tested-returns
tested-returns t c = two c.statement.ensures c.evaluated.ensures

pub repeated-returns : goal.repeated-returns
repeated-returns t c = two c.statements.ensures (two c.maybe.ensures (two c.maybe-2.ensures c.statement.ensures))
