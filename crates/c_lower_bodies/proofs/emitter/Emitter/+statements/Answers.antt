use Rattle.std.proofs.Common.{◌≡◌, ℕ, suc, ◌-◌, ◌<◌, ◌≤◌, List, ◌∷◌, ◌++◌, length, drop, rules, refl, sym, ap, ◌∙◌, subst, arith}
use Rattle.std.specs.Prelude.{OnOk}
use Rattle.std.proofs.lemmas.Result.{on_ok_weaker}
use Rattle.c_types_rules.specs.TypedTree as tree
use Rattle.c_types_nodes.specs.Tables.{value_at}
use Rattle.c_types_program.specs.declared.statement.Statement.{Statement}
use Rattle.c_types_program.specs.Statements.{AllStatements, IsStatement, maybe_at, statement_in, statements_in}
use Rattle.c_types_program.proofs.Vectors.{block_inside, block_means, first_inside, for_means}
use Rattle.c_lower_placement.specs.Code.{last_code, statement_code, statements_code, test_code, value_code}
use Rattle.c_lower_bodies.specs.Making.{making}
use Rattle.c_lower_bodies.specs.TypedCode.{guarded_code}
use Rattle.c_lower_bodies.proofs.Among.{one_lighter, one_more, statement_among}
use Rattle.c_lower_bodies.proofs.Weights.{statement_weight, statements_weight}
use Rattle.c_lower_bodies.proofs.Loops.{do_made, for_made, longer, more_made, while_made}
use Rattle.c_lower_bodies.proofs.emitter.Emitter.+statements.Goals as goal

pub while_loop-turn-requires : goal.while_loop-turn-requires
while_loop-turn-requires t c =
    let table = c.args.self.now.declared.table in
    let part = guarded_code (value_at table c.args.condition) (statement_in table c.args.body.now) (making c.args.self.now) (length c.put.new.self - c.len-end.result) (length c.put.new.self - c.len-again.result) (length c.put.new.self - c.len-end.result) in
    let long : length c.put.new.self ≤ length c.guarded.new.code = longer part c.put.new.self c.guarded.new.code c.in_ok-guarded.ensures in
    let one : length c.put.new.self ≡ suc (length c.args.code.now) = ap length c.in_ok-put.ensures in
    let end : c.len-end.result ≡ length c.args.code.now = c.len-end.ensures in
    omega arith

pub while_loop-returns : goal.while_loop-returns
while_loop-returns t c =
    let x = making c.args.self.now in
    let table = c.args.self.now.declared.table in
    on_ok_weaker c.turn.result
    (λ e. while_made c.args.code.now c.len-end.result c.len-end.ensures (value_code (value_at table c.args.condition) x) (statement_code (statement_in table c.args.body.now) x) c.len-again.result
    c.put.new.self c.guarded.new.code c.turn.new.code c.in_ok-put.ensures c.len-again.ensures c.in_ok-guarded.ensures e)
    c.turn.ensures

pub do_loop-turn-requires : goal.do_loop-turn-requires
do_loop-turn-requires t c =
    let table = c.args.self.now.declared.table in
    let x = making c.args.self.now in
    let part = statement_code (statement_in table c.args.body.now) x (length c.value.new.code - c.len-end.result) (length c.value.new.code - c.len-test.result) in
    let long : length c.value.new.code ≤ length c.statement.new.code = longer part c.value.new.code c.statement.new.code c.in_ok-statement.ensures in
    let middle : length c.put-2.new.self ≤ length c.value.new.code = longer (value_code (value_at table c.args.condition) x) c.put-2.new.self c.value.new.code c.in_ok-value.ensures in
    let two : length c.put-2.new.self ≡ suc (length c.put.new.self) = ap length c.in_ok-put-2.ensures in
    let one : length c.put.new.self ≡ suc (length c.args.code.now) = ap length c.in_ok-put.ensures in
    let end : c.len-end.result ≡ length c.args.code.now = c.len-end.ensures in
    omega arith

pub do_loop-returns : goal.do_loop-returns
do_loop-returns t c =
    let x = making c.args.self.now in
    let table = c.args.self.now.declared.table in
    on_ok_weaker c.turn.result
    (λ e. do_made c.args.code.now c.len-end.result c.len-end.ensures (value_code (value_at table c.args.condition) x) (statement_code (statement_in table c.args.body.now) x) c.len-test.result
    c.put.new.self c.put-2.new.self c.value.new.code c.statement.new.code c.turn.new.code
    c.in_ok-put.ensures c.in_ok-put-2.ensures c.in_ok-value.ensures c.len-test.ensures c.in_ok-statement.ensures e)
    c.turn.ensures

pub for_loop-turn-requires : goal.for_loop-turn-requires
for_loop-turn-requires t c =
    let table = c.args.self.now.declared.table in
    let x = making c.args.self.now in
    let part = statement_code (statement_in table c.args.body.now) x (length c.last.new.code - c.len-end.result) (length c.last.new.code - c.len-next.result) in
    let tested : length c.statement.new.code ≤ length c.test.new.code = longer (test_code (maybe_at table c.args.condition) x (c.len.result - c.len-end.result)) c.statement.new.code c.test.new.code c.in_ok-test.ensures in
    let long : length c.last.new.code ≤ length c.statement.new.code = longer part c.last.new.code c.statement.new.code c.in_ok-statement.ensures in
    let middle : length c.put.new.self ≤ length c.last.new.code = longer (last_code (maybe_at table c.args.last) x) c.put.new.self c.last.new.code c.in_ok-last.ensures in
    let one : length c.put.new.self ≡ suc (length c.args.code.now) = ap length c.in_ok-put.ensures in
    let end : c.len-end.result ≡ length c.args.code.now = c.len-end.ensures in
    omega arith

pub for_loop-returns : goal.for_loop-returns
for_loop-returns t c =
    let x = making c.args.self.now in
    let table = c.args.self.now.declared.table in
    let end = c.len-end.result in
    on_ok_weaker c.turn.result
    (λ e. for_made c.args.code.now end c.len-end.ensures (test_code (maybe_at table c.args.condition) x) (last_code (maybe_at table c.args.last) x) (statement_code (statement_in table c.args.body.now) x) c.len-next.result
    c.put.new.self c.last.new.code c.statement.new.code c.test.new.code c.turn.new.code
    c.in_ok-put.ensures c.in_ok-last.ensures c.len-next.ensures c.in_ok-statement.ensures
    (c.in_ok-test.ensures ∙ ap (λ (n : ℕ). test_code (maybe_at table c.args.condition) x (n - end) ++ c.statement.new.code) c.len.ensures) e)
    c.turn.ensures

pub statement-statements-requires : goal.statement-statements-requires
statement-statements-requires t c =
    let table = c.args.self.now.declared.table in
    let inside : AllStatements table c.in-Block.statements.items = block_inside table c.in-Block.statements (subst (λ (s : Statement). IsStatement table s) c.in-Block.is c.requires.inside) in
    let all : AllStatements table c.deref.result.now = subst (λ (ss : List Statement). AllStatements table ss) (sym c.deref.ensures.value) inside in
    let means : tree.Block (statements_in table c.deref.result.now) ≡ statement_in table c.args.statement.now =
    ap (λ (ss : List Statement). tree.Block (statements_in table ss)) c.deref.ensures.value ∙ (sym (block_means table c.in-Block.statements) ∙ ap (statement_in table) (sym c.in-Block.is)) in
    let smaller : statements_weight (statements_in table c.deref.result.now) < statement_weight (statement_in table c.args.statement.now) = omega (arith, ap statement_weight means) in
    let stop = c.requires.stop in
    let again = c.requires.again in
    search rules

pub statement-returns-in-Block : goal.statement-returns-in-Block
statement-returns-in-Block t c =
    let table = c.args.self.now.declared.table in
    let means : tree.Block (statements_in table c.deref.result.now) ≡ statement_in table c.args.statement.now =
    ap (λ (ss : List Statement). tree.Block (statements_in table ss)) c.deref.ensures.value ∙ (sym (block_means table c.in-Block.statements) ∙ ap (statement_in table) (sym c.in-Block.is)) in
    subst (λ (s : tree.Statement). OnOk c.statements.result (c.statements.new.code ≡ statement_code s (making c.args.self.now) (length c.args.code.now - c.args.stop) (length c.args.code.now - c.args.again) ++ c.args.code.now)) means c.statements.ensures

pub statement-statements-requires-in-For : goal.statement-statements-requires-in-For
statement-statements-requires-in-For t c =
    let table = c.args.self.now.declared.table in
    let inside : AllStatements table c.in-For.first.items =
    first_inside table c.in-For.from c.in-For.first c.in-For.condition c.in-For.last c.in-For.body (subst (λ (s : Statement). IsStatement table s) c.in-For.is c.requires.inside) in
    let all : AllStatements table c.deref-in-For-2.result.now = subst (λ (ss : List Statement). AllStatements table ss) (sym c.deref-in-For-2.ensures.value) inside in
    let loop = statement_code (tree.For 0 tree.NoStatements (maybe_at table c.in-For.condition) (maybe_at table c.in-For.last) (statement_in table c.deref-in-For.result.now)) (making c.args.self.now) 0 0 in
    let long : length c.args.code.now ≤ length c.for_loop.new.code = longer loop c.args.code.now c.for_loop.new.code c.in_ok-for_loop-in-For.ensures in
    let means : tree.For c.in-For.from (statements_in table c.deref-in-For-2.result.now) (maybe_at table c.in-For.condition) (maybe_at table c.in-For.last) (statement_in table c.in-For.body.value) ≡ statement_in table c.args.statement.now =
    ap (λ (ss : List Statement). tree.For c.in-For.from (statements_in table ss) (maybe_at table c.in-For.condition) (maybe_at table c.in-For.last) (statement_in table c.in-For.body.value)) c.deref-in-For-2.ensures.value
    ∙ (sym (for_means table c.in-For.from c.in-For.first c.in-For.condition c.in-For.last c.in-For.body) ∙ ap (statement_in table) (sym c.in-For.is)) in
    let smaller : statements_weight (statements_in table c.deref-in-For-2.result.now) < statement_weight (statement_in table c.args.statement.now) = omega (arith, ap statement_weight means) in
    let stop : c.args.stop ≤ length c.for_loop.new.code = omega (arith, c.requires.stop) in
    let again : c.args.again ≤ length c.for_loop.new.code = omega (arith, c.requires.again) in
    search rules

pub statement-returns-in_ok-for_loop-in-For : goal.statement-returns-in_ok-for_loop-in-For
statement-returns-in_ok-for_loop-in-For t c =
    let table = c.args.self.now.declared.table in
    let x = making c.args.self.now in
    let old = c.args.code.now in
    let condition = maybe_at table c.in-For.condition in
    let last = maybe_at table c.in-For.last in
    let first = c.deref-in-For-2.result.now in
    let body = c.deref-in-For.result.now in
    let loop = statement_code (tree.For 0 tree.NoStatements condition last (statement_in table body)) x 0 0 in
    let means : tree.For c.in-For.from (statements_in table first) condition last (statement_in table body) ≡ statement_in table c.args.statement.now =
    ap (λ (ss : List Statement). tree.For c.in-For.from (statements_in table ss) condition last (statement_in table body)) c.deref-in-For-2.ensures.value
    ∙ (ap (λ (s : Statement). tree.For c.in-For.from (statements_in table c.in-For.first.items) condition last (statement_in table s)) c.deref-in-For.ensures
    ∙ (sym (for_means table c.in-For.from c.in-For.first c.in-For.condition c.in-For.last c.in-For.body) ∙ ap (statement_in table) (sym c.in-For.is))) in
    subst (λ (s : tree.Statement). OnOk c.statements-in-For.result (c.statements-in-For.new.code ≡ statement_code s x (length old - c.args.stop) (length old - c.args.again) ++ old)) means
    (on_ok_weaker c.statements-in-For.result
    (λ e. more_made old (length old) refl loop (statements_code (statements_in table first) x) c.args.stop c.args.again c.for_loop.new.code c.statements-in-For.new.code
    c.requires.stop c.requires.again c.in_ok-for_loop-in-For.ensures e)
    c.statements-in-For.ensures)

pub statements-statement-requires : goal.statements-statement-requires
statements-statement-requires t c =
    let table = c.args.self.now.declared.table in
    let inside : IsStatement table c.index-statements-i.result = statement_among table c.args.statements.now (c.loop-i.i - 1) c.index-statements-i.result c.requires.inside (omega arith) c.index-statements-i.is in
    let smaller : statement_weight (statement_in table c.index-statements-i.result) < statements_weight (statements_in table c.args.statements.now) =
    one_lighter table c.args.statements.now (c.loop-i.i - 1) c.index-statements-i.result (omega arith) c.index-statements-i.is in
    let rest = statements_code (statements_in table (drop c.loop-i.i c.args.statements.now)) (making c.args.self.now) (length c.args.code.now - c.args.stop) (length c.args.code.now - c.args.again) in
    let long : length c.args.code.now ≤ length c.loop-i.code = longer rest c.args.code.now c.loop-i.code c.loop-i.invariant in
    let stop : c.args.stop ≤ length c.loop-i.code = omega (arith, c.requires.stop) in
    let again : c.args.again ≤ length c.loop-i.code = omega (arith, c.requires.again) in
    search rules

pub statements-loop-i-preserved : goal.statements-loop-i-preserved
statements-loop-i-preserved t c =
    let table = c.args.self.now.declared.table in
    let x = making c.args.self.now in
    let old = c.args.code.now in
    let stop = length old - c.args.stop in
    let again = length old - c.args.again in
    let ss = drop c.loop-i.i c.args.statements.now in
    let s = c.index-statements-i.result in
    let rest = statements_code (statements_in table ss) x stop again in
    let more : s ∷ ss ≡ drop (c.loop-i.i - 1) c.args.statements.now = sym (one_more c.args.statements.now c.loop-i.i s (omega arith) c.loop-i.auto.i c.index-statements-i.is) in
    more_made old (length old) refl rest (statement_code (statement_in table s) x) c.args.stop c.args.again c.loop-i.code c.statement.new.code c.requires.stop c.requires.again c.loop-i.invariant c.in_ok-statement.ensures
    ∙ ap (λ (ts : List Statement). statements_code (statements_in table ts) x stop again ++ old) more
