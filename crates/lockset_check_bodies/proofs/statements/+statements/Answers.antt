use Rattle.std.proofs.Common.{◌≡◌, ◌+◌, ◌<◌, Bool, true, false, List, [], ◌∷◌, ◌++◌, Some, None, drop, rules, sym, ap, ◌∙◌, subst, append_assoc, arith}
use Rattle.std.specs.Prelude.{IfOk}
use Rattle.std.proofs.lemmas.List.{drop_all}
use Rattle.std.proofs.lemmas.Result.{IfOk-weaker, on_ok_weaker}
use Rattle.c_types_rules.specs.TypedTree as tree
use Rattle.c_types_nodes.specs.Tables.{value_at}
use Rattle.c_types_program.specs.declared.statement.Statement.{Statement}
use Rattle.c_types_program.specs.Statements.{AllStatements, IsStatement, maybe_at, statement_in, statements_in}
use Rattle.c_types_program.proofs.Vectors.{block_inside, block_means, first_inside, for_means}
use Rattle.lockset_check_rules.specs.declared.finding.LockFinding.{LockFinding}
use Rattle.lockset_check_rules.specs.After.{joined, statement_after, statements_after, value_after}
use Rattle.lockset_check_rules.specs.Values.{value_found}
use Rattle.lockset_check_rules.specs.Statements.{statement_found, statements_found}
use Rattle.lockset_check_held.specs.HeldSets.{keeping}
use Rattle.lockset_check_values.specs.Setting.{guarded}
use Rattle.lockset_check_values.specs.Walks.{Walked, with_sets}
use Rattle.lockset_check_bodies.specs.Places.{Passed, StatementWalked, StatementsWalked, WaysEnded, in_part, in_round, within}
use Rattle.lockset_check_bodies.proofs.Lists.{one_lighter, one_more, statement_among}
use Rattle.lockset_check_bodies.proofs.Passing.{ended_part, first_part, first_stopped, first_went, kept_at, looped, next_part, nothing_passed, one_joined, round_ended, round_stopped, still, still_in_part, stops_there, then_passed, there, turned, turned_at, two_joined}
use Rattle.lockset_check_bodies.proofs.Weights.{statement_weight, statements_weight}
use Rattle.lockset_check_bodies.proofs.statements.+statements.Goals as goal

pub while_loop-returns : goal.while_loop-returns
while_loop-returns t c =
    let r = guarded c.args.walker.now in
    let table = c.args.walker.now.program.table in
    let w = c.args.walk.now in
    let condition = in_part r (tree.OneValue (value_at table c.args.condition)) in
    let body = in_round r (statement_in table c.args.body.now) in
    let at = there c.args.from w in
    let first = first_part c.args.from w condition c.enter.new.self c.part.new.walk c.in_ok-enter.ensures c.in_ok-part.ensures in
    let both = next_part c.args.from w (condition at w.sets.held) body c.part.new.walk c.round.new.walk first c.in_ok-round.ensures in
    looped c.args.from w (condition at w.sets.held ++ body at w.sets.held) c.round.new.walk c.leave.new.self both c.in_ok-leave.ensures

pub do_loop-returns : goal.do_loop-returns
do_loop-returns t c =
    let r = guarded c.args.walker.now in
    let table = c.args.walker.now.program.table in
    let w = c.args.walk.now in
    let condition = in_part r (tree.OneValue (value_at table c.args.condition)) in
    let body = in_round r (statement_in table c.args.body.now) in
    let at = there c.args.from w in
    let first = first_part c.args.from w body c.enter.new.self c.round.new.walk c.in_ok-enter.ensures c.in_ok-round.ensures in
    let both = next_part c.args.from w (body at w.sets.held) condition c.round.new.walk c.part.new.walk first c.in_ok-part.ensures in
    looped c.args.from w (body at w.sets.held ++ condition at w.sets.held) c.part.new.walk c.leave.new.self both c.in_ok-leave.ensures

pub for_loop-returns : goal.for_loop-returns
for_loop-returns t c =
    let r = guarded c.args.walker.now in
    let table = c.args.walker.now.program.table in
    let w = c.args.walk.now in
    let condition = in_part r (maybe_at table c.args.condition) in
    let last = in_part r (maybe_at table c.args.last) in
    let body = in_round r (statement_in table c.args.body.now) in
    let at = there c.args.from w in
    let a = condition at w.sets.held in
    let b = body at w.sets.held in
    let z = last at w.sets.held in
    let first = first_part c.args.from w condition c.enter.new.self c.part.new.walk c.in_ok-enter.ensures c.in_ok-part.ensures in
    let both = next_part c.args.from w a body c.part.new.walk c.round.new.walk first c.in_ok-round.ensures in
    let all = next_part c.args.from w (a ++ b) last c.round.new.walk c.part-2.new.walk both c.in_ok-part-2.ensures in
    subst (λ (fs : List LockFinding). Passed (Some w.sets.held) fs true w c.leave.new.self) (append_assoc a b z)
    (looped c.args.from w ((a ++ b) ++ z) c.part-2.new.walk c.leave.new.self all c.in_ok-leave.ensures)

pub one_way-returns : goal.one_way-returns
one_way-returns t c =
    let r = guarded c.args.walker.now in
    let table = c.args.walker.now.program.table in
    let w = c.args.walk.now in
    let v = value_at table c.args.condition in
    let a = statement_in table c.args.then.now in
    let s = value_after v w.sets.held in
    let fs = value_found r false v w.sets.held in
    let at : c.keep.new.self ≡ kept_at s fs w = c.in_ok-keep.ensures ∙ ap (λ (x : Walked). with_sets (keeping x.sets) x) c.in_ok-value.ensures in
    let p : Passed (statement_after a s) (statement_found r (within w.sets c.args.within) a s) c.in_ok-goes.goes (kept_at s fs w) c.walk_statement.new.walk =
    subst (λ (x : Walked). StatementWalked r c.args.within a c.in_ok-goes.goes x c.walk_statement.new.walk) at c.in_ok-goes.ensures in
    one_joined s fs (statement_found r (within w.sets c.args.within) a s) w c.walk_statement.new.walk c.end_way.new.walk (statement_after a s) c.in_ok-goes.goes p c.in_ok-end_way.ensures

pub two_ways-returns : goal.two_ways-returns
two_ways-returns t c =
    let r = guarded c.args.walker.now in
    let table = c.args.walker.now.program.table in
    let w = c.args.walk.now in
    let v = value_at table c.args.condition in
    let a = statement_in table c.args.then.now in
    let b = statement_in table c.args.other.now in
    let s = value_after v w.sets.held in
    let fs = value_found r false v w.sets.held in
    let gs = statement_found r (within w.sets c.args.within) a s in
    let hs = statement_found r (within w.sets c.args.within) b s in
    let at : c.keep.new.self ≡ kept_at s fs w = c.in_ok-keep.ensures ∙ ap (λ (x : Walked). with_sets (keeping x.sets) x) c.in_ok-value.ensures in
    let p : Passed (statement_after a s) gs c.in_ok-first.first (kept_at s fs w) c.walk_statement.new.walk =
    subst (λ (x : Walked). StatementWalked r c.args.within a c.in_ok-first.first x c.walk_statement.new.walk) at c.in_ok-first.ensures in
    let again : c.turn.new.self ≡ turned_at s c.walk_statement.new.walk.sets.held w c.walk_statement.new.walk =
    turned s fs gs w c.walk_statement.new.walk c.turn.new.self (statement_after a s) c.in_ok-first.first p c.in_ok-turn.ensures in
    let q : Passed (statement_after b s) hs c.in_ok-second.second (turned_at s c.walk_statement.new.walk.sets.held w c.walk_statement.new.walk) c.walk_statement-2.new.walk =
    subst (λ (x : Walked). StatementWalked r c.args.within b c.in_ok-second.second x c.walk_statement-2.new.walk) again c.in_ok-second.ensures in
    let after = joined (statement_after a s) (statement_after b s) in
    IfOk-weaker c.end_ways.result (λ (goes : Bool). WaysEnded c.in_ok-first.first c.in_ok-second.second goes c.walk_statement-2.new.walk c.end_ways.new.walk)
    (λ (goes : Bool). Passed after (fs ++ (gs ++ hs)) goes w c.end_ways.new.walk)
    (λ goes e. subst (λ (on : Bool). Passed after (fs ++ (gs ++ hs)) on w c.end_ways.new.walk) (sym e.0)
    (two_joined s fs gs hs w c.walk_statement.new.walk c.walk_statement-2.new.walk c.end_ways.new.walk (statement_after a s) (statement_after b s) c.in_ok-first.first c.in_ok-second.second p q e.1))
    c.end_ways.ensures

pub walk_statement-walk_statements-requires : goal.walk_statement-walk_statements-requires
walk_statement-walk_statements-requires t c =
    let table = c.args.walker.now.program.table in
    let inside : AllStatements table c.in-Block.statements.items = block_inside table c.in-Block.statements (subst (λ (s : Statement). IsStatement table s) c.in-Block.is c.requires.statement) in
    let all : AllStatements table c.deref.result.now = subst (λ (ss : List Statement). AllStatements table ss) (sym c.deref.ensures.value) inside in
    let means : tree.Block (statements_in table c.deref.result.now) ≡ statement_in table c.args.statement.now =
    ap (λ (ss : List Statement). tree.Block (statements_in table ss)) c.deref.ensures.value ∙ (sym (block_means table c.in-Block.statements) ∙ ap (statement_in table) (sym c.in-Block.is)) in
    let smaller : statements_weight (statements_in table c.deref.result.now) < statement_weight (statement_in table c.args.statement.now) = omega (arith, ap statement_weight means) in
    search rules

pub walk_statement-returns-in-Block : goal.walk_statement-returns-in-Block
walk_statement-returns-in-Block t c =
    let table = c.args.walker.now.program.table in
    let means : tree.Block (statements_in table c.deref.result.now) ≡ statement_in table c.args.statement.now =
    ap (λ (ss : List Statement). tree.Block (statements_in table ss)) c.deref.ensures.value ∙ (sym (block_means table c.in-Block.statements) ∙ ap (statement_in table) (sym c.in-Block.is)) in
    subst (λ (s : tree.Statement). IfOk c.walk_statements.result (λ (goes : Bool). StatementWalked (guarded c.args.walker.now) c.args.within s goes c.args.walk.now c.walk_statements.new.walk)) means c.walk_statements.ensures

pub walk_statement-for_statement-requires : goal.walk_statement-for_statement-requires
walk_statement-for_statement-requires t c =
    let table = c.args.walker.now.program.table in
    let condition = maybe_at table c.in-For.condition in
    let last = maybe_at table c.in-For.last in
    let first = statements_in table c.deref-in-For.result.now in
    let body = statement_in table c.deref-in-For-2.result.now in
    let inside : AllStatements table c.in-For.first.items =
    first_inside table c.in-For.from c.in-For.first c.in-For.condition c.in-For.last c.in-For.body (subst (λ (s : Statement). IsStatement table s) c.in-For.is c.requires.statement) in
    let all : AllStatements table c.deref-in-For.result.now = subst (λ (ss : List Statement). AllStatements table ss) (sym c.deref-in-For.ensures.value) inside in
    let means : tree.For c.in-For.from first condition last body ≡ statement_in table c.args.statement.now =
    ap (λ (ss : List Statement). tree.For c.in-For.from (statements_in table ss) condition last body) c.deref-in-For.ensures.value
    ∙ (ap (λ (s : Statement). tree.For c.in-For.from (statements_in table c.in-For.first.items) condition last (statement_in table s)) c.deref-in-For-2.ensures
    ∙ (sym (for_means table c.in-For.from c.in-For.first c.in-For.condition c.in-For.last c.in-For.body) ∙ ap (statement_in table) (sym c.in-For.is))) in
    let smaller : 3 + (statements_weight first + statement_weight body) < statement_weight (statement_in table c.args.statement.now) = omega (arith, ap statement_weight means) in
    search rules

pub walk_statement-returns-in-For : goal.walk_statement-returns-in-For
walk_statement-returns-in-For t c =
    let table = c.args.walker.now.program.table in
    let condition = maybe_at table c.in-For.condition in
    let last = maybe_at table c.in-For.last in
    let first = statements_in table c.deref-in-For.result.now in
    let body = statement_in table c.deref-in-For-2.result.now in
    let means : tree.For c.in-For.from first condition last body ≡ statement_in table c.args.statement.now =
    ap (λ (ss : List Statement). tree.For c.in-For.from (statements_in table ss) condition last body) c.deref-in-For.ensures.value
    ∙ (ap (λ (s : Statement). tree.For c.in-For.from (statements_in table c.in-For.first.items) condition last (statement_in table s)) c.deref-in-For-2.ensures
    ∙ (sym (for_means table c.in-For.from c.in-For.first c.in-For.condition c.in-For.last c.in-For.body) ∙ ap (statement_in table) (sym c.in-For.is))) in
    subst (λ (s : tree.Statement). IfOk c.for_statement.result (λ (goes : Bool). StatementWalked (guarded c.args.walker.now) c.args.within s goes c.args.walk.now c.for_statement.new.walk)) means c.for_statement.ensures

pub walk_statements-walk_statement-requires : goal.walk_statements-walk_statement-requires
walk_statements-walk_statement-requires t c =
    let table = c.args.walker.now.program.table in
    let inside : IsStatement table c.index-statements-i.result = statement_among table c.args.statements.now c.loop-i.i c.index-statements-i.result c.requires.statements (omega arith) c.index-statements-i.is in
    let smaller : statement_weight (statement_in table c.index-statements-i.result) < statements_weight (statements_in table c.args.statements.now) =
    one_lighter table c.args.statements.now c.loop-i.i c.index-statements-i.result (omega arith) c.index-statements-i.is in
    search rules

pub walk_statements-loop-i-preserved : goal.walk_statements-loop-i-preserved
walk_statements-loop-i-preserved t c =
    let r = guarded c.args.walker.now in
    let table = c.args.walker.now.program.table in
    let ss = c.args.statements.now in
    let s = c.index-statements-i.result in
    let w = c.loop-i.walk in
    let v = c.walk_statement.new.walk in
    let more : drop c.loop-i.i ss ≡ s ∷ drop (c.loop-i.i + 1) ss = one_more ss c.loop-i.i s (omega arith) c.index-statements-i.is in
    let rest = statements_in table (drop (c.loop-i.i + 1) ss) in
    let on : c.in_ok-goes.goes ≡ true = c.if-not-goes.false in
    let p : StatementWalked r c.args.within (statement_in table s) true w v = subst (λ (b : Bool). StatementWalked r c.args.within (statement_in table s) b w v) on c.in_ok-goes.ensures in (
      still c.args.walker.now.sayings (statement_after (statement_in table s) w.sets.held) (statement_found r (within w.sets c.args.within) (statement_in table s) w.sets.held) true w v p c.loop-i.invariant.0,
      λ goes u h. c.loop-i.invariant.1 goes u
          (subst (λ (xs : List Statement). StatementsWalked r c.args.within (statements_in table xs) goes w u) (sym more)
          (then_passed (statements_after rest) (λ x l. statements_found r x rest l) c.args.within (statement_after (statement_in table s) w.sets.held) (statement_found r (within w.sets c.args.within) (statement_in table s) w.sets.held) goes w v u p h)),
    )

pub walk_statements-returns : goal.walk_statements-returns
walk_statements-returns t c =
    let r = guarded c.args.walker.now in
    let table = c.args.walker.now.program.table in
    let ss = c.args.statements.now in
    let w = c.loop-i.walk in
    let all : drop c.loop-i.i ss ≡ [] = drop_all c.loop-i.i ss (omega arith) in
    c.loop-i.invariant.1 true w (subst (λ (xs : List Statement). StatementsWalked r c.args.within (statements_in table xs) true w w) (sym all) (nothing_passed w))

pub walk_statements-returns-then-not-goes : goal.walk_statements-returns-then-not-goes
walk_statements-returns-then-not-goes t c =
    let r = guarded c.args.walker.now in
    let table = c.args.walker.now.program.table in
    let ss = c.args.statements.now in
    let s = c.index-statements-i.result in
    let w = c.loop-i.walk in
    let v = c.walk_statement.new.walk in
    let more : drop c.loop-i.i ss ≡ s ∷ drop (c.loop-i.i + 1) ss = one_more ss c.loop-i.i s (omega arith) c.index-statements-i.is in
    let rest = statements_in table (drop (c.loop-i.i + 1) ss) in
    let off : c.in_ok-goes.goes ≡ false = c.if-not-goes.true in
    let p : StatementWalked r c.args.within (statement_in table s) false w v = subst (λ (b : Bool). StatementWalked r c.args.within (statement_in table s) b w v) off c.in_ok-goes.ensures in
    c.loop-i.invariant.1 false v
    (subst (λ (xs : List Statement). StatementsWalked r c.args.within (statements_in table xs) false w v) (sym more)
    (stops_there (statements_after rest) (λ x l. statements_found r x rest l) c.args.within (statement_after (statement_in table s) w.sets.held) (statement_found r (within w.sets c.args.within) (statement_in table s) w.sets.held) w v p))

pub round-returns-then-not-goes : goal.round-returns-then-not-goes
round-returns-then-not-goes t c =
    let r = guarded c.args.walker.now in
    let a = statement_in c.args.walker.now.program.table c.args.body.now in
    let x = c.restart.new.self in
    let v = c.walk_statement.new.walk in
    let off : c.in_ok-goes.goes ≡ false = c.if-not-goes.true in
    let p : StatementWalked r (Some c.args.from) a false x v = subst (λ (b : Bool). StatementWalked r (Some c.args.from) a b x v) off c.in_ok-goes.ensures in
    ended_part c.args.from r a c.args.walk.now x v c.in_ok-restart.ensures
    (round_stopped c.args.from (statement_after a x.sets.held) (statement_found r (within x.sets (Some c.args.from)) a x.sets.held) x v p)

pub round-returns : goal.round-returns
round-returns t c =
    let r = guarded c.args.walker.now in
    let a = statement_in c.args.walker.now.program.table c.args.body.now in
    let x = c.restart.new.self in
    let v = c.walk_statement.new.walk in
    let u = c.check_loop.new.walk in
    let on : c.in_ok-goes.goes ≡ true = c.if-not-goes.false in
    let p : StatementWalked r (Some c.args.from) a true x v = subst (λ (b : Bool). StatementWalked r (Some c.args.from) a b x v) on c.in_ok-goes.ensures in
    on_ok_weaker c.check_loop.result
    (λ e. ended_part c.args.from r a c.args.walk.now x u c.in_ok-restart.ensures
    (round_ended c.args.from (statement_after a x.sets.held) (statement_found r (within x.sets (Some c.args.from)) a x.sets.held) x v u p e))
    c.check_loop.ensures

pub for_statement-returns-then-not-goes : goal.for_statement-returns-then-not-goes
for_statement-returns-then-not-goes t c =
    let r = guarded c.args.walker.now in
    let table = c.args.walker.now.program.table in
    let first = statements_in table c.args.first.now in
    let rounds = tree.For c.args.from tree.NoStatements (maybe_at table c.args.condition) (maybe_at table c.args.last) (statement_in table c.args.body.now) in
    let w = c.args.walk.now in
    let v = c.walk_statements.new.walk in
    let off : c.in_ok-goes.goes ≡ false = c.if-not-goes.true in
    let p : StatementsWalked r c.args.within first false w v = subst (λ (b : Bool). StatementsWalked r c.args.within first b w v) off c.in_ok-goes.ensures in
    first_stopped (λ l. statement_found r (within w.sets None) rounds l) (statements_after first w.sets.held) (statements_found r (within w.sets c.args.within) first w.sets.held) w v p

pub for_statement-returns : goal.for_statement-returns
for_statement-returns t c =
    let r = guarded c.args.walker.now in
    let table = c.args.walker.now.program.table in
    let first = statements_in table c.args.first.now in
    let condition = maybe_at table c.args.condition in
    let last = maybe_at table c.args.last in
    let body = statement_in table c.args.body.now in
    let rounds = tree.For c.args.from tree.NoStatements condition last body in
    let w = c.args.walk.now in
    let v = c.walk_statements.new.walk in
    let u = c.for_loop.new.walk in
    let on : c.in_ok-goes.goes ≡ true = c.if-not-goes.false in
    let p : StatementsWalked r c.args.within first true w v = subst (λ (b : Bool). StatementsWalked r c.args.within first b w v) on c.in_ok-goes.ensures in
    IfOk-weaker c.for_loop.result (λ (goes : Bool). StatementWalked r None rounds goes v u) (λ (goes : Bool). StatementWalked r c.args.within (tree.For c.args.from first condition last body) goes w u)
    (λ goes q. first_went (λ h l. statement_found r (within h None) rounds l) (statements_after first w.sets.held) (statements_found r (within w.sets c.args.within) first w.sets.held) goes w v u p q)
    c.for_loop.ensures
