use Rattle.std.proofs.Common.{◌≡◌, ◌+◌, Bool, true, false, None, ap, ◌∙◌, subst}
use Rattle.std.proofs.lemmas.Result.{on_ok_weaker}
use Rattle.c_builtins.specs.Table.{first_source_function}
use Rattle.c_types_program.specs.Statements.{statement_in}
use Rattle.lockset_check_rules.specs.Mutexes.{Locks, locks_of}
use Rattle.lockset_check_rules.specs.After.{statement_after}
use Rattle.lockset_check_rules.specs.Statements.{statement_found}
use Rattle.lockset_check_held.specs.HeldSets.{HeldSets, starting}
use Rattle.lockset_check_values.proofs.ByNumber.{need_by_place}
use Rattle.lockset_check_values.specs.Setting.{guarded}
use Rattle.lockset_check_values.specs.Walks.{Walked, with_sets}
use Rattle.lockset_check_bodies.specs.Places.{Passed, StatementWalked, within}
use Rattle.lockset_check_bodies.proofs.Passing.{body_ended, body_stopped}
use Rattle.lockset_check_bodies.proofs.body.walk_body.Goals as goal

pub returns-then-not-goes-clause-found : goal.returns-then-not-goes-clause-found
returns-then-not-goes-clause-found c =
    let r = guarded c.args.walker.now in
    let a = statement_in c.args.walker.now.program.table c.args.body.now.statements in
    let w = c.args.walk.now in
    let s = locks_of (r.holds (first_source_function + c.args.place)) in
    let x : Walked = with_sets (starting s w.sets) w in
    let at : c.start.new.self ≡ x =
    c.in_ok-start.ensures
    ∙ ap (λ (l : Locks). with_sets (starting l w.sets) w) (need_by_place c.args.walker.now.sayings w.sets.needs c.args.place c.requires.walk) in
    let off : c.in_ok-goes.goes ≡ false = c.if-not-goes.true in
    let p : Passed (statement_after a s) (statement_found r (within x.sets None) a s) false x c.walk_statement.new.walk =
    subst (λ (b : Bool). StatementWalked r None a b x c.walk_statement.new.walk) off
    (subst (λ (y : Walked). StatementWalked r None a c.in_ok-goes.goes y c.walk_statement.new.walk) at c.in_ok-goes.ensures) in
    body_stopped (within x.sets None) c.args.body.now.from (statement_after a s) (statement_found r (within x.sets None) a s) x c.walk_statement.new.walk p

pub returns-clause-found : goal.returns-clause-found
returns-clause-found c =
    let r = guarded c.args.walker.now in
    let a = statement_in c.args.walker.now.program.table c.args.body.now.statements in
    let w = c.args.walk.now in
    let s = locks_of (r.holds (first_source_function + c.args.place)) in
    let x : Walked = with_sets (starting s w.sets) w in
    let at : c.start.new.self ≡ x =
    c.in_ok-start.ensures
    ∙ ap (λ (l : Locks). with_sets (starting l w.sets) w) (need_by_place c.args.walker.now.sayings w.sets.needs c.args.place c.requires.walk) in
    let on : c.in_ok-goes.goes ≡ true = c.if-not-goes.false in
    let p : Passed (statement_after a s) (statement_found r (within x.sets None) a s) true x c.walk_statement.new.walk =
    subst (λ (b : Bool). StatementWalked r None a b x c.walk_statement.new.walk) on
    (subst (λ (y : Walked). StatementWalked r None a c.in_ok-goes.goes y c.walk_statement.new.walk) at c.in_ok-goes.ensures) in
    on_ok_weaker c.check_start.result
    (λ e. body_ended c.args.body.now.from (statement_after a s) (statement_found r (within x.sets None) a s) x c.walk_statement.new.walk c.check_start.new.walk p e)
    c.check_start.ensures
