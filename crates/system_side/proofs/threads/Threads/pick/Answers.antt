use Rattle.std.proofs.Common.{◌≡◌, ◌↔◌, ℕ, false, List, Some, IsNone, subst}
use Rattle.std.specs.List.{find}
use Rattle.system_side.specs.declared.threads.Standing.{Standing}
use Rattle.system_side.specs.Threads.{is_ready, order_of}
use Rattle.system_side.proofs.Bits.{Picks, picks_later, picks_rest, late_none}
use Rattle.system_side.proofs.threads.Threads.pick.Goals as goal

pub returns-in-Some-clause-first : goal.returns-in-Some-clause-first
returns-in-Some-clause-first c =
    let kept = c.self.invariant in
    let facts = c.in-Some.ensures in
    let wish : c.from.result ≡ c.args.wish = c.from.ensures in
    let picks = picks_later c.self.inside.ready c.self.inside.standings.items kept.bits kept.few c.from.result c.bits_from.result c.bits_from.ensures.below c.bits_from.ensures.same c.in-Some.thread facts.within facts.set facts.below in
    subst (λ (ts : List Standing). Some c.in-Some.thread ≡ find (is_ready ts) (order_of c.args.wish)) c.self.view_is (subst (λ w. Some c.in-Some.thread ≡ find (is_ready c.self.inside.standings.items) (order_of w)) wish picks.first)

-- what the second look gives where the first found nothing
rest : (c : goal.After-lowest-in-None) → Picks c.self.inside.standings.items c.from.result c.lowest-in-None.result
rest c =
    let kept = c.self.invariant in
    let late = late_none c.self.inside.ready c.self.inside.standings.items kept.bits kept.few c.from.result c.bits_from.result c.bits_from.ensures.same c.in-None.ensures.empty in
    let facts = c.lowest-in-None.ensures in
    picks_rest c.self.inside.ready c.self.inside.standings.items kept.bits kept.few c.from.result late c.lowest-in-None.result facts.within facts.set facts.below facts.empty

pub returns-in-None-clause-first : goal.returns-in-None-clause-first
returns-in-None-clause-first c =
    let wish : c.from.result ≡ c.args.wish = c.from.ensures in
    subst (λ (ts : List Standing). c.lowest-in-None.result ≡ find (is_ready ts) (order_of c.args.wish)) c.self.view_is (subst (λ w. c.lowest-in-None.result ≡ find (is_ready c.self.inside.standings.items) (order_of w)) wish (rest c).first)

pub returns-in-None-clause-none : goal.returns-in-None-clause-none
returns-in-None-clause-none c =
    subst (λ (ts : List Standing). IsNone c.lowest-in-None.result ↔ ((t : ℕ) → is_ready ts t ≡ false)) c.self.view_is (rest c).none
