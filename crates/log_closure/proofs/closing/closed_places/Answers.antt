use Rattle.std.proofs.Common.{ap, arith, ◌≡◌, [], Bool, None, List, subst}
use Rattle.std.specs.List.Sorted.{IsPermutation}
use Rattle.std.specs.List.{All}
use Rattle.std.specs.Prelude.{◌<◌, length}
use Rattle.log_closure.specs.declared.place.LogPlace.{LogPlace}
use Rattle.log_closure.specs.Events.{events_of}
use Rattle.log_closure.specs.FirstWrong.{first_wrong}
use Rattle.log_closure.proofs.Parts.{order_few, order_within, whole_places, grown_places}
use Rattle.std.proofs.Common.{sym}
use Rattle.log_closure.proofs.closing.closed_places.Goals as goal

pub returns-then-whole-clause-part : goal.returns-then-whole-clause-part
returns-then-whole-clause-part c =
    let all = events_of c.args.records.now in
    let perm = subst (λ (l : List LogPlace). IsPermutation l c.sort.new.self.items) c.in_ok-order.ensures c.in_ok-sort.ensures.permutation in
    whole_places c.args.records.now c.sort.new.self.items (subst (λ (w : Bool). first_wrong w all [] all ≡ None) c.if-whole.true c.in_ok-check.ensures) perm c.in_ok-sort.ensures.sorted

pub returns-then-whole-clause-within : goal.returns-then-whole-clause-within
returns-then-whole-clause-within c = order_within c.args.records.now c.sort.new.self.items (subst (λ (l : List LogPlace). IsPermutation l c.sort.new.self.items) c.in_ok-order.ensures c.in_ok-sort.ensures.permutation)

pub grow-requires : goal.grow-requires
grow-requires c =
    let perm = subst (λ (l : List LogPlace). IsPermutation l c.sort.new.self.items) c.in_ok-order.ensures c.in_ok-sort.ensures.permutation in
    subst (λ (l : List LogPlace). All (λ (p : LogPlace). p.at < length c.args.records.now) l) (sym c.deref-2.ensures.value) (order_within c.args.records.now c.sort.new.self.items perm)

pub returns-clause-part : goal.returns-clause-part
returns-clause-part c =
    let perm = subst (λ (l : List LogPlace). IsPermutation l c.sort.new.self.items) c.in_ok-order.ensures c.in_ok-sort.ensures.permutation in
    grown_places c.args.records.now c.args.whole c.sort.new.self.items c.deref-2.result.now c.in_ok-part.part.items c.deref-2.ensures.value c.in_ok-check.ensures perm c.in_ok-sort.ensures.sorted c.in_ok-part.ensures.part

pub returns-then-whole-clause-few : goal.returns-then-whole-clause-few
returns-then-whole-clause-few c = order_few c.args.records.now c.sort.new.self.items (subst (λ (l : List LogPlace). IsPermutation l c.sort.new.self.items) c.in_ok-order.ensures c.in_ok-sort.ensures.permutation)

pub returns-clause-few : goal.returns-clause-few
returns-clause-few c =
    let perm = subst (λ (l : List LogPlace). IsPermutation l c.sort.new.self.items) c.in_ok-order.ensures c.in_ok-sort.ensures.permutation in
    let a = order_few c.args.records.now c.sort.new.self.items perm in
    let b = ap length c.deref-2.ensures.value in
    let d = c.in_ok-part.ensures.few in
    omega (arith, a, b, d)
