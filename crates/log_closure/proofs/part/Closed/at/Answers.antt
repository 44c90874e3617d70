use Rattle.std.proofs.Common.{◌≡◌, ◌<◌, ℕ, List, get_or, length, sym, ap, ◌∙◌, subst, arith}
use Rattle.std.specs.Global.{Vec}
use Rattle.run_events.specs.declared.event.Record.{Record}
use Rattle.log_closure.specs.Events.{Part, In}
use Rattle.log_closure.specs.Chains.{thread_count}
use Rattle.log_closure.specs.Places.{thread_places, no_record}
use Rattle.log_closure.proofs.GrowSteps.{at_any}
use Rattle.log_closure.proofs.Index.{places_count, found_at}
use Rattle.log_closure.proofs.Steps.{ltb_off, ltb_on}
use Rattle.log_closure.proofs.part.Closed.at.Goals as goal

pub returns-then-index-places-clause-there : goal.returns-then-index-places-clause-there
returns-then-index-places-clause-there c =
    let rs = c.self.inside.records.items in
    let order = c.self.inside.order.items in
    let list_is : c.as_slice-places.result.now ≡ thread_places c.args.thread order =
    c.as_slice-places.ensures.value ∙ ap (λ (v : Vec ℕ). v.items) (c.index.ensures ∙ ap (λ (n : ℕ). get_or c.self.inside.by_thread.items n c.index.result.now) c.from.ensures) ∙ c.self.invariant.listed c.args.thread (omega (arith, c.ranges.thread.fits)) c.index.result.now in
    let size : length c.as_slice-places.result.now ≡ thread_count c.args.thread c.args.self.now.events = ap length list_is ∙ places_count rs c.args.thread order ∙ ap (thread_count c.args.thread) (ap (λ (p : Part). p.events) c.self.view_is) in
    ltb_off c.args.index (thread_count c.args.thread c.args.self.now.events) (omega (arith, size, c.if-index-places.true))

pub returns-clause-there : goal.returns-clause-there
returns-clause-there c =
    let rs = c.self.inside.records.items in
    let order = c.self.inside.order.items in
    let list_is : c.as_slice-places.result.now ≡ thread_places c.args.thread order =
    c.as_slice-places.ensures.value ∙ ap (λ (v : Vec ℕ). v.items) (c.index.ensures ∙ ap (λ (n : ℕ). get_or c.self.inside.by_thread.items n c.index.result.now) c.from.ensures) ∙ c.self.invariant.listed c.args.thread (omega (arith, c.ranges.thread.fits)) c.index.result.now in
    let size : length c.as_slice-places.result.now ≡ thread_count c.args.thread c.args.self.now.events = ap length list_is ∙ places_count rs c.args.thread order ∙ ap (thread_count c.args.thread) (ap (λ (p : Part). p.events) c.self.view_is) in
    ltb_on c.args.index (thread_count c.args.thread c.args.self.now.events) (omega (arith, size, c.if-index-places.false))

pub bounds-records-at : goal.bounds-records-at
bounds-records-at c =
    let rs = c.self.inside.records.items in
    let order = c.self.inside.order.items in
    let list_is : c.as_slice-places.result.now ≡ thread_places c.args.thread order =
    c.as_slice-places.ensures.value ∙ ap (λ (v : Vec ℕ). v.items) (c.index.ensures ∙ ap (λ (n : ℕ). get_or c.self.inside.by_thread.items n c.index.result.now) c.from.ensures) ∙ c.self.invariant.listed c.args.thread (omega (arith, c.ranges.thread.fits)) c.index.result.now in
    let w = found_at rs order c.args.thread c.args.index c.self.invariant.within c.self.invariant.counts (subst (λ (l : List ℕ). c.args.index < length l) list_is c.if-index-places.false) in
    let n : get_or c.as_slice-places.result.now c.args.index 0 ≡ get_or (thread_places c.args.thread order) c.args.index 0 = ap (λ (l : List ℕ). get_or l c.args.index 0) list_is in
    let len_is = ap length c.as_slice-records.ensures.value in
    omega (arith, w.within, n, len_is)

pub returns-clause-it : goal.returns-clause-it
returns-clause-it c =
    let rs = c.self.inside.records.items in
    let order = c.self.inside.order.items in
    let list_is : c.as_slice-places.result.now ≡ thread_places c.args.thread order =
    c.as_slice-places.ensures.value ∙ ap (λ (v : Vec ℕ). v.items) (c.index.ensures ∙ ap (λ (n : ℕ). get_or c.self.inside.by_thread.items n c.index.result.now) c.from.ensures) ∙ c.self.invariant.listed c.args.thread (omega (arith, c.ranges.thread.fits)) c.index.result.now in
    let w = found_at rs order c.args.thread c.args.index c.self.invariant.within c.self.invariant.counts (subst (λ (l : List ℕ). c.args.index < length l) list_is c.if-index-places.false) in
    let k = get_or (thread_places c.args.thread order) c.args.index 0 in
    let entry_is : c.index-records-at.result ≡ get_or rs k no_record =
    c.index-records-at.is ∙ (λ i. get_or (c.as_slice-records.ensures.value i) (get_or (list_is i) c.args.index 0) c.index-records-at.result) ∙ at_any rs k c.index-records-at.result no_record w.within in
    let there = subst (In (record { name = record { thread = c.args.thread; index = c.args.index }; entry = get_or rs k no_record })) (ap (λ (p : Part). p.events) c.self.view_is) w.among in
    subst (λ (r : Record). In (record { name = record { thread = c.args.thread; index = c.args.index }; entry = r }) c.args.self.now.events) (sym entry_is) there
