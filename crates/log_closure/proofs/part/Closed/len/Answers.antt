use Rattle.std.proofs.Common.{◌≡◌, ℕ, get_or, length, ap, ◌∙◌, arith}
use Rattle.std.specs.Global.{Vec}
use Rattle.log_closure.specs.Events.{Part}
use Rattle.log_closure.specs.Chains.{thread_count}
use Rattle.log_closure.specs.Places.{thread_places}
use Rattle.log_closure.proofs.Index.{places_count, places_few}
use Rattle.log_closure.proofs.part.Closed.len.Goals as goal

pub overflow_cast-result : goal.overflow_cast-result
overflow_cast-result c =
    let rs = c.self.inside.records.items in
    let order = c.self.inside.order.items in
    let list_is : c.as_slice-places.result.now ≡ thread_places c.args.thread order =
    c.as_slice-places.ensures.value ∙ ap (λ (v : Vec ℕ). v.items) (c.index.ensures ∙ ap (λ (n : ℕ). get_or c.self.inside.by_thread.items n c.index.result.now) c.from.ensures) ∙ c.self.invariant.listed c.args.thread (omega (arith, c.ranges.thread.fits)) c.index.result.now in
    let a = places_few c.args.thread order in
    let b = ap length list_is in
    let d = c.self.invariant.few in
    omega (arith, a, b, d)

pub returns : goal.returns
returns c =
    let rs = c.self.inside.records.items in
    let order = c.self.inside.order.items in
    let list_is : c.as_slice-places.result.now ≡ thread_places c.args.thread order =
    c.as_slice-places.ensures.value ∙ ap (λ (v : Vec ℕ). v.items) (c.index.ensures ∙ ap (λ (n : ℕ). get_or c.self.inside.by_thread.items n c.index.result.now) c.from.ensures) ∙ c.self.invariant.listed c.args.thread (omega (arith, c.ranges.thread.fits)) c.index.result.now in
    let size : length c.as_slice-places.result.now ≡ thread_count c.args.thread c.args.self.now.events = ap length list_is ∙ places_count rs c.args.thread order ∙ ap (thread_count c.args.thread) (ap (λ (p : Part). p.events) c.self.view_is) in
    size
