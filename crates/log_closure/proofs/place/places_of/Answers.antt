use Rattle.std.proofs.Common.{◌≡◌, ℕ, ◌+◌, ◌<◌, get_or, take, arith, ◌∙◌, ap}
use Rattle.std.proofs.lemmas.List.{length-replicate, length-set}
use Rattle.log_closure.specs.Events.{of_thread}
use Rattle.log_closure.proofs.Numbers.{counts_more, counts_none}
use Rattle.log_closure.proofs.PlaceSteps.{places_more, count_below}
use Rattle.log_closure.proofs.place.places_of.Goals as goal

pub overflow_add-counts : goal.overflow_add-counts
overflow_add-counts c =
    let fits : c.from-thread.result < 256 = omega (arith, c.from-thread.ensures) in
    let is = c.loop-at.invariant.counts c.from-thread.result fits in
    let le = count_below c.from-thread.result c.args.records.now c.loop-at.at in
    omega (arith, is, le, c.loop-at-test.true, c.requires)

pub loop-at-init : goal.loop-at-init
loop-at-init c = record { wide = length-replicate {A = ℕ} 256 0; counts = counts_none; places = c.in_ok-places.ensures.items }

pub loop-at-preserved : goal.loop-at-preserved
loop-at-preserved c =
    let th : c.from-thread.result ≡ c.index-records-at.result.thread = c.from-thread.ensures in
    let fits : c.from-thread.result < 256 = omega (arith, th) in
    record {
      wide = length-set c.loop-at.counts c.from-thread.result (get_or c.loop-at.counts c.from-thread.result 0 + 1) ∙ c.loop-at.invariant.wide;
      counts = counts_more c.loop-at.counts c.args.records.now c.loop-at.at c.from-thread.result c.index-records-at.result c.loop-at-test.true c.index-records-at.is th (omega (arith, fits, c.loop-at.invariant.wide)) c.loop-at.invariant.counts;
      places = c.in_ok-push.ensures.items ∙ places_more c.args.records.now c.loop-at.at (get_or c.loop-at.counts c.from-thread.result 0) c.index-records-at.result c.loop-at.places.items c.loop-at-test.true c.index-records-at.is
          (c.loop-at.invariant.counts c.from-thread.result fits ∙ ap (λ (n : ℕ). of_thread n (take c.loop-at.at c.args.records.now)) th) c.loop-at.invariant.places;
    }
