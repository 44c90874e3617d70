use Rattle.std.specs.List.{All}
use Rattle.std.proofs.Common.{◌<◌, length, arith, Vec, Global, ◌≡◌, [], List, None, Ok, Err, inl, inr, ⊎_elim, sym, ap, ◌∙◌, subst}
use Rattle.std.proofs.lemmas.Result.{err_from_is_err_and}
use Rattle.run_events.specs.declared.event.Record.{Record}
use Rattle.log_closure.specs.declared.error.OrderError.TheVariants.{Memory}
use Rattle.log_closure.specs.declared.place.LogPlace.{LogPlace}
use Rattle.log_closure.specs.Events.{LogEvent, Part, In, events_of}
use Rattle.log_closure.specs.Closed.{IsClosedPart}
use Rattle.log_closure.specs.Chains.{IsClock, CountUp}
use Rattle.log_closure.specs.Places.{events_at, thread_places}
use Rattle.log_closure.specs.FirstWrong.{first_wrong}
use Rattle.log_closure.specs.Tables.{Answers}
use Rattle.log_closure.proofs.Meaning.{part_meant}
use Rattle.log_closure.proofs.InFileOrder.{passes_right, right_passes, first_meant, meant_first, answered_as, refused_only, refused_as, same_err, err_to}
use Rattle.log_closure.proofs.Parts.{moved, moved_part, part_all, part_clocks, part_counts}
use Rattle.log_closure.proofs.closing.closed.Goals as goal

pub returns-in_err-order-clause-passes : goal.returns-in_err-order-clause-passes
returns-in_err-order-clause-passes c = λ h.
    let rs = c.args.kept.records in
    let w = c.args.kept.whole in
    let x = c.in_err-order.field-0.0 in
    let a : Answers {X = Vec LogPlace Global} (Err x) (first_wrong w (events_of rs) [] (events_of rs)) = moved {X = Vec LogPlace Global} (Err x) c.whole-whole.result w c.records.result.now rs c.whole-whole.ensures c.records.ensures.these c.in_err-order.ensures.check in
    let q = err_from_is_err_and c.from_residual.result c.from_residual.ensures.1 in
    rw (q.1, q.2) (refused_only (Vec LogPlace Global) x (first_wrong w (events_of rs) [] (events_of rs)) a (right_passes rs w h))

pub returns-in_err-order-clause-refused : goal.returns-in_err-order-clause-refused
returns-in_err-order-clause-refused c = λ error is ne.
    let rs = c.args.kept.records in
    let w = c.args.kept.whole in
    let x = c.in_err-order.field-0.0 in
    let a : Answers {X = Vec LogPlace Global} (Err x) (first_wrong w (events_of rs) [] (events_of rs)) = moved {X = Vec LogPlace Global} (Err x) c.whole-whole.result w c.records.result.now rs c.whole-whole.ensures c.records.ensures.these c.in_err-order.ensures.check in
    let q = err_from_is_err_and c.from_residual.result c.from_residual.ensures.1 in
    let e : x ≡ error = sym q.2 ∙ same_err c.from_residual.result q.0 error q.1 is in
    first_meant rs w error (answered_as (Vec LogPlace Global) x (first_wrong w (events_of rs) [] (events_of rs)) error a e ne)

pub returns-in_err-order-clause-first : goal.returns-in_err-order-clause-first
returns-in_err-order-clause-first c = λ error h.
    let rs = c.args.kept.records in
    let w = c.args.kept.whole in
    let x = c.in_err-order.field-0.0 in
    let a : Answers {X = Vec LogPlace Global} (Err x) (first_wrong w (events_of rs) [] (events_of rs)) = moved {X = Vec LogPlace Global} (Err x) c.whole-whole.result w c.records.result.now rs c.whole-whole.ensures c.records.ensures.these c.in_err-order.ensures.check in
    let q = err_from_is_err_and c.from_residual.result c.from_residual.ensures.1 in
    ⊎_elim (λ e. inl (err_to c.from_residual.result q.0 error q.1 (q.2 ∙ e))) (λ e. inr (err_to c.from_residual.result q.0 Memory q.1 (q.2 ∙ e)))
    (refused_as (Vec LogPlace Global) x (first_wrong w (events_of rs) [] (events_of rs)) error a (meant_first rs w error h))

pub returns-clause-fits : goal.returns-clause-fits
returns-clause-fits c =
    let rs = c.args.kept.records in
    let w = c.args.kept.whole in
    let passes = moved (Ok c.in_ok-order.order) c.whole-whole.result w c.records.result.now rs c.whole-whole.ensures c.records.ensures.these c.in_ok-order.ensures.check in
    passes_right rs w passes

pub returns-clause-first : goal.returns-clause-first
returns-clause-first c = λ error h.
    let rs = c.args.kept.records in
    let w = c.args.kept.whole in
    let passes : first_wrong w (events_of rs) [] (events_of rs) ≡ None = moved (Ok c.in_ok-order.order) c.whole-whole.result w c.records.result.now rs c.whole-whole.ensures c.records.ensures.these c.in_ok-order.ensures.check in
    let some = meant_first rs w error h in
    absurd cc

pub returns-clause-part : goal.returns-clause-part
returns-clause-part c =
    let rs = c.args.kept.records in
    let order = c.in_ok-order.order.items in
    let is : c.new.result.events ≡ events_at rs order = ap (λ (p : Part). p.events) c.new.ensures ∙ ap (λ (l : List Record). events_at l order) c.into_records.ensures.these in
    subst (IsClosedPart (events_of rs)) (sym is) (part_meant (events_of rs) (events_at rs order) (moved_part c.records.result.now rs order c.records.ensures.these c.in_ok-order.ensures.part))

pub returns-clause-all : goal.returns-clause-all
returns-clause-all c =
    let rs = c.args.kept.records in
    let w = c.args.kept.whole in
    let order = c.in_ok-order.order.items in
    let is : c.new.result.events ≡ events_at rs order = ap (λ (p : Part). p.events) c.new.ensures ∙ ap (λ (l : List Record). events_at l order) c.into_records.ensures.these in
    let passes = moved (Ok c.in_ok-order.order) c.whole-whole.result w c.records.result.now rs c.whole-whole.ensures c.records.ensures.these c.in_ok-order.ensures.check in
    λ t e i. subst (In e) (sym is) (part_all rs w (events_at rs order) passes (moved_part c.records.result.now rs order c.records.ensures.these c.in_ok-order.ensures.part) t e i)

pub returns-clause-clocks : goal.returns-clause-clocks
returns-clause-clocks c =
    let rs = c.args.kept.records in
    let w = c.args.kept.whole in
    let order = c.in_ok-order.order.items in
    let is : c.new.result.events ≡ events_at rs order = ap (λ (p : Part). p.events) c.new.ensures ∙ ap (λ (l : List Record). events_at l order) c.into_records.ensures.these in
    let passes = moved (Ok c.in_ok-order.order) c.whole-whole.result w c.records.result.now rs c.whole-whole.ensures c.records.ensures.these c.in_ok-order.ensures.check in
    subst (λ (l : List LogEvent). (e : LogEvent) → In e l → IsClock l e) (sym is) (part_clocks rs w (events_at rs order) passes (moved_part c.records.result.now rs order c.records.ensures.these c.in_ok-order.ensures.part))

pub returns-clause-counts : goal.returns-clause-counts
returns-clause-counts c =
    let rs = c.args.kept.records in
    let w = c.args.kept.whole in
    let order = c.in_ok-order.order.items in
    let is : c.new.result.events ≡ events_at rs order = ap (λ (p : Part). p.events) c.new.ensures ∙ ap (λ (l : List Record). events_at l order) c.into_records.ensures.these in
    let passes = moved (Ok c.in_ok-order.order) c.whole-whole.result w c.records.result.now rs c.whole-whole.ensures c.records.ensures.these c.in_ok-order.ensures.check in
    subst CountUp (sym is) (part_counts rs w (events_at rs order) passes (moved_part c.records.result.now rs order c.records.ensures.these c.in_ok-order.ensures.part))

pub new-requires : goal.new-requires
new-requires c =
    let rs = c.args.kept.records in
    let w = c.args.kept.whole in
    let order = c.in_ok-order.order.items in
    let passes = moved (Ok c.in_ok-order.order) c.whole-whole.result w c.records.result.now rs c.whole-whole.ensures c.records.ensures.these c.in_ok-order.ensures.check in
    let same : c.records.result.now ≡ c.into_records.result.items = c.records.ensures.these ∙ sym c.into_records.ensures.these in
    let count = ap length c.records.ensures.these in
    record {
      few = omega (arith, count, c.in_ok-order.ensures.few, c.into_records.ensures.kept.few);
      within = subst (λ (l : List Record). All (λ (p : LogPlace). p.at < length l) order) same c.in_ok-order.ensures.within;
      wide = c.in_ok-by_thread.ensures.wide;
      listed = λ t lt d. c.in_ok-by_thread.ensures.lists t lt d ∙ ap (thread_places t) c.deref.ensures.value;
      counts = subst (λ (l : List Record). CountUp (events_at l order)) (sym c.into_records.ensures.these) (part_counts rs w (events_at rs order) passes (moved_part c.records.result.now rs order c.records.ensures.these c.in_ok-order.ensures.part));
    }
