use Rattle.std.proofs.Common.{◌≡◌, ◌≢◌, ℕ, ◌+◌, ◌<◌, ◌≤◌, [], ◌∷◌, Option, Some, length, take, drop, get_or, ⊎_elim, sym, ap, ◌∙◌, subst, arith, refl, Err}
use Rattle.std.proofs.lemmas.Bool.{cases_lt}
use Rattle.std.proofs.lemmas.Result.{err_from_is_err_and}
use Rattle.std.proofs.lemmas.List.{length-replicate, length-set}
use Rattle.std.proofs.Math.ListN.{drop_of_length-le}
use Rattle.run_events.specs.declared.event.EventName.{EventName}
use Rattle.log_closure.specs.declared.place.LogPlace.{LogPlace}
use Rattle.log_closure.specs.declared.error.OrderError.{OrderError}
use Rattle.log_closure.specs.declared.error.OrderError.TheVariants.{Twice}
use Rattle.log_closure.specs.Events.{events_of, event_of, of_thread}
use Rattle.log_closure.specs.Ties.{needs, thread_tie}
use Rattle.log_closure.specs.FirstWrong.{first_wrong, or_else, clock_at, greatest}
use Rattle.log_closure.specs.Tables.{Answers, clock_in}
use Rattle.log_closure.specs.KeyNumbers.{HaveNumbers, marks_of, number_in}
use Rattle.log_closure.proofs.KeyNumbers.{next_first, next_fits, next_left}
use Rattle.log_closure.proofs.Meaning.{tie_of_thread}
use Rattle.log_closure.proofs.Steps.{first_at, first_next, first_found}
use Rattle.log_closure.proofs.TableSteps.{length-events}
use Rattle.log_closure.proofs.CheckSteps.{no_place, place_here, length-places, event_here, last_none, last_more, twice_here, not_twice_here, wrong_twice, wrong_here}
use Rattle.log_closure.proofs.check.check.Goals as goal

abbrev name_of : LogPlace → EventName
name_of p = record { thread = p.thread; index = p.index }

pub bounds-places-at : goal.bounds-places-at
bounds-places-at c =
    let a = length-places 0 (events_of c.args.records.now) in
    let b = length-events [] c.args.records.now in
    let e : length c.args.places.now ≡ length c.args.records.now = ap length c.requires ∙ a ∙ b in
    omega (arith, e, c.loop-at-test.true)

pub split_at-requires : goal.split_at-requires
split_at-requires c =
    next_fits c.loop-at.invariant.left.0 c.args.records.now c.loop-at.at c.index-records-at.result c.as_slice-marks.result.now c.loop-at.left.now c.loop-at-test.true c.index-records-at.is (c.as_slice-marks.ensures ∙ c.unpacked-keys.ensures) c.loop-at.invariant.left.2

pub loop-at-init : goal.loop-at-init
loop-at-init c =
    let all = events_of c.args.records.now in
    let number = number_in c.in_ok-numbering.numbering in
    record {
      wide = length-replicate {A = ℕ} 256 0;
      last = last_none c.args.records.now;
      later = λ m _. omega arith;
      left = (number, c.in_ok-clocks.ensures.owns, subst (HaveNumbers number (marks_of c.args.records.now)) (sym c.as_slice-left.ensures.value) c.in_ok-numbering.ensures.marks);
      same = λ _. first_wrong c.args.whole all [] all;
    }

pub loop-at-preserved : goal.loop-at-preserved
loop-at-preserved c =
    let rs = c.args.records.now in
    let all = events_of rs in
    let i = c.loop-at.at in
    let r = c.index-records-at.result in
    let lt = c.loop-at-test.true in
    let is = c.index-records-at.is in
    let e = event_of (take i rs) r in
    let th : c.from-thread.result ≡ r.thread = c.from-thread.ensures in
    let fits : c.from-thread.result < 256 = omega (arith, th) in
    let p = get_or c.args.places.now i no_place in
    let place = place_here rs c.args.places.now i r no_place lt is c.requires in
    let tw = c.in_ok-clocks.ensures.twice in
    let other : c.in_ok-clocks.clocks.twice ≢ Some i = c.if-repeats_at.ensures.other in
    let later : (m : ℕ) → c.in_ok-clocks.clocks.twice ≡ Some m → i + 1 ≤ m =
    λ m k. let le = c.loop-at.invariant.later m k in ⊎_elim (λ more. omega (arith, more)) (λ less. let eq : m ≡ i = omega (arith, le, less) in absurd (other (k ∙ ap (λ (n : ℕ). Some n) eq))) (cases_lt i m) in
    let apart = not_twice_here rs i r lt is (λ m k. c.loop-at.invariant.later m (tw ∙ k)) (λ k. other (tw ∙ k)) in
    let own : greatest (clock_at all) (needs (thread_tie e ∷ [])) ≡ Some (get_or c.loop-at.last c.from-thread.result 0) =
    subst (λ (u : ℕ). greatest (clock_at all) (needs (tie_of_thread u (of_thread u (take i rs)) ∷ [])) ≡ Some (get_or c.loop-at.last c.from-thread.result 0)) th (c.loop-at.invariant.last c.from-thread.result fits) in
    let ms = c.as_slice-marks.result.now in
    let number = c.loop-at.invariant.left.0 in
    let have : HaveNumbers number ms c.split_at.result.0.now = subst (HaveNumbers number ms) (sym c.split_at.ensures.front)
    (next_first number rs i r ms c.loop-at.left.now lt is (c.as_slice-marks.ensures ∙ c.unpacked-keys.ensures) c.loop-at.invariant.left.2) in
    let here = wrong_here rs c.args.whole (clock_in number c.in_ok-clocks.clocks.table) i r p ms (get_or c.loop-at.last c.from-thread.result 0) place (c.as_slice-marks.ensures ∙ c.unpacked-keys.ensures) c.loop-at.invariant.left.1 own apart in
    let right = subst (Answers c.check_clock.result) here (c.check_clock.ensures number have) in
    record {
      wide = length-set c.loop-at.last c.from-thread.result r.clock ∙ c.loop-at.invariant.wide;
      last = last_more rs i c.from-thread.result r c.loop-at.last lt is th (omega (arith, fits, c.loop-at.invariant.wide)) c.loop-at.invariant.last;
      later = later;
      left = (
        number,
        c.loop-at.invariant.left.1,
        subst (HaveNumbers number (marks_of (drop (i + 1) rs))) (sym c.split_at.ensures.back)
            (next_left number rs i r ms c.loop-at.left.now lt is (c.as_slice-marks.ensures ∙ c.unpacked-keys.ensures) c.loop-at.invariant.left.2),
      );
      same = c.loop-at.invariant.same ∙ first_next c.args.whole all i e c.check_clock.result c.in_ok-check_clock.field-0 (omega (arith, length-events [] rs, lt)) (event_here rs i r lt is) c.in_ok-check_clock.was right;
    }

pub returns-then-repeats_at : goal.returns-then-repeats_at
returns-then-repeats_at c =
    let rs = c.args.records.now in
    let all = events_of rs in
    let i = c.loop-at.at in
    let r = c.index-records-at.result in
    let lt = c.loop-at-test.true in
    let is = c.index-records-at.is in
    let e = event_of (take i rs) r in
    let place = place_here rs c.args.places.now i r no_place lt is c.requires in
    let name_is : c.name.result ≡ e.name = c.name.ensures ∙ ap (λ (q : LogPlace). name_of q) place in
    let found = twice_here rs i r lt is (sym c.in_ok-clocks.ensures.twice ∙ c.if-repeats_at.ensures.there) in
    c.loop-at.invariant.same ∙ first_at c.args.whole all i e (omega (arith, length-events [] rs, lt)) (event_here rs i r lt is)
    ∙ ap (λ (o : Option OrderError). or_else o (first_wrong c.args.whole all (take (i + 1) all) (drop (i + 1) all))) (wrong_twice c.args.whole all (take i all) e found)
    ∙ ap (λ (n : EventName). Some (Twice n)) (sym name_is)

pub returns-in_err-check_clock : goal.returns-in_err-check_clock
returns-in_err-check_clock c =
    let rs = c.args.records.now in
    let all = events_of rs in
    let i = c.loop-at.at in
    let r = c.index-records-at.result in
    let lt = c.loop-at-test.true in
    let is = c.index-records-at.is in
    let e = event_of (take i rs) r in
    let x = c.in_err-check_clock.field-0.0 in
    let th : c.from-thread.result ≡ r.thread = c.from-thread.ensures in
    let fits : c.from-thread.result < 256 = omega (arith, th) in
    let p = get_or c.args.places.now i no_place in
    let place = place_here rs c.args.places.now i r no_place lt is c.requires in
    let tw = c.in_ok-clocks.ensures.twice in
    let other : c.in_ok-clocks.clocks.twice ≢ Some i = c.if-repeats_at.ensures.other in
    let apart = not_twice_here rs i r lt is (λ m k. c.loop-at.invariant.later m (tw ∙ k)) (λ k. other (tw ∙ k)) in
    let own : greatest (clock_at all) (needs (thread_tie e ∷ [])) ≡ Some (get_or c.loop-at.last c.from-thread.result 0) =
    subst (λ (u : ℕ). greatest (clock_at all) (needs (tie_of_thread u (of_thread u (take i rs)) ∷ [])) ≡ Some (get_or c.loop-at.last c.from-thread.result 0)) th (c.loop-at.invariant.last c.from-thread.result fits) in
    let ms = c.as_slice-marks.result.now in
    let number = c.loop-at.invariant.left.0 in
    let have : HaveNumbers number ms c.split_at.result.0.now = subst (HaveNumbers number ms) (sym c.split_at.ensures.front)
    (next_first number rs i r ms c.loop-at.left.now lt is (c.as_slice-marks.ensures ∙ c.unpacked-keys.ensures) c.loop-at.invariant.left.2) in
    let here = wrong_here rs c.args.whole (clock_in number c.in_ok-clocks.clocks.table) i r p ms (get_or c.loop-at.last c.from-thread.result 0) place (c.as_slice-marks.ensures ∙ c.unpacked-keys.ensures) c.loop-at.invariant.left.1 own apart in
    let wrong_is = subst (Answers {X = Unit {0}} (Err x)) here (c.in_err-check_clock.ensures number have) in
    let q = err_from_is_err_and c.from_residual-in_err-check_clock.result c.from_residual-in_err-check_clock.ensures.1 in
    rw (q.1, q.2) (first_found c.args.whole all i e (Err x) x (first_wrong c.args.whole all [] all) (omega (arith, length-events [] rs, lt)) (event_here rs i r lt is) refl wrong_is c.loop-at.invariant.same)

pub returns : goal.returns
returns c =
    let all = events_of c.args.records.now in
    let le : length all ≤ c.loop-at.at = omega (arith, length-events [] c.args.records.now, c.loop-at-test.false) in
    c.loop-at.invariant.same ∙ ap (first_wrong c.args.whole all (take c.loop-at.at all)) (drop_of_length-le all le)
