use Rattle.std.proofs.Common.{Vec, Global, cond, ◌≡◌, ◌++◌, ◌∷◌, [], List, ◌<◌, ◌≤◌, ◌+◌, arith, length, Bool, false, get_or, refl, sym, ◌∙◌, ap, subst, rules}
use Rattle.std.specs.List.{All}
use Rattle.std.specs.BTreeSet.{contains}
use Rattle.std.proofs.lemmas.List.Elements.{All-nil}
use Rattle.run_events.specs.declared.event.Record.{Record}
use Rattle.log_closure.specs.declared.tie.Tie.{Tie}
use Rattle.log_closure.specs.declared.place.LogPlace.{LogPlace}
use Rattle.std.proofs.Math.ListN.{replicate}
use Rattle.log_closure.specs.declared.grow.Grown.{Grown}
use Rattle.log_closure.specs.Tables.{IsGrown, tie_cmp}
use Rattle.log_closure.specs.Growing.{grow}
use Rattle.log_closure.specs.Places.{events_at, event_at, no_record}
use Rattle.log_closure.proofs.CheckSteps.{no_place}
use Rattle.log_closure.proofs.GrowSteps.{joined, grow_step, grown_none, at_any, within_more, few_more}
use Rattle.log_closure.proofs.grow.grow.Goals as goal
use Rattle.log_closure.proofs.grow.grow.Goals.{then-branch+in_ok-push, else-branch}

pub loop-place-init : goal.loop-place-init
loop-place-init c =
    let rs = c.args.records.now in
    let none : (t : Tie) → contains tie_cmp c.new.result t ≡ false = λ t. search rules in
    let start : Grown = record { keys = c.new.result; lengths = replicate 256 0 } in
    let empty = sym c.new-part.ensures.items in
    record {
      done = subst (λ (l : List LogPlace). IsGrown start (events_at rs l)) empty (grown_none start none refl);
      same = ap (λ (l : List LogPlace). grow (events_at rs l) (events_at rs c.args.order.now)) empty;
      within = subst (All (λ (p : LogPlace). p.at < length rs)) empty (All-nil (λ (p : LogPlace). p.at < length rs));
      few = subst (λ (l : List LogPlace). length l ≤ 0) empty (omega arith);
    }

pub loop-place-preserved : goal.loop-place-preserved
loop-place-preserved c =
    let rs = c.args.records.now in
    let part = c.loop-place.part.items in
    let p = get_or c.args.order.now c.loop-place.place-index no_place in
    let r = c.in_ok-join.field-0 in
    let next : c.if-branch.part.items ≡ cond r (part ++ p ∷ []) part =
    elim c.if-branch.branch [
      | then-branch+in_ok-push w ↦ ap (λ (v : Vec LogPlace Global). v.items) w.part-is ∙ w.in_ok-push.ensures.items ∙ ap (λ (b : Bool). cond b (part ++ p ∷ []) part) (sym w.if-branch.true)
      | else-branch w ↦ ap (λ (v : Vec LogPlace Global). v.items) w.part-is ∙ ap (λ (b : Bool). cond b (part ++ p ∷ []) part) (sym w.if-branch.false)
    ] in
    let within : p.at < length rs = c.requires c.loop-place.place-index no_place c.loop-place-test.true in
    let keys_are = c.as_slice.ensures ∙ c.unpacked-keys.ensures ∙ ap (λ (x : Record). x.keys) (c.index-records-place.is ∙ at_any rs p.at c.index-records-place.result no_record within) in
    let did = c.in_ok-join.ensures (events_at rs part) (event_at rs p) c.loop-place.invariant.done refl refl keys_are in
    record {
      done = subst (IsGrown c.join.new.self) (joined rs part c.if-branch.part.items p r next) did.1;
      same = c.loop-place.invariant.same ∙ grow_step rs c.args.order.now part c.if-branch.part.items c.loop-place.place-index no_place r c.loop-place-test.true did.0 next;
      within = subst (All (λ (q : LogPlace). q.at < length rs)) (sym next) (within_more rs part p r c.loop-place.invariant.within within);
      few = subst (λ (l : List LogPlace). length l ≤ c.loop-place.place-index + 1) (sym next) (few_more part p r c.loop-place.place-index c.loop-place.invariant.few);
    }
