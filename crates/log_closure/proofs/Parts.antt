-- What the places in order say of the events.
use Rattle.std.proofs.Common.{◌≡◌, ◌∷◌, [], List, true, false, Bool, None, refl, ap, ◌∙◌, sym, arith, ◌<◌, ◌≤◌, length, get_or, subst, inl, inr}
use Rattle.std.specs.Prelude.{Result, IsTrue}
use Rattle.std.specs.List.{All}
use Rattle.std.proofs.lemmas.List.Sorted.{length_permutation}
use Rattle.std.specs.List.Sorted.{IsPermutation, IsSorted}
use Rattle.run_events.specs.declared.event.Record.{Record}
use Rattle.log_closure.specs.declared.error.OrderError.{OrderError}
use Rattle.log_closure.specs.declared.place.LogPlace.{LogPlace}
use Rattle.log_closure.specs.Chains.{CountUp, IsClock}
use Rattle.log_closure.specs.Events.{In, LogEvent, events_of}
use Rattle.log_closure.specs.FirstWrong.{first_wrong}
use Rattle.log_closure.specs.Growing.{HoldsBefore, IsGrownPart, grow}
use Rattle.log_closure.specs.Places.{event_at, events_at, no_record, place_cmp, places_from}
use Rattle.log_closure.proofs.CheckSteps.{event_by, length-places}
use Rattle.log_closure.specs.Tables.{Answers}
use Rattle.log_closure.proofs.Chains.{is_clock}
use Rattle.log_closure.proofs.Counting.{counts_up}
use Rattle.log_closure.proofs.Counts.{tickets_count}
use Rattle.log_closure.proofs.GrowSteps.{at_any}
use Rattle.log_closure.proofs.Numbers.{numbered}
use Rattle.log_closure.proofs.Order.{events, Stands, in-All, places_stand}
use Rattle.log_closure.proofs.Passed.{fits, whole_union}
use Rattle.log_closure.proofs.Strict.{closed_part, whole_part}
use Rattle.log_closure.proofs.TableSteps.{length-events}
use Rattle.log_closure.proofs.Union.{before_kept}

-- what stands where there is no event
abbrev no_event : LogEvent
no_event = record { name = record { thread = 0; index = 0 }; entry = no_record }

event_is : (rs : List Record) (p : LogPlace) → Stands no_event (events_of rs) p → event_at rs p ≡ get_or (events_of rs) p.at no_event
event_is rs p s =
    let lt : p.at < length rs = omega (arith, s.within, length-events [] rs) in
    let r = get_or rs p.at no_record in
    let is = event_by [] rs p.at no_event r lt (at_any rs p.at no_record r lt) in
    λ i. record { name = record { thread = s.thread i; index = s.index i }; entry = sym (ap (λ (x : LogEvent). x.entry) is) i }

pub events_are : (rs : List Record) (ps : List LogPlace) → ((p : LogPlace) → In p ps → Stands no_event (events_of rs) p) → events_at rs ps ≡ events no_event (events_of rs) ps
events_are rs [] s = refl
events_are rs (p ∷ ps) s = λ i. event_is rs p (s p (inl refl)) i ∷ events_are rs ps (λ q j. s q (inr j)) i

pub order_within : (rs : List Record) (order : List LogPlace) → IsPermutation (places_from 0 (events_of rs)) order → All (λ (p : LogPlace). p.at < length rs) order
order_within rs order perm = in-All (λ (p : LogPlace). p.at < length rs) order (λ p i. let w = (places_stand no_event (events_of rs) order perm p i).within in omega (arith, w, length-events [] rs))

pub whole_places : (rs : List Record) (order : List LogPlace) → first_wrong true (events_of rs) [] (events_of rs) ≡ None → IsPermutation (places_from 0 (events_of rs)) order → IsSorted place_cmp order → IsGrownPart (events_of rs) (events_at rs order)
whole_places rs order passes perm sorted =
    subst (IsGrownPart (events_of rs)) (sym (events_are rs order (places_stand no_event (events_of rs) order perm))) (whole_part no_event (events_of rs) order (numbered [] rs) passes perm sorted)

pub grown_places : (rs : List Record) (whole : Bool) (order sl part : List LogPlace) → sl ≡ order → first_wrong whole (events_of rs) [] (events_of rs) ≡ None → IsPermutation (places_from 0 (events_of rs)) order → IsSorted place_cmp order
    → events_at rs part ≡ grow [] (events_at rs sl) → IsGrownPart (events_of rs) (events_at rs part)
grown_places rs whole order sl part eq passes perm sorted grows =
    let are = events_are rs order (places_stand no_event (events_of rs) order perm) in
    subst (IsGrownPart (events_of rs)) (sym (grows ∙ ap (λ (l : List LogPlace). grow [] (events_at rs l)) eq ∙ ap (grow []) are)) (closed_part whole no_event (events_of rs) order (numbered [] rs) passes perm sorted)

-- what a caller of the closed part has

union_held : (all part : List LogEvent) → IsGrownPart all part → HoldsBefore all part
union_held all part h e i =
    let (set, closed, j) = (h.0 e).0 i in
    ((closed e j).0, before_kept set part (λ f k. (h.0 f).1 (set, closed, k)) e (closed e j).1)

pub part_clocks : (rs : List Record) (whole : Bool) (part : List LogEvent) → first_wrong whole (events_of rs) [] (events_of rs) ≡ None → IsGrownPart (events_of rs) part → (e : LogEvent) → In e part → IsClock part e
part_clocks rs whole part passes h e i = is_clock (events_of rs) part (fits whole (events_of rs) (numbered [] rs) passes) (union_held (events_of rs) part h) e i

pub part_counts : (rs : List Record) (whole : Bool) (part : List LogEvent) → first_wrong whole (events_of rs) [] (events_of rs) ≡ None → IsGrownPart (events_of rs) part → CountUp part
part_counts rs whole part passes h =
    let held = union_held (events_of rs) part h in
    counts_up whole (events_of rs) part passes (λ e i. (held e i).0) (tickets_count whole (events_of rs) part (numbered [] rs) passes held h.1)

pub part_all : (rs : List Record) (whole : Bool) (part : List LogEvent) → first_wrong whole (events_of rs) [] (events_of rs) ≡ None → IsGrownPart (events_of rs) part → IsTrue whole → (e : LogEvent) → In e (events_of rs) → In e part
part_all rs true part passes h t e i = (h.0 e).1 (whole_union (events_of rs) passes e i)
part_all rs false part passes h t e i = absurd cc

-- of what is kept

pub moved : {X : Type 0} (r : Result X OrderError) (v w : Bool) (rs ss : List Record) → v ≡ w → rs ≡ ss → Answers r (first_wrong v (events_of rs) [] (events_of rs)) → Answers r (first_wrong w (events_of ss) [] (events_of ss))
moved r v w rs ss a b h = subst (λ (l : List Record). Answers r (first_wrong w (events_of l) [] (events_of l))) b (subst (λ (x : Bool). Answers r (first_wrong x (events_of rs) [] (events_of rs))) a h)

pub moved_part : (rs ss : List Record) (order : List LogPlace) → rs ≡ ss → IsGrownPart (events_of rs) (events_at rs order) → IsGrownPart (events_of ss) (events_at ss order)
moved_part rs ss order b h = subst (λ (l : List Record). IsGrownPart (events_of l) (events_at l order)) b h

pub order_few : (rs : List Record) (order : List LogPlace) → IsPermutation (places_from 0 (events_of rs)) order → length order ≤ length rs
order_few rs order perm = let a = length_permutation (places_from 0 (events_of rs)) order perm in let b = length-places 0 (events_of rs) in let d = length-events [] rs in omega (arith, a, b, d)
