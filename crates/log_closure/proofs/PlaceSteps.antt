-- Steps of the pass that places the events.
use Rattle.std.proofs.Common.{◌≡◌, ◌++◌, ◌∷◌, [], ℕ, ◌+◌, List, ap, ◌∙◌, sym, arith, ◌<◌, ◌≤◌, length, take, get_or}
use Rattle.std.specs.Prelude.{eqb}
use Rattle.std.proofs.lemmas.List.{length-take}
use Rattle.std.proofs.lemmas.List.Sums.{count_by-le-length}
use Rattle.run_events.specs.declared.event.Record.{Record}
use Rattle.log_closure.specs.declared.place.LogPlace.{LogPlace}
use Rattle.log_closure.specs.Events.{LogEvent, event_of, events_of, of_thread}
use Rattle.log_closure.specs.Places.{place_of, places_from}
use Rattle.log_closure.proofs.TableSteps.{length-events, seen_events}

pub places_from-append : (n : ℕ) (es : List LogEvent) (e : LogEvent) → places_from n (es ++ e ∷ []) ≡ places_from n es ++ place_of (n + length es) e ∷ []
places_from-append n [] e = ap (λ (m : ℕ). place_of m e ∷ []) (omega arith)
places_from-append n (f ∷ es) e = ap (λ (l : List LogPlace). place_of n f ∷ l)
    (places_from-append (n + 1) es e ∙ ap (λ (m : ℕ). places_from (n + 1) es ++ place_of m e ∷ []) (omega arith))

-- the events before the one at i in its thread
pub count_below : (t : ℕ) (rs : List Record) (i : ℕ) → of_thread t (take i rs) ≤ i
count_below t rs i = let a = count_by-le-length (λ (r : Record). eqb r.thread t) (take i rs) in let b = length-take i rs in omega (arith, a, b)

pub places_more : (rs : List Record) (i n : ℕ) (r : Record) (items : List LogPlace) → i < length rs → r ≡ get_or rs i r → n ≡ of_thread r.thread (take i rs) → items ≡ places_from 0 (events_of (take i rs))
    → items ++ record { clock = r.clock; thread = r.thread; index = n; at = i } ∷ [] ≡ places_from 0 (events_of (take (i + 1) rs))
places_more rs i n r items lt is idx h =
    let size : i ≡ 0 + length (events_of (take i rs)) = omega (arith, length-events [] (take i rs), length-take i rs, lt) in
    (λ j. h j ++ record { clock = r.clock; thread = r.thread; index = idx j; at = size j } ∷ [])
    ∙ sym (places_from-append 0 (events_of (take i rs)) (event_of (take i rs) r)) ∙ ap (places_from 0) (sym (seen_events rs i r lt is))
