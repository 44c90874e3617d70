-- Where the events of one thread stand.
use Rattle.std.proofs.Common.{suc, zero, ◌≡◌, ◌++◌, ◌∷◌, [], ℕ, ◌+◌, List, map, Bool, true, false, refl, ap, ◌∙◌, sym, cond, arith, ◌<◌, ◌≤◌, length, get_or, subst, inl}
use Rattle.std.specs.Prelude.{eqb}
use Rattle.std.specs.List.{All, filter}
use Rattle.std.specs.Global.{Vec}
use Rattle.std.proofs.lemmas.Bool.{eqb-true}
use Rattle.std.proofs.lemmas.List.Sums.{sum_by-cons, count_by-le-length, length-filter}
use Rattle.run_events.specs.declared.event.Record.{Record}
use Rattle.log_closure.specs.declared.place.LogPlace.{LogPlace}
use Rattle.log_closure.specs.Chains.{CountUp, thread_count}
use Rattle.log_closure.specs.Events.{In, LogEvent}
use Rattle.log_closure.specs.Places.{event_at, events_at, no_record, of_place, thread_places}
use Rattle.log_closure.proofs.Order.{All-in, in-map}
use Rattle.log_closure.proofs.Union.{In-right}

count_map : (rs : List Record) (t : ℕ) (ps : List LogPlace) → length (filter (of_place t) ps) ≡ thread_count t (events_at rs ps)
count_map rs t [] = refl
count_map rs t (p ∷ ps) = go (eqb p.thread t) (count_map rs t ps) ∙ sym (sum_by-cons (λ (e : LogEvent). cond (eqb e.name.thread t) 1 0) (event_at rs p) (events_at rs ps))
  where
    go : (b : Bool) → length (filter (of_place t) ps) ≡ thread_count t (events_at rs ps) → length (cond b (p ∷ filter (of_place t) ps) (filter (of_place t) ps)) ≡ cond b 1 0 + thread_count t (events_at rs ps)
    go true z = omega (arith, z)
    go false z = omega (arith, z)

map_length : {A B : Type 0} (f : A → B) (xs : List A) → length (map f xs) ≡ length xs
map_length f [] = refl
map_length f (x ∷ xs) = ap (λ (n : ℕ). suc n) (map_length f xs)

pub places_count : (rs : List Record) (t : ℕ) (ps : List LogPlace) → length (thread_places t ps) ≡ thread_count t (events_at rs ps)
places_count rs t ps = map_length (λ (p : LogPlace). p.at) (filter (of_place t) ps) ∙ count_map rs t ps

pub places_few : (t : ℕ) (ps : List LogPlace) → length (thread_places t ps) ≤ length ps
places_few t ps = let a = map_length (λ (p : LogPlace). p.at) (filter (of_place t) ps) in let b = length-filter (of_place t) ps in let d = count_by-le-length (of_place t) ps in omega (arith, a, b, d)

-- the k-th event of a thread
record Kth (t k : ℕ) (ps : List LogPlace) : Type 0 where
  prefix : List LogPlace
  place : LogPlace
  back : List LogPlace
  split : ps ≡ prefix ++ place ∷ back
  thread : place.thread ≡ t
  before : length (filter (of_place t) prefix) ≡ k
  at : get_or (thread_places t ps) k 0 ≡ place.at

kth : (t k : ℕ) (ps : List LogPlace) → k < length (filter (of_place t) ps) → Kth t k ps
kth t k [] lt = absurd (omega arith)
kth t k (p ∷ ps) lt = go (eqb p.thread t) refl k lt (λ n h. kth t n ps h)
  where
    go : (b : Bool) → eqb p.thread t ≡ b → (k : ℕ) → k < length (cond b (p ∷ filter (of_place t) ps) (filter (of_place t) ps)) → ((n : ℕ) → n < length (filter (of_place t) ps) → Kth t n ps) → Kth t k (p ∷ ps)
    go true is zero lt rec = record { prefix = []; place = p; back = ps; split = refl; thread = eqb-true p.thread t is; before = refl; at = ap (λ (b : Bool). get_or (map (λ (q : LogPlace). q.at) (cond b (p ∷ filter (of_place t) ps) (filter (of_place t) ps))) 0 0) is }
    go true is (suc k) lt rec =
        let w = rec k (omega arith) in
        record {
          prefix = p ∷ w.prefix;
          place = w.place;
          back = w.back;
          split = ap (λ (l : List LogPlace). p ∷ l) w.split;
          thread = w.thread;
          before = ap (λ (b : Bool). length (cond b (p ∷ filter (of_place t) w.prefix) (filter (of_place t) w.prefix))) is ∙ ap (λ (n : ℕ). suc n) w.before;
          at = ap (λ (b : Bool). get_or (map (λ (q : LogPlace). q.at) (cond b (p ∷ filter (of_place t) ps) (filter (of_place t) ps))) (suc k) 0) is ∙ w.at;
        }
    go false is k lt rec =
        let w = rec k lt in
        record {
          prefix = p ∷ w.prefix;
          place = w.place;
          back = w.back;
          split = ap (λ (l : List LogPlace). p ∷ l) w.split;
          thread = w.thread;
          before = ap (λ (b : Bool). length (cond b (p ∷ filter (of_place t) w.prefix) (filter (of_place t) w.prefix))) is ∙ w.before;
          at = ap (λ (b : Bool). get_or (map (λ (q : LogPlace). q.at) (cond b (p ∷ filter (of_place t) ps) (filter (of_place t) ps))) k 0) is ∙ w.at;
        }

events-append : (rs : List Record) (ps qs : List LogPlace) → events_at rs (ps ++ qs) ≡ events_at rs ps ++ events_at rs qs
events-append rs [] qs = refl
events-append rs (p ∷ ps) qs = ap (λ (l : List LogEvent). event_at rs p ∷ l) (events-append rs ps qs)

pub record Found (rs : List Record) (order : List LogPlace) (t k : ℕ) : Type 0 where
  pub within : get_or (thread_places t order) k 0 < length rs
  pub among : In (record { name = record { thread = t; index = k }; entry = get_or rs (get_or (thread_places t order) k 0) no_record }) (events_at rs order)

pub found_at : (rs : List Record) (order : List LogPlace) (t k : ℕ) → All (λ (p : LogPlace). p.at < length rs) order → CountUp (events_at rs order) → k < length (thread_places t order) → Found rs order t k
found_at rs order t k within counts lt =
    let w = kth t k order (omega (arith, lt, map_length (λ (p : LogPlace). p.at) (filter (of_place t) order))) in
    let i : In w.place order = subst (In w.place) (sym w.split) (In-right w.place w.prefix (w.place ∷ w.back) (inl refl)) in
    let es : events_at rs order ≡ events_at rs w.prefix ++ event_at rs w.place ∷ events_at rs w.back = ap (events_at rs) w.split ∙ events-append rs w.prefix (w.place ∷ w.back) in
    let num = (counts (events_at rs w.prefix) (event_at rs w.place) (events_at rs w.back) es).0 in
    let index : w.place.index ≡ k = num ∙ ap (λ (u : ℕ). thread_count u (events_at rs w.prefix)) w.thread ∙ sym (count_map rs t w.prefix) ∙ w.before in
    record {
      within = subst (λ (n : ℕ). n < length rs) (sym w.at) (All-in (λ (p : LogPlace). p.at < length rs) order within w.place i);
      among = subst (λ (e : LogEvent). In e (events_at rs order)) (λ j. record { name = record { thread = w.thread j; index = index j }; entry = get_or rs (sym w.at j) no_record }) (in-map (event_at rs) order w.place i);
    }

-- filling the lists

pub filled_more : (xs : List (Vec ℕ)) (v : Vec ℕ) → v.items ≡ [] → ((t : ℕ) (d : Vec ℕ) → t < length xs → (get_or xs t d).items ≡ []) → (t : ℕ) (d : Vec ℕ) → t < length xs + 1 → (get_or (xs ++ v ∷ []) t d).items ≡ []
filled_more [] v e h zero d lt = e
filled_more [] v e h (suc t) d lt = absurd (omega arith)
filled_more (x ∷ xs) v e h zero d lt = h 0 d (omega arith)
filled_more (x ∷ xs) v e h (suc t) d lt = filled_more xs v e (λ u b k. h (suc u) b (omega arith)) t d (omega arith)
