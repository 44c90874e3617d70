-- Steps of growing, over plain values.
use Rattle.std.proofs.Common.{zero, suc, ◌≡◌, ◌≢◌, ◌++◌, ◌∷◌, [], ℕ, ◌+◌, ◌-◌, List, map, Bool, true, false, refl, ap, ◌∙◌, sym, cond, arith, ◌<◌, ◌≤◌, length, drop, get_or, append-nil, subst, inl, inr, ⊎_elim}
use Rattle.std.specs.Prelude.{◌||◌, ◌&&◌, eqb, ltb, max}
use Rattle.std.specs.List.{list_all, All}
use Rattle.std.specs.BTreeSet.{contains}
use Rattle.std.specs.BTreeMap.{is_at}
use Rattle.std.proofs.lemmas.List.{drop_more, get_or-set_same, get_or-set_other, length-set, get_or-replicate, length-replicate, length-append}
use Rattle.std.proofs.lemmas.List.Folds.{list_any-append}
use Rattle.std.proofs.lemmas.List.Concat.{flat_map-append}
use Rattle.std.proofs.lemmas.Bool.{cases_eq}
use Rattle.std.proofs.lemmas.Bool.Decides.{nat_tests}
use Rattle.std.proofs.Math.ListN.{set, replicate}
use Rattle.run_events.specs.declared.key.KeyMark.{KeyMark}
use Rattle.run_events.specs.declared.event.Record.{Record}
use Rattle.log_closure.specs.declared.tie.Tie.{Tie}
use Rattle.log_closure.specs.declared.place.LogPlace.{LogPlace}
use Rattle.log_closure.specs.declared.grow.Grown.{Grown}
use Rattle.log_closure.specs.Events.{In, LogEvent}
use Rattle.log_closure.specs.Growing.{grow, has_before}
use Rattle.log_closure.specs.Places.{event_at, events_at}
use Rattle.log_closure.specs.Tables.{IsGrown, tie_cmp}
use Rattle.log_closure.specs.Ties.{earlier, key_tie, keys, listed, needs, same, thread_tie, ties, ties_of}
use Rattle.log_closure.proofs.CheckSteps.{needs_keyed}
use Rattle.log_closure.proofs.Meaning.{keyed, tie_of_thread}
use Rattle.log_closure.proofs.Order.{All-in, in-All}
use Rattle.log_closure.proofs.Passed.{listed_in}
use Rattle.log_closure.proofs.Steps.{at_same, listed_more, or_false}
use Rattle.log_closure.proofs.TableSteps.{listed_keys}
use Rattle.log_closure.proofs.Union.{In-cases}

-- what the keys need

pub all_lost : (at : Tie → Bool) (ms : List KeyMark) (i : ℕ) (d : KeyMark) → i < length ms → 0 < (get_or ms i d).ticket → at (earlier (key_tie (get_or ms i d))) ≡ false → list_all at (needs (map key_tie ms)) ≡ list_all at (needs (map key_tie (drop i ms))) → false ≡ list_all at (needs (map key_tie ms))
all_lost at ms i d lt pos lost h =
    let ne : eqb (get_or ms i d).ticket 0 ≡ false = grind (arith, nat_tests) in
    sym (h ∙ rw (drop_more ms i d lt) (rw ne (rw lost refl)))

pub all_at_zero : (at : Tie → Bool) (ms : List KeyMark) (i : ℕ) (d : KeyMark) → i < length ms → (get_or ms i d).ticket ≡ 0 → list_all at (needs (map key_tie (drop i ms))) ≡ list_all at (needs (map key_tie (drop (i + 1) ms)))
all_at_zero at ms i d lt z =
    let is : eqb (get_or ms i d).ticket 0 ≡ true = grind (arith, nat_tests) in
    rw (drop_more ms i d lt) (rw is refl)

pub all_at_more : (at : Tie → Bool) (ms : List KeyMark) (i : ℕ) (d : KeyMark) → i < length ms → 0 < (get_or ms i d).ticket → at (earlier (key_tie (get_or ms i d))) ≡ true → list_all at (needs (map key_tie (drop i ms))) ≡ list_all at (needs (map key_tie (drop (i + 1) ms)))
all_at_more at ms i d lt pos held =
    let ne : eqb (get_or ms i d).ticket 0 ≡ false = grind (arith, nat_tests) in
    rw (drop_more ms i d lt) (rw ne (rw held refl))

pub added_more : (new mid old : Bool) (ts : List Tie) (k q : Tie) → mid ≡ (old || listed ts q) → new ≡ cond (is_at (tie_cmp k) q) true mid → new ≡ (old || listed (ts ++ k ∷ []) q)
added_more new mid old ts k q h up =
    up ∙ by (is_at (tie_cmp k) q) old (listed ts q) mid h
    ∙ ap (λ (b : Bool). old || (listed ts q || b)) (at_same k q)
    ∙ ap (λ (b : Bool). old || b) (sym (listed_more ts k q))
  where
    by : (t o l m : Bool) → m ≡ (o || l) → cond t true m ≡ (o || (l || t))
    by true true l m h = refl
    by true false true m h = refl
    by true false false m h = refl
    by false true l m h = h
    by false false true m h = h
    by false false false m h = h

-- joining

below_is : (n len : ℕ) → ltb n len ≡ true → n < len
below_is n len h = grind (arith, nat_tests)

list_same : {A : Type 0} (p q : A → Bool) (xs : List A) → ((x : A) → In x xs → p x ≡ q x) → list_all p xs ≡ list_all q xs
list_same p q [] h = refl
list_same p q (x ∷ xs) h = (λ i. h x (inl refl) i && list_same p q xs (λ y j. h y (inr j)) i)

pub thread_lost : (g : Grown) (part : List LogEvent) (e : LogEvent) → IsGrown g part → e.name.thread < 256 → get_or g.lengths e.name.thread 0 < e.name.index → false ≡ has_before part e
thread_lost g part e h fits lt =
    let ne : eqb e.name.index 0 ≡ false = grind (arith, nat_tests) in
    let off : ltb (e.name.index - 1) (get_or g.lengths e.name.thread 0) ≡ false = grind (arith, nat_tests) in
    let lost : listed (ties_of part) (earlier (thread_tie e)) ≡ false = sym (h.of_threads e.name.thread (e.name.index - 1) fits) ∙ off in
    sym (ap (λ (b : Bool). list_all (listed (ties_of part)) (cond b (needs (keys e)) (earlier (thread_tie e) ∷ needs (keys e)))) ne ∙ ap (λ (b : Bool). b && list_all (listed (ties_of part)) (needs (keys e))) lost)

pub thread_held : (g : Grown) (part : List LogEvent) (e : LogEvent) → IsGrown g part → e.name.thread < 256 → e.name.index ≤ get_or g.lengths e.name.thread 0 → list_all (contains tie_cmp g.keys) (needs (keys e)) ≡ has_before part e
thread_held g part e h fits le =
    list_same (contains tie_cmp g.keys) (listed (ties_of part)) (needs (keys e)) (λ t i. h.of_keys t (needs_keyed e t i))
    ∙ go (eqb e.name.index 0) refl
  where
    rest : Bool
    rest = list_all (listed (ties_of part)) (needs (keys e))

    go : (b : Bool) → eqb e.name.index 0 ≡ b → list_all (listed (ties_of part)) (needs (keys e)) ≡ list_all (listed (ties_of part)) (cond b (needs (keys e)) (earlier (thread_tie e) ∷ needs (keys e)))
    go true is = refl
    go false is =
        let on : ltb (e.name.index - 1) (get_or g.lengths e.name.thread 0) ≡ true = grind (arith, nat_tests) in
        let held : listed (ties_of part) (earlier (thread_tie e)) ≡ true = sym (h.of_threads e.name.thread (e.name.index - 1) fits) ∙ on in
        ap (λ (b : Bool). b && list_all (listed (ties_of part)) (needs (keys e))) (sym held)

ties_more : (part : List LogEvent) (e : LogEvent) (t : Tie) → listed (ties_of (part ++ e ∷ [])) t ≡ (listed (ties_of part) t || listed (ties e) t)
ties_more part e t =
    ap (λ (l : List Tie). listed l t) (flat_map-append ties part (e ∷ []) ∙ ap (λ (l : List Tie). ties_of part ++ l) (append-nil (ties e)))
    ∙ list_any-append (λ s. same s t) (ties_of part) (ties e)

no_key : (e : LogEvent) (t n : ℕ) → listed (keys e) (tie_of_thread t n) ≡ false
no_key e t n = go (listed (keys e) (tie_of_thread t n)) refl
  where
    go : (b : Bool) → listed (keys e) (tie_of_thread t n) ≡ b → b ≡ false
    go false is = refl
    go true is = absurd (let z = keyed e (tie_of_thread t n) (listed_in (keys e) (tie_of_thread t n) is) in omega (arith, z))

ties_thread : (e : LogEvent) (t n : ℕ) → listed (ties e) (tie_of_thread t n) ≡ (eqb e.name.thread t && eqb e.name.index n)
ties_thread e t n = ap (λ (b : Bool). (eqb e.name.thread t && eqb e.name.index n) || b) (no_key e t n) ∙ or_false (eqb e.name.thread t && eqb e.name.index n)

longer : (n len index : ℕ) → index ≤ len → ltb n (max len (index + 1)) ≡ (ltb n len || eqb index n)
longer n len index le = grind (arith, nat_tests)

pub grown_more : (g h : Grown) (part : List LogEvent) (e : LogEvent) (ms : List KeyMark) (th : ℕ) → IsGrown g part → th ≡ e.name.thread → th < 256 → ms ≡ e.entry.keys → e.name.index ≤ get_or g.lengths th 0
    → ((t : Tie) → contains tie_cmp h.keys t ≡ (contains tie_cmp g.keys t || listed (map key_tie ms) t)) → h.lengths ≡ set g.lengths th (max (get_or g.lengths th 0) (e.name.index + 1)) → IsGrown h (part ++ e ∷ [])
grown_more g h part e ms th old at fits keys_are le up is = record {
  of_keys = λ t pos. up t ∙ (λ i. old.of_keys t pos i || listed (map key_tie (keys_are i)) t) ∙ ap (λ (b : Bool). listed (ties_of part) t || b) (sym (listed_keys e t pos)) ∙ sym (ties_more part e t);
  wide = ap length is ∙ length-set g.lengths th (max (get_or g.lengths th 0) (e.name.index + 1)) ∙ old.wide;
  of_threads = λ t n lt. ap (λ (l : List ℕ). ltb n (get_or l t 0)) is ∙ threads t n lt ∙ sym (ties_more part e (tie_of_thread t n));
}
  where
    threads : (t n : ℕ) → t < 256 → ltb n (get_or (set g.lengths th (max (get_or g.lengths th 0) (e.name.index + 1))) t 0) ≡ (listed (ties_of part) (tie_of_thread t n) || listed (ties e) (tie_of_thread t n))
    threads t n lt =
        ⊎_elim
        (λ eq. let on : eqb e.name.thread t ≡ true = grind (arith, nat_tests) in
        ap (ltb n) (subst (λ (u : ℕ). get_or (set g.lengths th (max (get_or g.lengths th 0) (e.name.index + 1))) u 0 ≡ max (get_or g.lengths u 0) (e.name.index + 1)) eq (get_or-set_same g.lengths th (max (get_or g.lengths th 0) (e.name.index + 1)) 0 (omega (arith, old.wide, fits))))
        ∙ longer n (get_or g.lengths t 0) e.name.index (subst (λ (u : ℕ). e.name.index ≤ get_or g.lengths u 0) eq le)
        ∙ (λ i. old.of_threads t n lt i || (sym on i && eqb e.name.index n))
        ∙ ap (λ (b : Bool). listed (ties_of part) (tie_of_thread t n) || b) (sym (ties_thread e t n)))
        (λ ne. let ne' : t ≢ th = λ q. ne (sym q) in
        let off : eqb e.name.thread t ≡ false = grind (arith, nat_tests) in
        ap (ltb n) (get_or-set_other g.lengths th t (max (get_or g.lengths th 0) (e.name.index + 1)) 0 ne')
        ∙ old.of_threads t n lt ∙ sym (or_false (listed (ties_of part) (tie_of_thread t n)))
        ∙ (λ i. listed (ties_of part) (tie_of_thread t n) || (sym off i && eqb e.name.index n))
        ∙ ap (λ (b : Bool). listed (ties_of part) (tie_of_thread t n) || b) (sym (ties_thread e t n)))
        (cases_eq th t)

pub grown_none : (g : Grown) → ((t : Tie) → contains tie_cmp g.keys t ≡ false) → g.lengths ≡ replicate 256 0 → IsGrown g []
grown_none g none is = record {
  of_keys = λ t pos. none t;
  wide = ap length is ∙ length-replicate {A = ℕ} 256 0;
  of_threads = λ t n lt. ap (λ (l : List ℕ). ltb n (get_or l t 0)) is ∙ ap (ltb n) (get_or-replicate 256 t 0 0 lt) ∙ grind (arith, nat_tests);
}

-- places

pub at_any : {A : Type 0} (xs : List A) (i : ℕ) (d e : A) → i < length xs → get_or xs i d ≡ get_or xs i e
at_any [] i d e lt = absurd (omega arith)
at_any (x ∷ xs) zero d e lt = refl
at_any (x ∷ xs) (suc i) d e lt = at_any xs i d e (omega arith)

pub within_more : (rs : List Record) (part : List LogPlace) (p : LogPlace) (r : Bool) → All (λ (q : LogPlace). q.at < length rs) part → p.at < length rs → All (λ (q : LogPlace). q.at < length rs) (cond r (part ++ p ∷ []) part)
within_more rs part p true h lt = in-All (λ (q : LogPlace). q.at < length rs) (part ++ p ∷ []) (λ q i. ⊎_elim (λ j. All-in (λ (x : LogPlace). x.at < length rs) part h q j) (λ j. ⊎_elim (λ eq. subst (λ (x : LogPlace). x.at < length rs) (sym eq) lt) (λ z. absurd z) j) (In-cases q part (p ∷ []) i))
within_more rs part p false h lt = h

pub few_more : (part : List LogPlace) (p : LogPlace) (r : Bool) (n : ℕ) → length part ≤ n → length (cond r (part ++ p ∷ []) part) ≤ n + 1
few_more part p true n le = let z = length-append part (p ∷ []) in omega (arith, z, le)
few_more part p false n le = omega (arith, le)

map-snoc : {A B : Type 0} (f : A → B) (xs : List A) (x : A) → map f (xs ++ x ∷ []) ≡ map f xs ++ f x ∷ []
map-snoc f [] x = refl
map-snoc f (y ∷ xs) x = ap (λ (l : List _). f y ∷ l) (map-snoc f xs x)

pub joined : (rs : List Record) (part next : List LogPlace) (p : LogPlace) (r : Bool) → next ≡ cond r (part ++ p ∷ []) part → cond r (events_at rs part ++ event_at rs p ∷ []) (events_at rs part) ≡ events_at rs next
joined rs part next p r h = go r ∙ ap (events_at rs) (sym h)
  where
    go : (b : Bool) → cond b (events_at rs part ++ event_at rs p ∷ []) (events_at rs part) ≡ events_at rs (cond b (part ++ p ∷ []) part)
    go true = sym (map-snoc (event_at rs) part p)
    go false = refl

pub grow_step : (rs : List Record) (order part next : List LogPlace) (i : ℕ) (d : LogPlace) (r : Bool) → i < length order → r ≡ has_before (events_at rs part) (event_at rs (get_or order i d)) → next ≡ cond r (part ++ get_or order i d ∷ []) part
    → grow (events_at rs part) (events_at rs (drop i order)) ≡ grow (events_at rs next) (events_at rs (drop (i + 1) order))
grow_step rs order part next i d r lt test h =
    let p = get_or order i d in
    ap (λ (l : List LogPlace). grow (events_at rs part) (events_at rs l)) (drop_more order i d lt)
    ∙ ap (λ (b : Bool). grow (cond b (events_at rs part ++ event_at rs p ∷ []) (events_at rs part)) (events_at rs (drop (i + 1) order))) (sym test)
    ∙ ap (λ (l : List LogEvent). grow l (events_at rs (drop (i + 1) order))) (joined rs part next p r h)
