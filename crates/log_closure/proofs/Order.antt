-- Events in the order of their places.
use Rattle.std.proofs.Common.{suc, ◌≡◌, ◌++◌, ◌∷◌, [], ℕ, ◌+◌, List, map, true, false, refl, ap, ◌∙◌, sym, arith, ◌<◌, ◌≤◌, length, get_or, subst, append_assoc, inl, inr, ⊎_elim}
use Rattle.std.specs.Prelude.{◌⊎◌, ◌↔◌}
use Rattle.std.specs.List.{All}
use Rattle.std.specs.List.Sorted.{IsPermutation, IsSorted}
use Rattle.std.specs.Ordering.{nat_cmp, ordering_then, is_lt}
use Rattle.std.proofs.lemmas.List.Elements.{All-head, All-tail, All-cons, All-nil}
use Rattle.std.proofs.lemmas.List.Sorted.{All-permutation, IsPermutation-sym}
use Rattle.std.proofs.lemmas.Bool.Decides.{nat_tests}
use Rattle.std.proofs.lemmas.Bool.{cases_lt}
use Rattle.std.proofs.lemmas.List.{length-append}
use Rattle.std.specs.declared.cmp.Ordering.{Ordering}
use Rattle.log_closure.specs.declared.place.LogPlace.{LogPlace}
use Rattle.log_closure.specs.Events.{In, LogEvent}
use Rattle.log_closure.specs.Places.{place_cmp, place_of, places_from}
use Rattle.log_closure.proofs.Union.{Climbs, In-right}

pub All-in : {A : Type 0} (P : A → Type 0) (xs : List A) → All P xs → (x : A) → In x xs → P x
All-in P [] h x i = absurd i
All-in P (y ∷ ys) h x (inl e) = subst P (sym e) (All-head P y ys h)
All-in P (y ∷ ys) h x (inr i) = All-in P ys (All-tail P y ys h) x i

pub in-All : {A : Type 0} (P : A → Type 0) (xs : List A) → ((x : A) → In x xs → P x) → All P xs
in-All P [] h = All-nil P
in-All P (y ∷ ys) h = All-cons P y ys (h y (inl refl)) (in-All P ys (λ x i. h x (inr i)))

pub in_permuted : {A : Type 0} (xs ys : List A) → IsPermutation xs ys → (x : A) → In x xs → In x ys
in_permuted xs ys h x i = All-in (λ y. In y ys) xs (All-permutation (λ y. In y ys) ys xs (IsPermutation-sym xs ys h) (in-All (λ y. In y ys) ys (λ y j. j))) x i

-- the events at these places
abbrev pub events : LogEvent → List LogEvent → List LogPlace → List LogEvent
events d all ps = map (λ (p : LogPlace). get_or all p.at d) ps

-- the event that stands at a place
pub record Stands (d : LogEvent) (all : List LogEvent) (p : LogPlace) : Type 0 where
  pub within : p.at < length all
  pub among : In (get_or all p.at d) all
  pub clock : p.clock ≡ (get_or all p.at d).entry.clock
  pub thread : p.thread ≡ (get_or all p.at d).name.thread
  pub index : p.index ≡ (get_or all p.at d).name.index

pub get_or_past : (before : List LogEvent) (e : LogEvent) (es : List LogEvent) (d : LogEvent) → get_or (before ++ e ∷ es) (length before) d ≡ e
get_or_past [] e es d = refl
get_or_past (f ∷ before) e es d = get_or_past before e es d

pub stands : (d : LogEvent) (before es : List LogEvent) (n : ℕ) → n ≡ length before → (p : LogPlace) → In p (places_from n es) → Stands d (before ++ es) p
stands d before [] n eq p i = absurd i
stands d before (e ∷ es) n eq p (inl is) =
    let here : get_or (before ++ e ∷ es) p.at d ≡ e = ap (λ (q : LogPlace). get_or (before ++ e ∷ es) q.at d) is ∙ ap (λ (m : ℕ). get_or (before ++ e ∷ es) m d) eq ∙ get_or_past before e es d in
    record {
      within = (let at : p.at ≡ n = ap (λ (q : LogPlace). q.at) is in omega (arith, at, length-append before (e ∷ es)));
      among = subst (λ (x : LogEvent). In x (before ++ e ∷ es)) (sym here) (In-right e before (e ∷ es) (inl refl));
      clock = ap (λ (q : LogPlace). q.clock) is ∙ ap (λ (x : LogEvent). x.entry.clock) (sym here);
      thread = ap (λ (q : LogPlace). q.thread) is ∙ ap (λ (x : LogEvent). x.name.thread) (sym here);
      index = ap (λ (q : LogPlace). q.index) is ∙ ap (λ (x : LogEvent). x.name.index) (sym here);
    }
stands d before (e ∷ es) n eq p (inr i) = subst (λ (l : List LogEvent). Stands d l p) (append_assoc before (e ∷ []) es) (stands d (before ++ e ∷ []) es (n + 1) (omega (arith, length-append before (e ∷ []))) p i)

pub has_place : (d : LogEvent) (before es : List LogEvent) (n : ℕ) → n ≡ length before → (e : LogEvent) → In e es → (p : LogPlace) × In p (places_from n es) × (get_or (before ++ es) p.at d ≡ e)
has_place d before [] n eq e i = absurd i
has_place d before (f ∷ es) n eq e (inl is) = (place_of n f, inl refl, ap (λ (m : ℕ). get_or (before ++ f ∷ es) m d) eq ∙ get_or_past before f es d ∙ sym is)
has_place d before (f ∷ es) n eq e (inr i) =
    let (p, j, is) = has_place d (before ++ f ∷ []) es (n + 1) (omega (arith, length-append before (f ∷ []))) e i in
    (p, inr j, ap (λ (l : List LogEvent). get_or l p.at d) (sym (append_assoc before (f ∷ []) es)) ∙ is)

pub in-map : {A B : Type 0} (f : A → B) (xs : List A) (x : A) → In x xs → In (f x) (map f xs)
in-map f [] x i = absurd i
in-map f (y ∷ xs) x (inl e) = inl (ap f e)
in-map f (y ∷ xs) x (inr i) = inr (in-map f xs x i)

pub map-in : {A B : Type 0} (f : A → B) (xs : List A) (y : B) → In y (map f xs) → (x : A) × In x xs × (y ≡ f x)
map-in f [] y i = absurd i
map-in f (x ∷ xs) y (inl e) = (x, inl refl, e)
map-in f (x ∷ xs) y (inr i) = let (z, j, e) = map-in f xs y i in (z, inr j, e)

-- the events in order are those of the file
pub same_events : (d : LogEvent) (all : List LogEvent) (order : List LogPlace) → IsPermutation (places_from 0 all) order → (e : LogEvent) → In e all ↔ In e (events d all order)
same_events d all order h e = (
  λ i. let (p, j, is) = has_place d [] all 0 refl e i in
      subst (λ (x : LogEvent). In x (events d all order)) is (in-map (λ (q : LogPlace). get_or all q.at d) order p (in_permuted (places_from 0 all) order h p j)),
  λ i. let (p, j, is) = map-in (λ (q : LogPlace). get_or all q.at d) order e i in
      subst (λ (x : LogEvent). In x all) (sym is) (stands d [] all 0 refl p (in_permuted order (places_from 0 all) (IsPermutation-sym (places_from 0 all) order h) p j)).among,
)

pub places_stand : (d : LogEvent) (all : List LogEvent) (order : List LogPlace) → IsPermutation (places_from 0 all) order → (p : LogPlace) → In p order → Stands d all p
places_stand d all order h p j = stands d [] all 0 refl p (in_permuted order (places_from 0 all) (IsPermutation-sym (places_from 0 all) order h) p j)

-- by clock, then by thread
abbrev pub Le : LogPlace → LogPlace → Type 0
Le p q = (p.clock < q.clock) ⊎ ((p.clock ≡ q.clock) × (p.thread ≤ q.thread))

lt_first : (x a : ℕ) (o : Ordering) → x < a → is_lt (ordering_then (nat_cmp x a) o) ≡ true
lt_first x a o h = grind (arith, nat_tests)

lt_second : (a x y b : ℕ) (o : Ordering) → a ≡ x → y < b → is_lt (ordering_then (nat_cmp x a) (ordering_then (nat_cmp y b) o)) ≡ true
lt_second a x y b o e h = grind (arith, nat_tests)

le_step : (a b x y : ℕ) (o : Ordering) → is_lt (ordering_then (nat_cmp x a) (ordering_then (nat_cmp y b) o)) ≡ false → (a < x) ⊎ ((a ≡ x) × (b ≤ y))
le_step a b x y o h =
    ⊎_elim (λ lt. inl lt)
    (λ ge. ⊎_elim (λ gt. absurd (let t = lt_first x a (ordering_then (nat_cmp y b) o) gt in cc))
    (λ le. let eq : a ≡ x = omega arith in
    ⊎_elim (λ lt. absurd (let t = lt_second a x y b o eq lt in cc)) (λ fine. inr (eq, fine)) (cases_lt y b))
    (cases_lt x a))
    (cases_lt a x)

le_trans : (p q r : LogPlace) → Le p q → Le q r → Le p r
le_trans p q r (inl a) (inl b) = inl (omega arith)
le_trans p q r (inl a) (inr b) = inl (omega arith)
le_trans p q r (inr a) (inl b) = inl (omega arith)
le_trans p q r (inr a) (inr b) = inr (omega arith, omega arith)

abbrev pub Rising : List LogPlace → Type 0
Rising [] = Unit {0}
Rising (p ∷ ps) = ((q : LogPlace) → In q ps → Le p q) × Rising ps

sorted_tail : (p : LogPlace) (ps : List LogPlace) → IsSorted place_cmp (p ∷ ps) → IsSorted place_cmp ps
sorted_tail p ps h = λ k d a b.
    let e : suc k + 1 ≡ suc (k + 1) = omega arith in
    subst (λ (m : ℕ). is_lt (place_cmp (get_or (p ∷ ps) m d) (get_or ps k d)) ≡ false) e (h (suc k) d (omega arith) (omega arith))

pub rising : (ps : List LogPlace) → IsSorted place_cmp ps → Rising ps
rising [] h = tt
rising (p ∷ []) h = (λ q i. absurd i, tt)
rising (p ∷ q ∷ ps) h =
    let rest = rising (q ∷ ps) (sorted_tail p (q ∷ ps) h) in
    let first : Le p q = le_step p.clock p.thread q.clock q.thread (ordering_then (nat_cmp q.index p.index) (nat_cmp q.at p.at)) (h 0 p (omega arith) (omega arith)) in
    (λ r i. ⊎_elim (λ e. subst (Le p) (sym e) first) (λ j. le_trans p q r first (rest.0 r j)) i, rest)

le_clock : (p q : LogPlace) → Le p q → p.clock ≤ q.clock
le_clock p q (inl a) = omega arith
le_clock p q (inr a) = omega arith

pub climbs : (d : LogEvent) (all : List LogEvent) (ps : List LogPlace) → ((p : LogPlace) → In p ps → Stands d all p) → Rising ps → Climbs (events d all ps)
climbs d all [] s r = tt
climbs d all (p ∷ ps) s r = (
  λ f i. let (q, j, is) = map-in (λ (q : LogPlace). get_or all q.at d) ps f i in
      let a = s p (inl refl) in let b = s q (inr j) in
      let le = le_clock p q (r.0 q j) in
      let c : f.entry.clock ≡ (get_or all q.at d).entry.clock = ap (λ (x : LogEvent). x.entry.clock) is in
      omega (arith, a.clock, b.clock, le, c),
  climbs d all ps (λ q j. s q (inr j)) r.1,
)
