-- The closed part stands strictly in the order of clock and thread.
use Rattle.std.proofs.Common.{zero, suc, ◌≡◌, ◌++◌, ◌∷◌, [], ℕ, ◌+◌, ◌-◌, List, map, Some, None, Bool, true, false, refl, ap, ◌∙◌, sym, cond, arith, ◌<◌, ◌≤◌, length, get_or, subst, append_assoc, append-nil, inl, inr, ⊎_elim}
use Rattle.std.specs.Prelude.{◌&&◌, eqb, ◌⊎◌}
use Rattle.std.specs.List.{AllByRecursion, IsDistinct}
use Rattle.std.specs.List.Sorted.{IsPermutation, IsSorted}
use Rattle.std.proofs.lemmas.Map.Keys.{IsDistinct-IsPermutation}
use Rattle.std.proofs.lemmas.Bool.{cases_lt}
use Rattle.std.proofs.lemmas.Bool.Decides.{nat_tests}
use Rattle.std.proofs.lemmas.List.{length-append}
use Rattle.log_closure.specs.declared.tie.Tie.{Tie}
use Rattle.log_closure.specs.declared.place.LogPlace.{LogPlace}
use Rattle.log_closure.specs.Closed.{Ordered, Precedes}
use Rattle.log_closure.specs.Events.{In, LogEvent}
use Rattle.log_closure.specs.FirstWrong.{clock_at, first_wrong}
use Rattle.log_closure.specs.Growing.{HoldsBefore, IsGrownPart, grow, grown, has_before}
use Rattle.log_closure.specs.Places.{place_cmp, place_of, places_from}
use Rattle.log_closure.specs.Ties.{earlier, keys, listed, needs, same, thread_tie, ties, ties_of}
use Rattle.log_closure.proofs.Numbered.{Numbered}
use Rattle.log_closure.proofs.Order.{events, Le, Rising, Stands, climbs, get_or_past, map-in, places_stand, rising, same_events}
use Rattle.log_closure.proofs.Passed.{Keyed, fits, in_listed, listed_in, same_refl, thread_among, whole_closed, whole_union}
use Rattle.log_closure.proofs.Steps.{same_is}
use Rattle.log_closure.proofs.Union.{Fits, In-cases, In-left, In-right, Owner, all_in, grow_closed, grow_union, owner, rises}

-- clocks rise along a thread of a closed set

needs_first : (t : Tie) (ts : List Tie) → 0 < t.number → In (earlier t) (needs (t ∷ ts))
needs_first t ts h = go (eqb t.number 0) (grind (arith, nat_tests))
  where
    go : (b : Bool) → b ≡ false → In (earlier t) (cond b (needs ts) (earlier t ∷ needs ts))
    go true e = absurd cc
    go false e = inl refl

thread_owner : (all set : List LogEvent) → Keyed all → HoldsBefore all set → (f : LogEvent) → In f set → (w : Owner set (earlier (thread_tie f))) → thread_tie w.event ≡ earlier (thread_tie f)
thread_owner all set keyed h f i w =
    ⊎_elim (λ e. sym e)
    (λ j. let z = keyed w.event (h w.event w.among).0 (earlier (thread_tie f)) j in absurd (omega (arith, z)))
    (listed_in (ties w.event) (earlier (thread_tie f)) w.has)

some_is : (a b : ℕ) → Some a ≡ Some b → a ≡ b
some_is a b e = cc

-- the event before f in its thread
record Previous (set : List LogEvent) (f : LogEvent) : Type 0 where
  event : LogEvent
  among : In event set
  of_thread : event.name.thread ≡ f.name.thread
  next : f.name.index ≡ event.name.index + 1
  below : event.entry.clock < f.entry.clock

previous : (all set : List LogEvent) → Fits all → Keyed all → HoldsBefore all set → (f : LogEvent) → In f set → 0 < f.name.index → Previous set f
previous all set fit keyed h f j first =
    let need = needs_first (thread_tie f) (keys f) first in
    let w = owner set (earlier (thread_tie f)) (all_in (listed (ties_of set)) (needs (ties f)) (h f j).1 (earlier (thread_tie f)) need) in
    let is = thread_owner all set keyed h f j w in
    let n : w.event.name.index ≡ f.name.index - 1 = ap (λ (t : Tie). t.number) is in
    record { event = w.event; among = w.among; of_thread = ap (λ (t : Tie). t.value) is; next = omega (arith, n); below = rises all set fit h f j (earlier (thread_tie f)) need w }

-- a place in a thread is one event's
one_clock : (all set : List LogEvent) → Fits all → HoldsBefore all set → (e f : LogEvent) → In e set → In f set → e.name.thread ≡ f.name.thread → e.name.index ≡ f.name.index → e.entry.clock ≡ f.entry.clock
one_clock all set fit h e f i j t n =
    let same_tie : thread_tie e ≡ thread_tie f = λ k. record { class = 0; value = t k; number = n k } in
    let a = fit.first e (h e i).0 (thread_tie e) (in_listed (ties e) (thread_tie e) (inl refl)) in
    let b = fit.first f (h f j).0 (thread_tie f) (in_listed (ties f) (thread_tie f) (inl refl)) in
    some_is e.entry.clock f.entry.clock (sym a ∙ ap (clock_at all) same_tie ∙ b)

pub thread_rises : (all set : List LogEvent) → Fits all → Keyed all → HoldsBefore all set → (d : ℕ) (e f : LogEvent) → In e set → In f set → e.name.thread ≡ f.name.thread → f.name.index ≡ e.name.index + 1 + d → e.entry.clock < f.entry.clock
thread_rises all set fit keyed h zero e f i j t n =
    let w = previous all set fit keyed h f j (omega (arith, n)) in
    let k : e.name.index ≡ w.event.name.index = omega (arith, n, w.next) in
    let c = one_clock all set fit h e w.event i w.among (t ∙ sym w.of_thread) k in
    omega (arith, c, w.below)
thread_rises all set fit keyed h (suc d) e f i j t n =
    let w = previous all set fit keyed h f j (omega (arith, n)) in
    let c = thread_rises all set fit keyed h d e w.event i w.among (t ∙ sym w.of_thread) (omega (arith, n, w.next)) in
    omega (arith, c, w.below)

-- pairs of a list

abbrev pub Pairs : (LogEvent → LogEvent → Type 0) → List LogEvent → Type 0
Pairs R [] = Unit {0}
Pairs R (e ∷ es) = ((f : LogEvent) → In f es → R e f) × Pairs R es

pairs_drop : (R : LogEvent → LogEvent → Type 0) (part : List LogEvent) (e : LogEvent) (rest : List LogEvent) → Pairs R (part ++ e ∷ rest) → Pairs R (part ++ rest)
pairs_drop R [] e rest h = h.1
pairs_drop R (f ∷ part) e rest h = (λ g i. h.0 g (⊎_elim (λ j. In-left g part (e ∷ rest) j) (λ j. In-right g part (e ∷ rest) (inr j)) (In-cases g part rest i)), pairs_drop R part e rest h.1)

pub pairs_grow : (R : LogEvent → LogEvent → Type 0) (part rest : List LogEvent) → Pairs R (part ++ rest) → Pairs R (grow part rest)
pairs_grow R part [] h = subst (Pairs R) (append-nil part) h
pairs_grow R part (e ∷ rest) h = pairs_grow R (grown part e) rest (go (has_before part e))
  where
    go : (b : Bool) → Pairs R (cond b (part ++ e ∷ []) part ++ rest)
    go true = subst (Pairs R) (sym (append_assoc part (e ∷ []) rest)) h
    go false = pairs_drop R part e rest h

-- by clock and thread, and of two names
abbrev pub Apart : LogEvent → LogEvent → Type 0
Apart e f = ((e.entry.clock < f.entry.clock) ⊎ ((e.entry.clock ≡ f.entry.clock) × (e.name.thread ≤ f.name.thread))) × (same (thread_tie e) (thread_tie f) ≡ false)

pub apart_precedes : (all set : List LogEvent) → Fits all → Keyed all → HoldsBefore all set → (e f : LogEvent) → In e set → In f set → Apart e f → Precedes e f
apart_precedes all set fit keyed h e f i j (le, apart) =
    ⊎_elim (λ lt. inl lt)
    (λ eq. ⊎_elim (λ lt. inr (eq.0, lt))
    (λ ge. let t : e.name.thread ≡ f.name.thread = omega (arith, eq.1, ge) in
    ⊎_elim (λ lt. let z = thread_rises all set fit keyed h (f.name.index - e.name.index - 1) e f i j t (omega (arith, lt)) in absurd (omega (arith, z, eq.0)))
    (λ le. ⊎_elim (λ gt. let z = thread_rises all set fit keyed h (e.name.index - f.name.index - 1) f e j i (sym t) (omega (arith, gt)) in absurd (omega (arith, z, eq.0)))
    (λ ge. let n : e.name.index ≡ f.name.index = omega (arith, le, ge) in
    absurd (let same_tie : thread_tie e ≡ thread_tie f = (λ k. record { class = 0; value = t k; number = n k }) in
    let yes_same : same (thread_tie e) (thread_tie f) ≡ true = subst (λ (x : Tie). same (thread_tie e) x ≡ true) same_tie (same_refl (thread_tie e)) in cc))
    (cases_lt f.name.index e.name.index))
    (cases_lt e.name.index f.name.index))
    (cases_lt e.name.thread f.name.thread))
    le

pub ordered : (all set part : List LogEvent) → Fits all → Keyed all → HoldsBefore all set → ((e : LogEvent) → In e part → In e set) → Pairs Apart part → Ordered part
ordered all set [] fit keyed h sub p = tt
ordered all set (e ∷ part) fit keyed h sub p = (λ f j. apart_precedes all set fit keyed h e f (sub e (inl refl)) (sub f (inr j)) (p.0 f j), ordered all set part fit keyed h (λ g k. sub g (inr k)) p.1)

-- names differ

numbered_new : (before es : List LogEvent) → Numbered before es → (e g : LogEvent) → In e before → In g es → same (thread_tie e) (thread_tie g) ≡ false
numbered_new before [] n e g i j = absurd j
numbered_new before (f ∷ es) n e g i (inl is) = go (same (thread_tie e) (thread_tie g)) refl
  where
    go : (b : Bool) → same (thread_tie e) (thread_tie g) ≡ b → b ≡ false
    go false eq = refl
    go true eq = absurd (let l : listed (map thread_tie before) (thread_tie f) ≡ true = in_listed _ _ (subst (λ (t : Tie). In t (map thread_tie before)) (same_is (thread_tie e) (thread_tie g) eq ∙ ap thread_tie is) (thread_among before e i)) in let z = n.0 in cc)
numbered_new before (f ∷ es) n e g i (inr j) = numbered_new (before ++ f ∷ []) es n.2 e g (In-left e before (f ∷ []) i) j

pub numbered_keyed : (before es : List LogEvent) → Numbered before es → Keyed es
numbered_keyed before [] n e i k j = absurd i
numbered_keyed before (f ∷ es) n e (inl is) k j = n.1 k (subst (λ (x : LogEvent). In k (keys x)) is j)
numbered_keyed before (f ∷ es) n e (inr i) k j = numbered_keyed (before ++ f ∷ []) es n.2 e i k j

abbrev pub same_name : LogEvent → List LogEvent → LogPlace → LogPlace → Bool
same_name d all p q = same (thread_tie (get_or all p.at d)) (thread_tie (get_or all q.at d))

all_rec : {A : Type 0} (P : A → Type 0) (xs : List A) → ((x : A) → In x xs → P x) → AllByRecursion P xs
all_rec P [] h = tt
all_rec P (x ∷ xs) h = (h x (inl refl), all_rec P xs (λ y i. h y (inr i)))

rec_all : {A : Type 0} (P : A → Type 0) (xs : List A) → AllByRecursion P xs → (x : A) → In x xs → P x
rec_all P [] h x i = absurd i
rec_all P (y ∷ xs) h x (inl e) = subst P (sym e) h.0
rec_all P (y ∷ xs) h x (inr i) = rec_all P xs h.1 x i

stands_in : (d : LogEvent) (before es : List LogEvent) (n : ℕ) → n ≡ length before → (p : LogPlace) → In p (places_from n es) → In (get_or (before ++ es) p.at d) es
stands_in d before [] n eq p i = absurd i
stands_in d before (e ∷ es) n eq p (inl is) =
    inl (ap (λ (q : LogPlace). get_or (before ++ e ∷ es) q.at d) is ∙ ap (λ (m : ℕ). get_or (before ++ e ∷ es) m d) eq ∙ get_or_past before e es d)
stands_in d before (e ∷ es) n eq p (inr i) =
    inr (subst (λ (l : List LogEvent). In (get_or l p.at d) es) (append_assoc before (e ∷ []) es) (stands_in d (before ++ e ∷ []) es (n + 1) (omega (arith, length-append before (e ∷ []))) p i))

names_differ : (d : LogEvent) (all before es : List LogEvent) (n : ℕ) → all ≡ before ++ es → n ≡ length before → Numbered before es → IsDistinct (same_name d all) (places_from n es)
unfolding IsDistinct
names_differ d all before [] n is eq num = tt
names_differ d all before (e ∷ es) n is eq num =
    let is' : all ≡ (before ++ e ∷ []) ++ es = is ∙ sym (append_assoc before (e ∷ []) es) in
    let n' : n + 1 ≡ length (before ++ e ∷ []) = omega (arith, length-append before (e ∷ [])) in
    let here : get_or all n d ≡ e = ap (λ (l : List LogEvent). get_or l n d) is ∙ ap (λ (m : ℕ). get_or (before ++ e ∷ es) m d) eq ∙ get_or_past before e es d in (
      all_rec (λ (q : LogPlace). same_name d all (place_of n e) q ≡ false) (places_from (n + 1) es) (λ q j.
          ap (λ (x : LogEvent). same (thread_tie x) (thread_tie (get_or all q.at d))) here
          ∙ numbered_new (before ++ e ∷ []) es num.2 e (get_or all q.at d) (In-right e before (e ∷ []) (inl refl))
          (subst (λ (l : List LogEvent). In (get_or l q.at d) es) (sym is') (stands_in d (before ++ e ∷ []) es (n + 1) n' q j))),
      names_differ d all (before ++ e ∷ []) es (n + 1) is' n' num.2,
    )

eqb_flips : (a b : ℕ) → eqb a b ≡ eqb b a
eqb_flips a b = grind (arith, nat_tests)

flips : (d : LogEvent) (all : List LogEvent) (p q : LogPlace) → same_name d all p q ≡ same_name d all q p
flips d all p q =
    let e = get_or all p.at d in let f = get_or all q.at d in
    λ k. ((eqb 0 0) && (eqb_flips e.name.thread f.name.thread k && eqb_flips e.name.index f.name.index k))

apart_pairs : (d : LogEvent) (all : List LogEvent) (ps : List LogPlace) → ((p : LogPlace) → In p ps → Stands d all p) → Rising ps → IsDistinct (same_name d all) ps → Pairs Apart (events d all ps)
unfolding IsDistinct
apart_pairs d all [] s r n = tt
apart_pairs d all (p ∷ ps) s r n = (
  λ f i. let (q, j, is) = map-in (λ (q : LogPlace). get_or all q.at d) ps f i in
      subst (Apart (get_or all p.at d)) (sym is) (le_events p q (s p (inl refl)) (s q (inr j)) (r.0 q j), rec_all (λ (q : LogPlace). same_name d all p q ≡ false) ps n.0 q j),
  apart_pairs d all ps (λ q j. s q (inr j)) r.1 n.1,
)
  where
    le_events : (p q : LogPlace) → Stands d all p → Stands d all q → Le p q → ((get_or all p.at d).entry.clock < (get_or all q.at d).entry.clock) ⊎ (((get_or all p.at d).entry.clock ≡ (get_or all q.at d).entry.clock) × ((get_or all p.at d).name.thread ≤ (get_or all q.at d).name.thread))
    le_events p q a b (inl lt) = inl (omega (arith, a.clock, b.clock, lt))
    le_events p q a b (inr le) = inr (omega (arith, a.clock, b.clock, le.0), omega (arith, a.thread, b.thread, le.1))

-- the closed part, in order

pub closed_part : (whole : Bool) (d : LogEvent) (all : List LogEvent) (order : List LogPlace) → Numbered [] all → first_wrong whole all [] all ≡ None → IsPermutation (places_from 0 all) order → IsSorted place_cmp order → IsGrownPart all (grow [] (events d all order))
closed_part whole d all order num passes perm sorted =
    let fit = fits whole all num passes in
    let keyed = numbered_keyed [] all num in
    let stand = places_stand d all order perm in
    let rise = rising order sorted in
    let distinct = IsDistinct-IsPermutation (same_name d all) (flips d all) (places_from 0 all) order perm (names_differ d all [] all 0 refl refl num) in
    let es = events d all order in
    let closed = grow_closed all [] es (λ e i. absurd i) (λ e i. (same_events d all order perm e).1 i) in (
      grow_union all es fit (same_events d all order perm) (climbs d all order stand rise),
      ordered all (grow [] es) (grow [] es) fit keyed closed (λ e i. i) (pairs_grow Apart [] es (apart_pairs d all order stand rise distinct)),
    )

-- a whole file that passes, in order
pub whole_part : (d : LogEvent) (all : List LogEvent) (order : List LogPlace) → Numbered [] all → first_wrong true all [] all ≡ None → IsPermutation (places_from 0 all) order → IsSorted place_cmp order → IsGrownPart all (events d all order)
whole_part d all order num passes perm sorted =
    let fit = fits true all num passes in
    let keyed = numbered_keyed [] all num in
    let stand = places_stand d all order perm in
    let rise = rising order sorted in
    let distinct = IsDistinct-IsPermutation (same_name d all) (flips d all) (places_from 0 all) order perm (names_differ d all [] all 0 refl refl num) in
    let same = same_events d all order perm in (
      λ e. (λ i. whole_union all passes e ((same e).1 i), λ (set, closed, i). (same e).0 (closed e i).0),
      ordered all all (events d all order) fit keyed (whole_closed all passes) (λ e i. (same e).1 i) (apart_pairs d all order stand rise distinct),
    )
