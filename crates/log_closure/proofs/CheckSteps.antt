-- Steps of the check, which goes along the file.
use Rattle.std.proofs.Common.{suc, zero, ◌≡◌, ◌≢◌, ◌++◌, ◌∷◌, [], ℕ, ◌+◌, ◌-◌, List, map, Option, Some, None, Bool, true, false, refl, ap, ◌∙◌, sym, cond, arith, ◌<◌, ◌≤◌, length, take, get_or, append_assoc, append-nil, subst, inl, inr, ⊎_elim}
use Rattle.std.specs.Prelude.{eqb}
use Rattle.std.proofs.lemmas.Bool.{cases_eq, eq-eqb}
use Rattle.std.proofs.lemmas.Bool.Decides.{nat_tests}
use Rattle.std.proofs.lemmas.List.{get_or-set_same, get_or-set_other}
use Rattle.std.proofs.Math.ListN.{set, replicate}
use Rattle.std.proofs.lemmas.List.{get_or-replicate}
use Rattle.run_events.specs.declared.key.KeyMark.{KeyMark}
use Rattle.run_events.specs.declared.event.Record.{Record}
use Rattle.log_closure.specs.declared.tie.Tie.{Tie}
use Rattle.log_closure.specs.declared.place.LogPlace.{LogPlace}
use Rattle.log_closure.specs.declared.error.OrderError.TheVariants.{Twice}
use Rattle.log_closure.specs.Events.{In, LogEvent, event_of, events_after, events_of, of_thread}
use Rattle.log_closure.specs.FirstWrong.{both, clock_at, clock_wrong, first_twice, greatest, repeats, wrong}
use Rattle.log_closure.specs.Places.{place_of, places_from}
use Rattle.log_closure.specs.Tables.{Owns}
use Rattle.log_closure.specs.Ties.{earlier, key_tie, keys, keys_of, needs, thread_tie, ties}
use Rattle.log_closure.proofs.Exact.{own_at}
use Rattle.log_closure.proofs.Meaning.{keyed, tie_of_thread}
use Rattle.log_closure.proofs.Needs.{needed}
use Rattle.log_closure.proofs.Numbers.{numbered, of_thread_more, seen_records}
use Rattle.log_closure.proofs.Steps.{both_zero}
use Rattle.log_closure.proofs.TableSteps.{both_end, length-events}

-- events of a file, by place

pub take_events : (acc rs : List Record) (i : ℕ) → take i (events_after acc rs) ≡ events_after acc (take i rs)
take_events acc rs zero = refl
take_events acc [] (suc i) = refl
take_events acc (r ∷ rs) (suc i) = ap (λ (l : List LogEvent). event_of acc r ∷ l) (take_events (acc ++ r ∷ []) rs i)

pub event_by : (acc rs : List Record) (i : ℕ) (d : LogEvent) (r : Record) → i < length rs → r ≡ get_or rs i r → get_or (events_after acc rs) i d ≡ event_of (acc ++ take i rs) r
event_by acc [] i d r lt is = absurd (omega arith)
event_by acc (s ∷ rs) zero d r lt is = (λ j. event_of (sym (append-nil acc) j) (sym is j))
event_by acc (s ∷ rs) (suc i) d r lt is = event_by (acc ++ s ∷ []) rs i d r (omega arith) is ∙ ap (λ (l : List Record). event_of l r) (append_assoc acc (s ∷ []) (take i rs))

pub event_here : (rs : List Record) (i : ℕ) (r : Record) → i < length rs → r ≡ get_or rs i r → event_of (take i rs) r ≡ get_or (events_of rs) i (event_of (take i rs) r)
event_here rs i r lt is = sym (event_by [] rs i (event_of (take i rs) r) r lt is)

pub at_in : {A : Type 0} (xs : List A) (i : ℕ) (d : A) → i < length xs → In (get_or xs i d) xs
at_in [] i d lt = absurd (omega arith)
at_in (x ∷ xs) zero d lt = inl refl
at_in (x ∷ xs) (suc i) d lt = inr (at_in xs i d (omega arith))

pub event_in : (rs : List Record) (i : ℕ) (r : Record) → i < length rs → r ≡ get_or rs i r → In (event_of (take i rs) r) (events_of rs)
event_in rs i r lt is = subst (λ (x : LogEvent). In x (events_of rs)) (sym (event_here rs i r lt is)) (at_in (events_of rs) i (event_of (take i rs) r) (omega (arith, length-events [] rs, lt)))

place_by : (n : ℕ) (es : List LogEvent) (i : ℕ) (d : LogPlace) (e : LogEvent) → i < length es → e ≡ get_or es i e → get_or (places_from n es) i d ≡ place_of (n + i) e
place_by n [] i d e lt is = absurd (omega arith)
place_by n (f ∷ es) zero d e lt is = (λ j. place_of (plus_zero j) (sym is j))
  where
    plus_zero : n ≡ n + 0
    plus_zero = omega arith
place_by n (f ∷ es) (suc i) d e lt is = place_by (n + 1) es i d e (omega arith) is ∙ ap (λ (m : ℕ). place_of m e) (omega arith)

pub place_here : (rs : List Record) (ps : List LogPlace) (i : ℕ) (r : Record) (d : LogPlace) → i < length rs → r ≡ get_or rs i r → ps ≡ places_from 0 (events_of rs) → get_or ps i d ≡ place_of i (event_of (take i rs) r)
place_here rs ps i r d lt is all =
    let e = event_of (take i rs) r in
    ap (λ (l : List LogPlace). get_or l i d) all ∙ place_by 0 (events_of rs) i d e (omega (arith, length-events [] rs, lt)) (event_here rs i r lt is) ∙ ap (λ (m : ℕ). place_of m e) (omega arith)

pub length-places : (n : ℕ) (es : List LogEvent) → length (places_from n es) ≡ length es
length-places n [] = refl
length-places n (e ∷ es) = ap (λ (k : ℕ). suc k) (length-places (n + 1) es)

abbrev pub no_place : LogPlace
no_place = record { clock = 0; thread = 0; index = 0; at = 0 }

-- the first that repeats a key

some_nat : (a b : ℕ) → Some a ≡ Some b → a ≡ b
some_nat a b e = cc

twice_by : (k n : ℕ) (before es : List LogEvent) (d : LogEvent) → k < length es → first_twice n before es ≡ Some (n + k) → repeats (keys_of (before ++ take k es)) (keys (get_or es k d)) ≡ true
twice_by k n before [] d lt h = absurd (omega arith)
twice_by zero n before (e ∷ es) d lt h = go (repeats (keys_of before) (keys e)) refl h
  where
    past : (m o : ℕ) (bs fs : List LogEvent) → first_twice m bs fs ≡ Some o → m ≤ o
    past m o bs [] k = absurd cc
    past m o bs (f ∷ fs) k = by (repeats (keys_of bs) (keys f)) k (λ j. past (m + 1) o (bs ++ f ∷ []) fs j)
      where
        by : (b : Bool) → cond b (Some m) (first_twice (m + 1) (bs ++ f ∷ []) fs) ≡ Some o → (first_twice (m + 1) (bs ++ f ∷ []) fs ≡ Some o → m + 1 ≤ o) → m ≤ o
        by true j rec = let z = some_nat m o j in omega (arith, z)
        by false j rec = let z = rec j in omega (arith, z)

    go : (b : Bool) → repeats (keys_of before) (keys e) ≡ b → cond b (Some n) (first_twice (n + 1) (before ++ e ∷ []) es) ≡ Some (n + 0) → repeats (keys_of (before ++ [])) (keys e) ≡ true
    go true is k = ap (λ (l : List LogEvent). repeats (keys_of l) (keys e)) (append-nil before) ∙ is
    go false is k = let z = past (n + 1) (n + 0) (before ++ e ∷ []) es k in absurd (omega (arith, z))
twice_by (suc k) n before (e ∷ es) d lt h = go (repeats (keys_of before) (keys e)) h (λ j. twice_by k (n + 1) (before ++ e ∷ []) es d (omega arith) j)
  where
    go : (b : Bool) → cond b (Some n) (first_twice (n + 1) (before ++ e ∷ []) es) ≡ Some (n + suc k) → (first_twice (n + 1) (before ++ e ∷ []) es ≡ Some (n + 1 + k) → repeats (keys_of ((before ++ e ∷ []) ++ take k es)) (keys (get_or es k d)) ≡ true)
        → repeats (keys_of (before ++ e ∷ take k es)) (keys (get_or es k d)) ≡ true
    go true j rec = let z = some_nat n (n + suc k) j in absurd (omega (arith, z))
    go false j rec = ap (λ (l : List LogEvent). repeats (keys_of l) (keys (get_or es k d))) (sym (append_assoc before (e ∷ []) (take k es))) ∙ rec (j ∙ ap (λ (m : ℕ). Some m) (omega arith))

once_by : (k n : ℕ) (before es : List LogEvent) (d : LogEvent) → k < length es → ((m : ℕ) → first_twice n before es ≡ Some m → n + k ≤ m) → first_twice n before es ≢ Some (n + k) → repeats (keys_of (before ++ take k es)) (keys (get_or es k d)) ≡ false
once_by k n before [] d lt later other = absurd (omega arith)
once_by zero n before (e ∷ es) d lt later other = go (repeats (keys_of before) (keys e)) refl other
  where
    go : (b : Bool) → repeats (keys_of before) (keys e) ≡ b → cond b (Some n) (first_twice (n + 1) (before ++ e ∷ []) es) ≢ Some (n + 0) → repeats (keys_of (before ++ [])) (keys e) ≡ false
    go true is k = absurd (k (ap (λ (m : ℕ). Some m) (omega arith)))
    go false is k = ap (λ (l : List LogEvent). repeats (keys_of l) (keys e)) (append-nil before) ∙ is
once_by (suc k) n before (e ∷ es) d lt later other = go (repeats (keys_of before) (keys e)) later other (λ a b. once_by k (n + 1) (before ++ e ∷ []) es d (omega arith) a b)
  where
    go : (b : Bool) → ((m : ℕ) → cond b (Some n) (first_twice (n + 1) (before ++ e ∷ []) es) ≡ Some m → n + suc k ≤ m) → cond b (Some n) (first_twice (n + 1) (before ++ e ∷ []) es) ≢ Some (n + suc k)
        → (((m : ℕ) → first_twice (n + 1) (before ++ e ∷ []) es ≡ Some m → n + 1 + k ≤ m) → first_twice (n + 1) (before ++ e ∷ []) es ≢ Some (n + 1 + k) → repeats (keys_of ((before ++ e ∷ []) ++ take k es)) (keys (get_or es k d)) ≡ false)
        → repeats (keys_of (before ++ e ∷ take k es)) (keys (get_or es k d)) ≡ false
    go true a b rec = let z = a n refl in absurd (omega (arith, z))
    go false a b rec = ap (λ (l : List LogEvent). repeats (keys_of l) (keys (get_or es k d))) (sym (append_assoc before (e ∷ []) (take k es)))
        ∙ rec (λ m j. let z = a m j in omega (arith, z)) (λ j. b (j ∙ ap (λ (m : ℕ). Some m) (omega arith)))

pub twice_here : (rs : List Record) (i : ℕ) (r : Record) → i < length rs → r ≡ get_or rs i r → first_twice 0 [] (events_of rs) ≡ Some i → repeats (keys_of (take i (events_of rs))) (keys (event_of (take i rs) r)) ≡ true
twice_here rs i r lt is h =
    let e = event_of (take i rs) r in
    ap (λ (x : LogEvent). repeats (keys_of (take i (events_of rs))) (keys x)) (event_here rs i r lt is)
    ∙ twice_by i 0 [] (events_of rs) e (omega (arith, length-events [] rs, lt)) (h ∙ ap (λ (m : ℕ). Some m) (omega arith))

pub not_twice_here : (rs : List Record) (i : ℕ) (r : Record) → i < length rs → r ≡ get_or rs i r → ((m : ℕ) → first_twice 0 [] (events_of rs) ≡ Some m → i ≤ m) → first_twice 0 [] (events_of rs) ≢ Some i → repeats (keys_of (take i (events_of rs))) (keys (event_of (take i rs) r)) ≡ false
not_twice_here rs i r lt is later other =
    let e = event_of (take i rs) r in
    ap (λ (x : LogEvent). repeats (keys_of (take i (events_of rs))) (keys x)) (event_here rs i r lt is)
    ∙ once_by i 0 [] (events_of rs) e (omega (arith, length-events [] rs, lt)) (λ m j. let z = later m j in omega (arith, z)) (λ j. other (j ∙ ap (λ (m : ℕ). Some m) (omega arith)))

-- the greatest clock before, from the thread's and those of the keys

greatest_among : (f g : Tie → Option ℕ) (ts : List Tie) → ((t : Tie) → In t ts → f t ≡ g t) → greatest f ts ≡ greatest g ts
greatest_among f g [] h = refl
greatest_among f g (t ∷ ts) h = (λ i. both (h t (inl refl) i) (greatest_among f g ts (λ u j. h u (inr j)) i))

greatest_split : (at : Tie → Option ℕ) (t : Tie) (ts : List Tie) → greatest at (needs (t ∷ ts)) ≡ both (greatest at (needs (t ∷ []))) (greatest at (needs ts))
greatest_split at t ts = go (eqb t.number 0)
  where
    go : (b : Bool) → greatest at (cond b (needs ts) (earlier t ∷ needs ts)) ≡ both (greatest at (cond b [] (earlier t ∷ []))) (greatest at (needs ts))
    go true = sym (both_zero (greatest at (needs ts)))
    go false = by (at (earlier t))
      where
        by : (o : Option ℕ) → both o (greatest at (needs ts)) ≡ both (both o (Some 0)) (greatest at (needs ts))
        by None = refl
        by (Some c) = ap (λ (p : Option ℕ). both p (greatest at (needs ts))) (sym (both_end c))

pub needs_keyed : (e : LogEvent) (t : Tie) → In t (needs (keys e)) → 0 < t.class
needs_keyed e t i = let (s, j, pos, is) = needed (keys e) t i in let z = keyed e s j in let c : t.class ≡ s.class = ap (λ (x : Tie). x.class) is in omega (arith, z, c)

pub greatest_is_of : (at : Tie → Option ℕ) (all : List LogEvent) (e : LogEvent) (last : ℕ) → Owns at all → greatest (clock_at all) (needs (thread_tie e ∷ [])) ≡ Some last → both (Some last) (greatest at (needs (keys e))) ≡ greatest (clock_at all) (needs (ties e))
greatest_is_of at all e last owns is =
    (λ i. both (sym is i) (greatest_among at (clock_at all) (needs (keys e)) (λ t j. owns t (needs_keyed e t j)) i))
    ∙ sym (greatest_split (clock_at all) (thread_tie e) (keys e))

-- the last clock of each thread

abbrev pub LastIs : List Record → ℕ → List ℕ → Type 0
LastIs rs i last = (t : ℕ) → t < 256 → greatest (clock_at (events_of rs)) (needs (tie_of_thread t (of_thread t (take i rs)) ∷ [])) ≡ Some (get_or last t 0)

pub last_none : (rs : List Record) → LastIs rs 0 (replicate 256 0)
last_none rs t lt = ap (λ (n : ℕ). Some n) (sym (get_or-replicate 256 t 0 0 lt))

own_greatest : (at : Tie → Option ℕ) (t n c : ℕ) → at (tie_of_thread t n) ≡ Some c → greatest at (needs (tie_of_thread t (n + 1) ∷ [])) ≡ Some c
own_greatest at t n c h =
    let ne : eqb (n + 1) 0 ≡ false = grind (arith, nat_tests) in
    let back : n + 1 - 1 ≡ n = omega arith in
    ap (λ (b : Bool). greatest at (cond b [] (tie_of_thread t (n + 1 - 1) ∷ []))) ne
    ∙ ap (λ (k : ℕ). both (at (tie_of_thread t k)) (Some 0)) back ∙ ap (λ (o : Option ℕ). both o (Some 0)) h ∙ both_end c

pub last_more : (rs : List Record) (i th : ℕ) (r : Record) (last : List ℕ) → i < length rs → r ≡ get_or rs i r → th ≡ r.thread → th < length last → LastIs rs i last → LastIs rs (i + 1) (set last th r.clock)
last_more rs i th r last lt is eq within h t b =
    ⊎_elim
    (λ e. let on : eqb r.thread t ≡ true = eq-eqb r.thread t (sym eq ∙ e) in
    let num : of_thread t (take (i + 1) rs) ≡ of_thread t (take i rs) + 1 = more ∙ ap (λ (x : Bool). of_thread t (take i rs) + cond x 1 0) on in
    let own = own_at [] (events_of rs) (numbered [] rs) (event_of (take i rs) r) (event_in rs i r lt is) in
    let here : clock_at (events_of rs) (tie_of_thread t (of_thread t (take i rs))) ≡ Some r.clock = subst (λ (u : ℕ). clock_at (events_of rs) (tie_of_thread u (of_thread u (take i rs))) ≡ Some r.clock) (sym eq ∙ e) own in
    ap (λ (n : ℕ). greatest (clock_at (events_of rs)) (needs (tie_of_thread t n ∷ []))) num
    ∙ own_greatest (clock_at (events_of rs)) t (of_thread t (take i rs)) r.clock here
    ∙ ap (λ (n : ℕ). Some n) (sym (subst (λ (u : ℕ). get_or (set last th r.clock) u 0 ≡ r.clock) e (get_or-set_same last th r.clock 0 within))))
    (λ ne. let ne' : t ≢ th = λ e. ne (sym e) in
    let off : eqb r.thread t ≡ false = grind (arith, nat_tests) in
    ap (λ (n : ℕ). greatest (clock_at (events_of rs)) (needs (tie_of_thread t n ∷ []))) (more ∙ ap (λ (x : Bool). of_thread t (take i rs) + cond x 1 0) off ∙ omega arith)
    ∙ h t b ∙ ap (λ (n : ℕ). Some n) (sym (get_or-set_other last th t r.clock 0 ne')))
    (cases_eq th t)
  where
    more : of_thread t (take (i + 1) rs) ≡ of_thread t (take i rs) + cond (eqb r.thread t) 1 0
    more = ap (of_thread t) (seen_records rs i r lt is) ∙ of_thread_more t (take i rs) r

-- what is wrong at a place

pub wrong_twice : (whole : Bool) (all before : List LogEvent) (e : LogEvent) → repeats (keys_of before) (keys e) ≡ true → wrong whole all before e ≡ Some (Twice e.name)
wrong_twice whole all before e h = ap (λ (b : Bool). cond b (Some (Twice e.name)) (clock_wrong whole e.name e.entry.clock (greatest (clock_at all) (needs (ties e))))) h

pub wrong_here : (rs : List Record) (whole : Bool) (at : Tie → Option ℕ) (i : ℕ) (r : Record) (p : LogPlace) (ms : List KeyMark) (last : ℕ) → p ≡ place_of i (event_of (take i rs) r) → ms ≡ r.keys → Owns at (events_of rs)
    → greatest (clock_at (events_of rs)) (needs (thread_tie (event_of (take i rs) r) ∷ [])) ≡ Some last → repeats (keys_of (take i (events_of rs))) (keys (event_of (take i rs) r)) ≡ false
    → clock_wrong whole (record { thread = p.thread; index = p.index }) p.clock (both (Some last) (greatest at (needs (map key_tie ms)))) ≡ wrong whole (events_of rs) (take i (events_of rs)) (event_of (take i rs) r)
wrong_here rs whole at i r p ms last is keys_is owns own apart =
    let e = event_of (take i rs) r in
    let all = events_of rs in
    ap (λ (q : LogPlace). clock_wrong whole (record { thread = q.thread; index = q.index }) q.clock (both (Some last) (greatest at (needs (map key_tie ms))))) is
    ∙ ap (λ (l : List KeyMark). clock_wrong whole e.name e.entry.clock (both (Some last) (greatest at (needs (map key_tie l))))) keys_is
    ∙ ap (clock_wrong whole e.name e.entry.clock) (greatest_is_of at all e last owns own)
    ∙ ap (λ (b : Bool). cond b (Some (Twice e.name)) (clock_wrong whole e.name e.entry.clock (greatest (clock_at all) (needs (ties e))))) (sym apart)
