-- The clock that is counted is the length of the longest chain.
use Rattle.std.proofs.Common.{◌≡◌, ℕ, suc, ◌<◌, ◌≤◌, Bool, true, false, ◌||◌, cond, eqb, List, [], ◌∷◌, length, ◌⊎◌, inl, inr, ⊎_elim, refl, sym, ap, ◌∙◌, subst, arith, eq-eqb, eqb-true, ◌&&◌}
use Rattle.std.proofs.lemmas.Bool.{or_cases, cases_lt, and_parts}
use Rattle.run_events.specs.Class.{number_of}
use Rattle.run_events.specs.declared.key.Class.{Class}
use Rattle.run_events.specs.declared.key.Class.TheVariants.{Mutex, User, Callback, Thread, Pool, Out, Async}
use Rattle.run_events.specs.declared.key.Key.{Key}
use Rattle.causal_order.specs.Order.{Link, OfThread, OfKey, same_key, In, DirectlyPrecedes, Chain, begins, goes_on}
use Rattle.logical_clock.specs.Events.{is_among, Occurrence, has, count, histories, numbered, IsClockOf}
use Rattle.logical_clock.specs.Names.{greatest_of}
use Rattle.logical_clock.specs.Counts.{latest, last_clock}

-- the latest clock is that of a link, or there is none

same_refl : (k : Key) → same_key k k ≡ true
same_refl k = (λ i. eq-eqb (number_of k.class) (number_of k.class) refl i && eq-eqb k.value k.value refl i)

or_left : (a b : Bool) → a ≡ true → (a || b) ≡ true
or_left a b e = ap (λ x. x || b) e

or_right : (a b : Bool) → b ≡ true → (a || b) ≡ true
or_right true b e = refl
or_right false b e = e

greatest_is : (f : Key → ℕ) (ks : List Key) → (greatest_of f ks ≡ 0) ⊎ ((k : Key) × (is_among ks k ≡ true) × (f k ≡ greatest_of f ks))
greatest_is f [] = inl refl
greatest_is f (k ∷ ks) = go (greatest_is f ks)
  where
    own : greatest_of f ks ≤ f k → (greatest_of f (k ∷ ks) ≡ 0) ⊎ ((j : Key) × (is_among (k ∷ ks) j ≡ true) × (f j ≡ greatest_of f (k ∷ ks)))
    own le = inr (k, or_left (same_key k k) (is_among ks k) (same_refl k), omega (arith, le))

    go : (greatest_of f ks ≡ 0) ⊎ ((k : Key) × (is_among ks k ≡ true) × (f k ≡ greatest_of f ks)) → (greatest_of f (k ∷ ks) ≡ 0) ⊎ ((j : Key) × (is_among (k ∷ ks) j ≡ true) × (f j ≡ greatest_of f (k ∷ ks)))
    go (inl z) = own (omega (arith, z))
    go (inr w) = ⊎_elim own (λ lt. inr (w.0, or_right (same_key k w.0) (is_among ks w.0) w.1, omega (arith, lt, w.2))) (either (greatest_of f ks) (f k))
      where
        either : (a b : ℕ) → (a ≤ b) ⊎ (b < a)
        either a b = ⊎_elim (λ lt. inr lt) (λ le. inl le) (cases_lt b a)

latest_is : (f : Link → ℕ) (m : Occurrence) → (latest f m ≡ 0) ⊎ ((l : Link) × (has m l ≡ true) × (f l ≡ latest f m))
latest_is f m = go (greatest_is (λ k. f (OfKey k)) m.keys)
  where
    own : greatest_of (λ k. f (OfKey k)) m.keys ≤ f (OfThread m.thread) → (latest f m ≡ 0) ⊎ ((l : Link) × (has m l ≡ true) × (f l ≡ latest f m))
    own le = inr (OfThread m.thread, eq-eqb m.thread m.thread refl, omega (arith, le))

    go : (greatest_of (λ k. f (OfKey k)) m.keys ≡ 0) ⊎ ((k : Key) × (is_among m.keys k ≡ true) × (f (OfKey k) ≡ greatest_of (λ k. f (OfKey k)) m.keys)) → (latest f m ≡ 0) ⊎ ((l : Link) × (has m l ≡ true) × (f l ≡ latest f m))
    go (inl z) = own (omega (arith, z))
    go (inr w) = ⊎_elim (λ lt. inr (OfKey w.0, w.1, omega (arith, lt, w.2))) own (cases_lt (f (OfThread m.thread)) (greatest_of (λ k. f (OfKey k)) m.keys))

-- and none of a link is above it

abbrev class_with : ℕ → Class
class_with n = cond (eqb n 1) Mutex (cond (eqb n 2) User (cond (eqb n 3) Callback (cond (eqb n 4) Thread (cond (eqb n 5) Pool (cond (eqb n 6) Out Async)))))

class_back : (c : Class) → class_with (number_of c) ≡ c
class_back Mutex = refl
class_back User = refl
class_back Callback = refl
class_back Thread = refl
class_back Pool = refl
class_back Out = refl
class_back Async = refl

class_is : (c d : Class) → number_of c ≡ number_of d → c ≡ d
class_is c d e = sym (class_back c) ∙ ap class_with e ∙ class_back d

same_is : (j k : Key) → same_key j k ≡ true → j ≡ k
same_is j k e =
    let p = and_parts (eqb (number_of j.class) (number_of k.class)) (eqb j.value k.value) e in
    let c = class_is j.class k.class (eqb-true _ _ p.0) in
    let v = eqb-true j.value k.value p.1 in
    λ i. record { class = c i; value = v i }

among_le : (f : Key → ℕ) (ks : List Key) (k : Key) → is_among ks k ≡ true → f k ≤ greatest_of f ks
among_le f [] k e = absurd cc
among_le f (j ∷ ks) k e =
    ⊎_elim
    (λ s. let z : f j ≡ f k = ap f (same_is j k s) in omega (arith, z))
    (λ s. omega (arith, among_le f ks k s))
    (or_cases (same_key j k) (is_among ks k) e)

pub link_le : (f : Link → ℕ) (m : Occurrence) (l : Link) → has m l ≡ true → f l ≤ latest f m
link_le f m (OfThread t) e = let z : f (OfThread m.thread) ≡ f (OfThread t) = ap (λ x. f (OfThread x)) (eqb-true m.thread t e) in omega (arith, z)
link_le f m (OfKey k) e = omega (arith, among_le (λ k. f (OfKey k)) m.keys k e)

-- the clock of an event, by its history

abbrev clock_of : List Occurrence → ℕ
clock_of [] = 0
clock_of (m ∷ past) = suc (latest (last_clock past) m)

positive : (run e : List Occurrence) → In e (histories run) → 1 ≤ clock_of e
positive [] e i = absurd i
positive (m ∷ past) e (inl is) = let z : clock_of e ≡ suc (latest (last_clock past) m) = ap clock_of is in omega (arith, z)
positive (m ∷ past) e (inr i) = positive past e i

-- an event with a link has a number below the count of those that have it
below : (run e : List Occurrence) (l : Link) (n : ℕ) → In e (histories run) → numbered e l n → n < count l run
below [] e l n i a = absurd i
below (m ∷ past) e l n (inl is) a =
    let b : numbered (m ∷ past) l n = subst (λ x. numbered x l n) is a in
    let z : cond (has m l) (suc (count l past)) (count l past) ≡ suc (count l past) = ap (λ x. cond x (suc (count l past)) (count l past)) b.0 in
    omega (arith, z, b.1)
below (m ∷ past) e l n (inr i) a = go (has m l) (below past e l n i a)
  where
    go : (b : Bool) → n < count l past → n < cond b (suc (count l past)) (count l past)
    go true h = omega (arith, h)
    go false h = omega (arith, h)

-- the one with the greatest number is the last
is_last : (run e : List Occurrence) (l : Link) (n : ℕ) → In e (histories run) → numbered e l n → count l run ≡ suc n → last_clock run l ≡ clock_of e
is_last [] e l n i a c = absurd i
is_last (m ∷ past) e l n (inl is) a c =
    let b : numbered (m ∷ past) l n = subst (λ x. numbered x l n) is a in
    ap (λ x. cond x (suc (latest (last_clock past) m)) (last_clock past l)) b.0 ∙ ap clock_of (sym is)
is_last (m ∷ past) e l n (inr i) a c = go (has m l) c (is_last past e l n i a)
  where
    go : (b : Bool) → cond b (suc (count l past)) (count l past) ≡ suc n → (count l past ≡ suc n → last_clock past l ≡ clock_of e) → cond b (suc (latest (last_clock past) m)) (last_clock past l) ≡ clock_of e
    go true k h = absurd (omega (arith, k, below past e l n i a))
    go false k h = h k

-- of two events, one is among those before the other

abbrev before : List Occurrence → List Occurrence
before [] = []
before (m ∷ past) = past

two : (run e f : List Occurrence) → In e (histories run) → In f (histories run) → In e (histories (before f)) ⊎ ((e ≡ f) ⊎ In f (histories (before e)))
two [] e f i j = absurd i
two (m ∷ past) e f (inl is) (inl js) = inr (inl (is ∙ sym js))
two (m ∷ past) e f (inl is) (inr j) = inr (inr (subst (λ x. In f (histories (before x))) (sym is) j))
two (m ∷ past) e f (inr i) (inl js) = inl (subst (λ x. In e (histories (before x))) (sym js) i)
two (m ∷ past) e f (inr i) (inr j) = two past e f i j

-- no chain is longer than the clock

onward : (run e f : List Occurrence) (k : ℕ) → k ≤ clock_of e → DirectlyPrecedes numbered (histories run) e f → suc k ≤ clock_of f
onward run e [] k h p = absurd p.second
onward run e (m ∷ past) k h p = go (two run e (m ∷ past) p.e_in p.f_in)
  where
    later : (e : List Occurrence) → In (m ∷ past) (histories (before e)) → numbered e p.link p.number → ⊥
    later [] j a = absurd a
    later (x ∷ xs) j a = omega (arith, below xs (m ∷ past) p.link (suc p.number) j p.second, a.1)

    go : In e (histories past) ⊎ ((e ≡ m ∷ past) ⊎ In (m ∷ past) (histories (before e))) → suc k ≤ suc (latest (last_clock past) m)
    go (inl i) =
        let z : last_clock past p.link ≡ clock_of e = is_last past e p.link p.number i p.first p.second.1 in
        omega (arith, h, z, link_le (last_clock past) m p.link p.second.0)
    go (inr (inl is)) =
        let b : numbered (m ∷ past) p.link p.number = subst (λ x. numbered x p.link p.number) is p.first in
        absurd (omega (arith, b.1, p.second.1))
    go (inr (inr j)) = absurd (later e j p.first)

bound : (run : List Occurrence) (n : ℕ) (e : List Occurrence) → Chain numbered (histories run) n e → n ≤ clock_of e
bound run n e (begins i) = positive run e i
bound run n f (goes_on {n = k} {e = e} c p) = onward run e f k (bound run k e c) p

-- and there is one of this length

more_events : (x : List Occurrence) (set : List (List Occurrence)) (n : ℕ) (e : List Occurrence) → Chain numbered set n e → Chain numbered (x ∷ set) n e
more_events x set n e (begins i) = begins (inr i)
more_events x set n f (goes_on {n = k} {e = e} c p) = goes_on (more_events x set k e c) (record { link = p.link; number = p.number; e_in = inr p.e_in; f_in = inr p.f_in; first = p.first; second = p.second })

-- the last event with a link
record LastWith (run : List Occurrence) (l : Link) : Type 0 where
  event : List Occurrence
  event_in : In event (histories run)
  number : ℕ
  is : numbered event l number
  last : count l run ≡ suc number
  clock : last_clock run l ≡ clock_of event

last_with : (run : List Occurrence) (l : Link) → (last_clock run l ≡ 0) ⊎ LastWith run l
last_with [] l = inl refl
last_with (m ∷ past) l = go (has m l) refl (last_with past l)
  where
    counted : (b : Bool) → has m l ≡ b → count l (m ∷ past) ≡ cond b (suc (count l past)) (count l past)
    counted b f = ap (λ x. cond x (suc (count l past)) (count l past)) f

    clocked : (b : Bool) → has m l ≡ b → last_clock (m ∷ past) l ≡ cond b (suc (latest (last_clock past) m)) (last_clock past l)
    clocked b f = ap (λ x. cond x (suc (latest (last_clock past) m)) (last_clock past l)) f

    go : (b : Bool) → has m l ≡ b → (last_clock past l ≡ 0) ⊎ LastWith past l → (last_clock (m ∷ past) l ≡ 0) ⊎ LastWith (m ∷ past) l
    go true f h = inr (record { event = m ∷ past; event_in = inl refl; number = count l past; is = (f, refl); last = counted true f; clock = clocked true f })
    go false f (inl z) = inl (clocked false f ∙ z)
    go false f (inr w) = inr (record { event = w.event; event_in = inr w.event_in; number = w.number; is = w.is; last = counted false f ∙ w.last; clock = clocked false f ∙ w.clock })

newest : (m : Occurrence) (past : List Occurrence) → ((e : List Occurrence) → In e (histories past) → Chain numbered (histories past) (clock_of e) e) → Chain numbered (histories (m ∷ past)) (suc (latest (last_clock past) m)) (m ∷ past)
newest m past chains = ⊎_elim alone (λ w. ⊎_elim (λ z. alone (sym w.2 ∙ z)) (after w.0 w.1 w.2) (last_with past w.0)) (latest_is (last_clock past) m)
  where
    alone : latest (last_clock past) m ≡ 0 → Chain numbered (histories (m ∷ past)) (suc (latest (last_clock past) m)) (m ∷ past)
    alone z = subst (λ n. Chain numbered (histories (m ∷ past)) (suc n) (m ∷ past)) (sym z) (begins (inl refl))

    after : (l : Link) → has m l ≡ true → last_clock past l ≡ latest (last_clock past) m → LastWith past l → Chain numbered (histories (m ∷ past)) (suc (latest (last_clock past) m)) (m ∷ past)
    after l h e w =
        subst (λ n. Chain numbered (histories (m ∷ past)) (suc n) (m ∷ past)) (sym w.clock ∙ e)
        (goes_on (more_events (m ∷ past) (histories past) (clock_of w.event) w.event (chains w.event w.event_in))
        (record { link = l; number = w.number; e_in = inr w.event_in; f_in = inl refl; first = w.is; second = (h, w.last) }))

chained : (run e : List Occurrence) → In e (histories run) → Chain numbered (histories run) (clock_of e) e
chained [] e i = absurd i
chained (m ∷ past) e (inl is) = subst (λ x. Chain numbered (histories (m ∷ past)) (clock_of x) x) (sym is) (newest m past (chained past))
chained (m ∷ past) e (inr i) = more_events (m ∷ past) (histories past) (clock_of e) e (chained past e i)

pub longest : (past : List Occurrence) (m : Occurrence) → IsClockOf (m ∷ past) (suc (latest (last_clock past) m))
longest past m = record { chain = chained (m ∷ past) (m ∷ past) (inl refl); most = λ n c. bound (m ∷ past) n (m ∷ past) c }

-- and an event has no other clock
pub clock_is : (past : List Occurrence) (m : Occurrence) (clock : ℕ) → IsClockOf (m ∷ past) clock → clock ≡ suc (latest (last_clock past) m)
clock_is past m clock h =
    let l = longest past m in
    omega (arith, h.most (suc (latest (last_clock past) m)) l.chain, l.most clock h.chain)

-- clocks and counts are at most the number of the events

greatest_le : (f : Key → ℕ) (ks : List Key) (n : ℕ) → ((k : Key) → f k ≤ n) → greatest_of f ks ≤ n
greatest_le f [] n h = omega arith
greatest_le f (k ∷ ks) n h = omega (arith, h k, greatest_le f ks n h)

pub latest_le : (f : Link → ℕ) (m : Occurrence) (n : ℕ) → ((l : Link) → f l ≤ n) → latest f m ≤ n
latest_le f m n h = omega (arith, h (OfThread m.thread), greatest_le (λ k. f (OfKey k)) m.keys n (λ k. h (OfKey k)))

pub last_le : (past : List Occurrence) (l : Link) → last_clock past l ≤ length past
last_le [] l = omega arith
last_le (m ∷ past) l = go (has m l) (last_le past l) (latest_le (last_clock past) m (length past) (last_le past))
  where
    go : (b : Bool) → last_clock past l ≤ length past → latest (last_clock past) m ≤ length past → cond b (suc (latest (last_clock past) m)) (last_clock past l) ≤ suc (length past)
    go true h k = omega arith
    go false h k = omega arith

pub count_le : (past : List Occurrence) (l : Link) → count l past ≤ length past
count_le [] l = omega arith
count_le (m ∷ past) l = go (has m l) (count_le past l)
  where
    go : (b : Bool) → count l past ≤ length past → cond b (suc (count l past)) (count l past) ≤ suc (length past)
    go true h = omega arith
    go false h = omega arith
