-- What ties say of names and of keys with tickets.
use Rattle.std.proofs.Common.{◌≡◌, ℕ, suc, ◌+◌, ◌-◌, ◌<◌, true, cond, List, inl, inr, ⊎_elim, refl, sym, ap, ◌∙◌, subst, arith}
use Rattle.std.specs.Prelude.{eqb, ◌⊎◌}
use Rattle.run_events.specs.Class.{number_of}
use Rattle.run_events.specs.declared.key.Class.{Class}
use Rattle.run_events.specs.declared.key.Class.TheVariants.{Mutex, User, Callback, Thread, Pool, Out, Async}
use Rattle.run_events.specs.declared.key.KeyMark.{KeyMark}
use Rattle.run_events.specs.declared.event.EventName.{EventName}
use Rattle.log_closure.specs.declared.tie.Tie.{Tie}
use Rattle.causal_order.specs.Order.{Link, OfThread, OfKey, DirectlyPrecedes}
use Rattle.log_closure.specs.Closed.{IsClosed, IsClosedPart}
use Rattle.log_closure.specs.Events.{HasMark, In, LogEvent, marks, numbered}
use Rattle.log_closure.specs.Growing.{HoldsBefore, IsGrownPart, has_before}
use Rattle.log_closure.specs.Predecessors.{HoldsPredecessors, next}
use Rattle.log_closure.specs.Ties.{earlier, key_tie, keys, listed, needs, thread_tie, ties, ties_of}
use Rattle.log_closure.proofs.Needs.{needed, needs_in}
use Rattle.log_closure.proofs.Numbers.{above}
use Rattle.log_closure.proofs.Order.{in-map, map-in}
use Rattle.log_closure.proofs.Passed.{in_listed, listed_in}
use Rattle.log_closure.proofs.Union.{all_from, all_in, owned, owner}

-- the class of a number
abbrev class_at : ℕ → Class
class_at n = cond (eqb n 1) Mutex (cond (eqb n 2) User (cond (eqb n 3) Callback (cond (eqb n 4) Thread (cond (eqb n 5) Pool (cond (eqb n 6) Out Async)))))

class_back : (c : Class) → class_at (number_of c) ≡ c
class_back Mutex = refl
class_back User = refl
class_back Callback = refl
class_back Thread = refl
class_back Pool = refl
class_back Out = refl
class_back Async = refl

pub number_of-injective : (a b : Class) → number_of a ≡ number_of b → a ≡ b
number_of-injective a b e = sym (class_back a) ∙ ap class_at e ∙ class_back b

pub key_tie-injective : (m n : KeyMark) → key_tie m ≡ key_tie n → m ≡ n
key_tie-injective m n e =
    let c : m.key.class ≡ n.key.class = number_of-injective m.key.class n.key.class (ap (λ (t : Tie). t.class) e) in
    let v : m.key.value ≡ n.key.value = ap (λ (t : Tie). t.value) e in
    let k : m.ticket ≡ n.ticket = ap (λ (t : Tie). t.number) e in
    λ i. record { key = record { class = c i; value = v i }; ticket = k i }

-- keys of events are no threads
pub keyed : (e : LogEvent) (k : Tie) → In k (keys e) → 0 < k.class
keyed e k i =
    let (m, j, is) = map-in key_tie (marks e) k i in
    let a = above m.key.class in let c : k.class ≡ number_of m.key.class = ap (λ (x : Tie). x.class) is in omega (arith, a, c)

pub key_listed : (e : LogEvent) (m : KeyMark) → In m (marks e) → listed (ties e) (key_tie m) ≡ true
key_listed e m i = in_listed (ties e) (key_tie m) (inr (in-map key_tie (marks e) m i))

pub listed_key : (e : LogEvent) (m : KeyMark) → listed (ties e) (key_tie m) ≡ true → In m (marks e)
listed_key e m h =
    ⊎_elim
    (λ is. let a = above m.key.class in let z : number_of m.key.class ≡ 0 = ap (λ (t : Tie). t.class) is in absurd (omega (arith, a, z)))
    (λ j. let (n, k, is) = map-in key_tie (marks e) (key_tie m) j in subst (λ (x : KeyMark). In x (marks e)) (sym (key_tie-injective m n is)) k)
    (listed_in (ties e) (key_tie m) h)

abbrev pub tie_of_thread : ℕ → ℕ → Tie
tie_of_thread t n = record { class = 0; value = t; number = n }

pub listed_thread : (e : LogEvent) (t n : ℕ) → listed (ties e) (tie_of_thread t n) ≡ true → (e.name.thread ≡ t) × (e.name.index ≡ n)
listed_thread e t n h =
    ⊎_elim
    (λ is. (sym (ap (λ (x : Tie). x.value) is), sym (ap (λ (x : Tie). x.number) is)))
    (λ j. absurd (let z = keyed e (tie_of_thread t n) j in omega (arith, z)))
    (listed_in (ties e) (tie_of_thread t n) h)

pub thread_listed : (e : LogEvent) → listed (ties e) (thread_tie e) ≡ true
thread_listed e = in_listed (ties e) (thread_tie e) (inl refl)

-- sets

pub mark_owned : (es : List LogEvent) (m : KeyMark) → HasMark es m → listed (ties_of es) (key_tie m) ≡ true
mark_owned es m (e, i, j) = owned es (key_tie m) e i (key_listed e m j)

pub owned_mark : (es : List LogEvent) (m : KeyMark) → listed (ties_of es) (key_tie m) ≡ true → HasMark es m
owned_mark es m h = let w = owner es (key_tie m) h in (w.event, w.among, listed_key w.event m w.has)

-- a ticket after, in two ways

plus : (n : ℕ) → n + 1 ≡ suc n
plus n = omega arith

pub next_is : (f : LogEvent) (m : KeyMark) → In (next m) (marks f) → numbered f (OfKey m.key) (suc m.ticket)
next_is f m i = subst (λ k. In (record { key = m.key; ticket = k }) (marks f)) (plus m.ticket) i

is_next : (f : LogEvent) (m : KeyMark) → numbered f (OfKey m.key) (suc m.ticket) → In (next m) (marks f)
is_next f m i = subst (λ k. In (record { key = m.key; ticket = k }) (marks f)) (sym (plus m.ticket)) i

-- the set holds the direct predecessors of the event: that of its thread, and those by keys

pub holds_thread : (set : List LogEvent) (f : LogEvent) → HoldsPredecessors set f → (n : ℕ) → f.name.index ≡ n + 1 → (e : LogEvent) × In e set × (e.name ≡ record { thread = f.name.thread; index = n })
holds_thread set f h n is =
    let (e, i, at) = h (OfThread f.name.thread) n (refl, is ∙ plus n) in
    (e, i, λ k. record { thread = at.0 k; index = at.1 k })

pub holds_key : (set : List LogEvent) (f : LogEvent) → HoldsPredecessors set f → (m : KeyMark) → In (next m) (marks f) → HasMark set m
holds_key set f h m i = h (OfKey m.key) m.ticket (next_is f m i)

pub holds_both : (set : List LogEvent) (f : LogEvent) → ((n : ℕ) → f.name.index ≡ n + 1 → (e : LogEvent) × In e set × (e.name ≡ record { thread = f.name.thread; index = n })) → ((m : KeyMark) → In (next m) (marks f) → HasMark set m) → HoldsPredecessors set f
holds_both set f threads keys (OfThread t) n at =
    let (e, i, name) = threads n (at.1 ∙ sym (plus n)) in
    (e, i, (ap (λ (x : EventName). x.thread) name ∙ at.0, ap (λ (x : EventName). x.index) name))
holds_both set f threads keys (OfKey k) n at = keys (record { key = k; ticket = n }) (is_next f (record { key = k; ticket = n }) at)

pub holds_has : (set : List LogEvent) (f : LogEvent) → HoldsPredecessors set f → has_before set f ≡ true
holds_has set f h = all_from (listed (ties_of set)) (needs (ties f)) (λ t i.
    let (s, j, pos, is) = needed (ties f) t i in
    subst (λ (x : Tie). listed (ties_of set) x ≡ true) (sym is) (⊎_elim (λ th. thread s th pos) (λ k. key s k pos) j))
  where
    thread : (s : Tie) → s ≡ thread_tie f → 0 < s.number → listed (ties_of set) (earlier s) ≡ true
    thread s th pos =
        let n : s.number ≡ f.name.index = ap (λ (x : Tie). x.number) th in
        let (e, i, nm) = holds_thread set f h (f.name.index - 1) (omega (arith, n, pos)) in
        let is : thread_tie e ≡ earlier (thread_tie f) = ap (λ (x : EventName). tie_of_thread x.thread x.index) nm in
        subst (λ (x : Tie). listed (ties_of set) x ≡ true) (is ∙ sym (ap earlier th)) (owned set (thread_tie e) e i (thread_listed e))

    key : (s : Tie) → In s (keys f) → 0 < s.number → listed (ties_of set) (earlier s) ≡ true
    key s k pos =
        let (n, j, is) = map-in key_tie (marks f) s k in
        let num : s.number ≡ n.ticket = ap (λ (x : Tie). x.number) is in
        let back : n.ticket ≡ n.ticket - 1 + 1 = omega (arith, num, pos) in
        let m : KeyMark = record { key = n.key; ticket = n.ticket - 1 } in
        let up : n ≡ next m = λ i. record { key = n.key; ticket = back i } in
        subst (λ (x : Tie). listed (ties_of set) x ≡ true) (sym (ap earlier is)) (mark_owned set m (holds_key set f h m (subst (λ (x : KeyMark). In x (marks f)) up j)))

pub has_holds : (set : List LogEvent) (f : LogEvent) → has_before set f ≡ true → HoldsPredecessors set f
has_holds set f h = holds_both set f thread_held key_held
  where
    thread_held : (n : ℕ) → f.name.index ≡ n + 1 → (e : LogEvent) × In e set × (e.name ≡ record { thread = f.name.thread; index = n })
    thread_held n is =
        let need = needs_in (ties f) (thread_tie f) (inl refl) (omega (arith, is)) in
        let w = owner set (earlier (thread_tie f)) (all_in (listed (ties_of set)) (needs (ties f)) h (earlier (thread_tie f)) need) in
        let (t, k) = listed_thread w.event f.name.thread (f.name.index - 1) w.has in
        let k' : w.event.name.index ≡ n = omega (arith, is, k) in
        (w.event, w.among, λ i. record { thread = t i; index = k' i })

    key_held : (m : KeyMark) → In (next m) (marks f) → HasMark set m
    key_held m i =
        let need = needs_in (ties f) (key_tie (next m)) (inr (in-map key_tie (marks f) (next m) i)) (omega arith) in
        let back : m.ticket + 1 - 1 ≡ m.ticket = omega arith in
        let is : earlier (key_tie (next m)) ≡ key_tie m = λ j. record { class = number_of m.key.class; value = m.key.value; number = back j } in
        owned_mark set m (subst (λ (x : Tie). listed (ties_of set) x ≡ true) is (all_in (listed (ties_of set)) (needs (ties f)) h (earlier (key_tie (next m))) need))

pub closed_held : (kept set : List LogEvent) → IsClosed kept set → HoldsBefore kept set
closed_held kept set h e i = ((h e i).0, holds_has set e (h e i).1)

pub held_closed : (kept set : List LogEvent) → HoldsBefore kept set → IsClosed kept set
held_closed kept set h e i = ((h e i).0, has_holds set e (h e i).1)

pub part_meant : (kept part : List LogEvent) → IsGrownPart kept part → IsClosedPart kept part
part_meant kept part h = (
  λ e. (λ i. let (set, c, j) = (h.0 e).0 i in (set, held_closed kept set c, j), λ (set, c, j). (h.0 e).1 (set, closed_held kept set c, j)),
  h.1,
)

-- one event is a direct predecessor of another

pub record Follows (e f : LogEvent) : Type 0 where
  pub tie : Tie
  pub needed : In tie (needs (ties f))
  pub had : listed (ties e) tie ≡ true

-- the event before in the thread, or one that has a key with the ticket before
data Before (e f : LogEvent) : Type 0 where
  by_thread : e.name.thread ≡ f.name.thread → f.name.index ≡ e.name.index + 1 → Before e f
  by_key : (m : KeyMark) → In m (marks e) → In (next m) (marks f) → Before e f

before_follows : (e f : LogEvent) → Before e f → Follows e f
before_follows e f (by_thread t n) =
    let k : e.name.index ≡ f.name.index - 1 = omega (arith, n) in
    let is : thread_tie e ≡ earlier (thread_tie f) = λ i. tie_of_thread (t i) (k i) in
    record { tie = earlier (thread_tie f); needed = needs_in (ties f) (thread_tie f) (inl refl) (omega (arith, n)); had = subst (λ (x : Tie). listed (ties e) x ≡ true) is (thread_listed e) }
before_follows e f (by_key m i j) =
    let back : m.ticket ≡ m.ticket + 1 - 1 = omega arith in
    let is : key_tie m ≡ earlier (key_tie (next m)) = λ k. record { class = number_of m.key.class; value = m.key.value; number = back k } in
    record { tie = earlier (key_tie (next m)); needed = needs_in (ties f) (key_tie (next m)) (inr (in-map key_tie (marks f) (next m) j)) (omega arith); had = subst (λ (x : Tie). listed (ties e) x ≡ true) is (key_listed e m i) }

before_by : (e f : LogEvent) (l : Link) (n : ℕ) → numbered e l n → numbered f l (suc n) → Before e f
before_by e f (OfThread t) n a b = by_thread (a.0 ∙ sym b.0) (omega (arith, a.1, b.1))
before_by e f (OfKey k) n a b = by_key (record { key = k; ticket = n }) a (is_next f (record { key = k; ticket = n }) b)

pub precedes_follows : (set : List LogEvent) (e f : LogEvent) → DirectlyPrecedes numbered set e f → Follows e f
precedes_follows set e f d = before_follows e f (before_by e f d.link d.number d.first d.second)

-- where a needed tie comes from
pub needed_of : (f : LogEvent) (t : Tie) → In t (needs (ties f)) → ((n : ℕ) × (f.name.index ≡ n + 1) × (t ≡ tie_of_thread f.name.thread n)) ⊎ ((m : KeyMark) × In (next m) (marks f) × (t ≡ key_tie m))
needed_of f t i =
    let (s, j, pos, is) = needed (ties f) t i in
    ⊎_elim
    (λ th. let n : s.number ≡ f.name.index = ap (λ (x : Tie). x.number) th in inl (f.name.index - 1, omega (arith, n, pos), is ∙ ap earlier th))
    (λ k. let (n, l, eq) = map-in key_tie (marks f) s k in
    let num : s.number ≡ n.ticket = ap (λ (x : Tie). x.number) eq in
    let back : n.ticket ≡ n.ticket - 1 + 1 = omega (arith, num, pos) in
    let m : KeyMark = record { key = n.key; ticket = n.ticket - 1 } in
    let up : n ≡ next m = λ i. record { key = n.key; ticket = back i } in
    inr (m, subst (λ (x : KeyMark). In x (marks f)) up l, is ∙ ap earlier eq))
    j

pub follows_precedes : (set : List LogEvent) (e f : LogEvent) → In e set → In f set → Follows e f → DirectlyPrecedes numbered set e f
follows_precedes set e f i j w =
    ⊎_elim
    (λ (n, is, t).
    let (a, b) = listed_thread e f.name.thread n (subst (λ (x : Tie). listed (ties e) x ≡ true) t w.had) in
    record { link = OfThread f.name.thread; number = n; e_in = i; f_in = j; first = (a, b); second = (refl, is ∙ plus n) })
    (λ (m, l, t). record { link = OfKey m.key; number = m.ticket; e_in = i; f_in = j; first = listed_key e m (subst (λ (x : Tie). listed (ties e) x ≡ true) t w.had); second = next_is f m l })
    (needed_of f w.tie w.needed)
