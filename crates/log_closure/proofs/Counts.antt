-- Tickets count up.
use Rattle.std.proofs.Common.{◌≡◌, ℕ, ◌+◌, ◌-◌, ◌<◌, ◌≤◌, Bool, true, false, cond, List, [], ◌∷◌, ◌++◌, None, inl, inr, ⊎_elim, refl, sym, ap, ◌∙◌, subst, arith}
use Rattle.std.specs.Prelude.{◌||◌, ◌&&◌, eqb, ◌↔◌}
use Rattle.std.specs.List.{count_by}
use Rattle.std.proofs.lemmas.Bool.{cases_lt, eqb-true, eq-eqb}
use Rattle.std.proofs.lemmas.List.Sums.{sum_by-append, sum_by-cons}
use Rattle.std.proofs.lemmas.List.Concat.{flat_map-append}
use Rattle.std.proofs.Common.{append_assoc, append-nil}
use Rattle.log_closure.specs.declared.tie.Tie.{Tie}
use Rattle.log_closure.specs.Closed.{Ordered, Precedes}
use Rattle.log_closure.specs.Events.{In, LogEvent}
use Rattle.log_closure.specs.FirstWrong.{first_wrong, repeats}
use Rattle.log_closure.specs.Growing.{HoldsBefore}
use Rattle.log_closure.specs.Ties.{earlier, keys, keys_of, listed, needs, same, thread_tie, ties, ties_of}
use Rattle.log_closure.proofs.Needs.{needs_in}
use Rattle.log_closure.proofs.Numbered.{Numbered}
use Rattle.log_closure.proofs.Passed.{Keyed, else_none, fits, in_listed, is_new, no_repeat, or_none, wrong_none}
use Rattle.log_closure.proofs.Steps.{and_first, and_second, listed_more, same_is}
use Rattle.log_closure.proofs.Strict.{numbered_keyed}
use Rattle.log_closure.proofs.Union.{In-cases, In-left, In-right, all_in, and_both, or_cases, or_right, owned, owner, rises}

-- the two are of one thread or key
abbrev pub same_link : Tie → Tie → Bool
same_link s t = eqb s.class t.class && eqb s.value t.value

abbrev pub link_count : List Tie → Tie → ℕ
link_count ts t = count_by (same_link t) ts

-- each thread and key has the numbers below its count, and no other
abbrev pub Counted : List Tie → Type 0
Counted ts = (t : Tie) → (listed ts t ≡ true) ↔ (t.number < link_count ts t)

-- along these events each number is the count of those before that have the thread or key
abbrev pub TiesCount : List LogEvent → List LogEvent → Type 0
TiesCount before [] = Unit {0}
TiesCount before (e ∷ es) = ((t : Tie) → In t (ties e) → t.number ≡ link_count (ties_of before) t) × TiesCount (before ++ e ∷ []) es

-- the next number of a thread or key is its count
pub next_number : (ts : List Tie) (t : Tie) → Counted ts → listed ts t ≡ false → (0 < t.number → listed ts (earlier t) ≡ true) → t.number ≡ link_count ts t
next_number ts t h new before =
    let ge : link_count ts t ≤ t.number = ⊎_elim (λ lt. absurd (let z = (h t).1 lt in cc)) (λ ge. ge) (cases_lt t.number (link_count ts t)) in
    ⊎_elim (λ pos. let z : t.number - 1 < link_count ts t = (h (earlier t)).0 (before pos) in omega arith) (λ none. omega arith) (cases_lt 0 t.number)

link_more : (ts : List Tie) (t q : Tie) → link_count (ts ++ t ∷ []) q ≡ link_count ts q + cond (same_link q t) 1 0
link_more ts t q = sum_by-append (λ (x : Tie). cond (same_link q x) 1 0) ts (t ∷ []) ∙ ap (λ (n : ℕ). link_count ts q + n) (sum_by-cons (λ (x : Tie). cond (same_link q x) 1 0) t [] ∙ omega arith)

or_left : (a b : Bool) → a ≡ true → (a || b) ≡ true
or_left true b e = refl
or_left false b e = absurd cc

pub counted_more : (ts : List Tie) (t : Tie) → Counted ts → t.number ≡ link_count ts t → Counted (ts ++ t ∷ [])
counted_more ts t h is q = go (same_link q t) refl
  where
    to : (b : Bool) → same_link q t ≡ b → link_count (ts ++ t ∷ []) q ≡ link_count ts q + cond b 1 0
    to b e = link_more ts t q ∙ ap (λ (x : Bool). link_count ts q + cond x 1 0) e

    linked : same_link q t ≡ true → link_count ts q ≡ link_count ts t
    linked e = λ k. link_count ts (record { class = eqb-true q.class t.class (and_first (eqb q.class t.class) (eqb q.value t.value) e) k; value = eqb-true q.value t.value (and_second (eqb q.class t.class) (eqb q.value t.value) e) k; number = 0 })

    same_links : same t q ≡ true → same_link q t ≡ true
    same_links e = let u = same_is t q e in subst (λ (x : Tie). same_link x t ≡ true) u (and_both (eqb t.class t.class) (eqb t.value t.value) (eq-eqb t.class t.class refl) (eq-eqb t.value t.value refl))

    go : (b : Bool) → same_link q t ≡ b → (listed (ts ++ t ∷ []) q ≡ true) ↔ (q.number < link_count (ts ++ t ∷ []) q)
    go true e =
        let n = to true e in let k = linked e in (
          λ l. ⊎_elim (λ a. let z = (h q).0 a in omega (arith, n, z)) (λ a. let z = ap (λ (x : Tie). x.number) (same_is t q a) in omega (arith, n, k, z, is)) (or_cases (listed ts q) (same t q) (sym (listed_more ts t q) ∙ l)),
          λ lt. listed_more ts t q ∙ ⊎_elim (λ a. or_left (listed ts q) (same t q) ((h q).1 a))
              (λ a. or_right (listed ts q) (same t q) (let z : t.number ≡ q.number = omega (arith, n, k, is, lt) in
              and_both _ _ (eq-eqb t.class q.class (sym (eqb-true _ _ (and_first _ _ e)))) (and_both _ _ (eq-eqb t.value q.value (sym (eqb-true _ _ (and_second (eqb q.class t.class) _ e)))) (eq-eqb t.number q.number z))))
              (cases_lt q.number (link_count ts q)),
        )
    go false e =
        let n = to false e in (
          λ l. ⊎_elim (λ a. let z = (h q).0 a in omega (arith, n, z)) (λ a. absurd (let z = same_links a in cc)) (or_cases (listed ts q) (same t q) (sym (listed_more ts t q) ∙ l)),
          λ lt. listed_more ts t q ∙ or_left (listed ts q) (same t q) ((h q).1 (omega (arith, n, lt))),
        )

-- a tie is one event's

-- of two events of a file that passes, a later one has no tie of an earlier one
later_new : (whole : Bool) (all before es : List LogEvent) → Keyed before → Numbered before es → first_wrong whole all before es ≡ None → (e f : LogEvent) → In e before → In f es → (t : Tie) → listed (ties e) t ≡ true → listed (ties f) t ≡ true → ⊥
later_new whole all before [] keyed n h e f i j t a b = absurd j
later_new whole all before (g ∷ es) keyed n h e f i (inl is) t a b =
    let new = is_new before g n.0 keyed n.1 (wrong_none whole all before g (else_none _ _ h).0).0 t (subst (λ (x : LogEvent). listed (ties x) t ≡ true) is b) in
    let old = owned before t e i a in cc
later_new whole all before (g ∷ es) keyed n h e f i (inr j) t a b =
    later_new whole all (before ++ g ∷ []) es (λ x k q m. ⊎_elim (λ y. keyed x y q m) (λ y. ⊎_elim (λ eq. n.1 q (subst (λ (z : LogEvent). In q (keys z)) eq m)) (λ z. absurd z) y) (In-cases x before (g ∷ []) k)) n.2 (else_none _ _ h).1 e f (In-left e before (g ∷ []) i) j t a b

one_event : (whole : Bool) (all before es : List LogEvent) → Keyed before → Numbered before es → first_wrong whole all before es ≡ None → (e f : LogEvent) → In e es → In f es → (t : Tie) → listed (ties e) t ≡ true → listed (ties f) t ≡ true → e ≡ f
one_event whole all before [] keyed n h e f i j t a b = absurd i
one_event whole all before (g ∷ es) keyed n h e f i j t a b =
    let keyed' : Keyed (before ++ g ∷ []) = λ x k q m. ⊎_elim (λ y. keyed x y q m) (λ y. ⊎_elim (λ eq. n.1 q (subst (λ (z : LogEvent). In q (keys z)) eq m)) (λ z. absurd z) y) (In-cases x before (g ∷ []) k) in
    let last : In g (before ++ g ∷ []) = In-right g before (g ∷ []) (inl refl) in
    let rest = (else_none _ _ h).1 in
    ⊎_elim
    (λ p. ⊎_elim (λ q. p ∙ sym q) (λ q. absurd (later_new whole all (before ++ g ∷ []) es keyed' n.2 rest g f last q t (subst (λ (x : LogEvent). listed (ties x) t ≡ true) p a) b)) j)
    (λ p. ⊎_elim (λ q. absurd (later_new whole all (before ++ g ∷ []) es keyed' n.2 rest g e last p t (subst (λ (x : LogEvent). listed (ties x) t ≡ true) q b) a)) (λ q. one_event whole all (before ++ g ∷ []) es keyed' n.2 rest e f p q t a b) j)
    i

repeats_from : (us ts ks : List Tie) → repeats us ks ≡ false → ((k : Tie) → In k ks → listed ts k ≡ false) → repeats ts ks ≡ false
repeats_from us ts [] h new = refl
repeats_from us ts (k ∷ ks) h new =
    let tail = (or_none (listed us k) (repeats (us ++ k ∷ []) ks) h).1 in
    or_both (listed ts k) (repeats (ts ++ k ∷ []) ks) (new k (inl refl))
    (repeats_from (us ++ k ∷ []) (ts ++ k ∷ []) ks tail (λ q i. listed_more ts k q ∙ or_both (listed ts q) (same k q) (new q (inr i)) (or_none (listed us q) (same k q) (sym (listed_more us k q) ∙ no_repeat (us ++ k ∷ []) ks tail q i)).1))
  where
    or_both : (a b : Bool) → a ≡ false → b ≡ false → (a || b) ≡ false
    or_both true b e f = absurd cc
    or_both false b e f = f

counted_all : (ts ks : List Tie) → Counted ts → repeats ts ks ≡ false → ((k : Tie) → In k ks → 0 < k.number → listed ts (earlier k) ≡ true) → Counted (ts ++ ks)
counted_all ts [] h new before = subst Counted (sym (append-nil ts)) h
counted_all ts (k ∷ ks) h new before =
    let parts = or_none (listed ts k) (repeats (ts ++ k ∷ []) ks) new in
    let n = next_number ts k h parts.0 (before k (inl refl)) in
    subst Counted (append_assoc ts (k ∷ []) ks)
    (counted_all (ts ++ k ∷ []) ks (counted_more ts k h n) parts.1 (λ q i pos. listed_more ts k (earlier q) ∙ or_left (listed ts (earlier q)) (same k (earlier q)) (before q (inr i) pos)))

-- a key of an event that passes is not twice in it
pub keys_once : (whole : Bool) (all before es : List LogEvent) → first_wrong whole all before es ≡ None → (e : LogEvent) → In e es → (us : List Tie) × (repeats us (keys e) ≡ false)
keys_once whole all before [] h e i = absurd i
keys_once whole all before (g ∷ es) h e (inl is) = (keys_of before, subst (λ (x : LogEvent). repeats (keys_of before) (keys x) ≡ false) (sym is) (wrong_none whole all before g (else_none _ _ h).0).0)
keys_once whole all before (g ∷ es) h e (inr i) = keys_once whole all (before ++ g ∷ []) es (else_none _ _ h).1 e i

not_itself : (e : LogEvent) → Precedes e e → ⊥
not_itself e (inl a) = absurd (omega arith)
not_itself e (inr a) = absurd (omega (arith, a.1))

ordered_before : (before : List LogEvent) (e : LogEvent) (es : List LogEvent) → Ordered (before ++ e ∷ es) → (w : LogEvent) → In w before → Precedes w e
ordered_before [] e es h w i = absurd i
ordered_before (g ∷ before) e es h w (inl is) = subst (λ (x : LogEvent). Precedes x e) (sym is) (h.0 e (In-right e before (e ∷ es) (inl refl)))
ordered_before (g ∷ before) e es h w (inr i) = ordered_before before e es h.1 w i

ordered_after : (before : List LogEvent) (e : LogEvent) (es : List LogEvent) → Ordered (before ++ e ∷ es) → (w : LogEvent) → In w es → Precedes e w
ordered_after [] e es h w i = h.0 w i
ordered_after (g ∷ before) e es h w i = ordered_after before e es h.1 w i

precedes_clock : (e w : LogEvent) → Precedes e w → e.entry.clock ≤ w.entry.clock
precedes_clock e w (inl a) = omega arith
precedes_clock e w (inr a) = omega (arith, a.0)

once_ties : (ts us : List Tie) (e : LogEvent) → listed ts (thread_tie e) ≡ false → repeats us (keys e) ≡ false → ((k : Tie) → In k (keys e) → listed ts k ≡ false) → ((k : Tie) → In k (keys e) → 0 < k.class) → repeats ts (ties e) ≡ false
once_ties ts us e first once new keyed =
    or_both (listed ts (thread_tie e)) (repeats (ts ++ thread_tie e ∷ []) (keys e)) first
    (repeats_from us (ts ++ thread_tie e ∷ []) (keys e) once (λ k i. listed_more ts (thread_tie e) k ∙ or_both (listed ts k) (same (thread_tie e) k) (new k i) (other k (keyed k i))))
  where
    or_both : (a b : Bool) → a ≡ false → b ≡ false → (a || b) ≡ false
    or_both true b e f = absurd cc
    or_both false b e f = f

    other : (k : Tie) → 0 < k.class → same (thread_tie e) k ≡ false
    other k pos = go (same (thread_tie e) k) refl
      where
        go : (b : Bool) → same (thread_tie e) k ≡ b → b ≡ false
        go false q = refl
        go true q = let z = ap (λ (x : Tie). x.class) (same_is (thread_tie e) k q) in absurd (omega (arith, z, pos))

count_up : (whole : Bool) (all part before es : List LogEvent) → Numbered [] all → first_wrong whole all [] all ≡ None → HoldsBefore all part → Ordered part → part ≡ before ++ es → Counted (ties_of before) → TiesCount before es
count_up whole all part before [] num h closed ord is counted = tt
count_up whole all part before (e ∷ es) num h closed ord is counted =
    let here : In e part = subst (In e) (sym is) (In-right e before (e ∷ es) (inl refl)) in
    let ord' : Ordered (before ++ e ∷ es) = subst Ordered is ord in
    let fit = fits whole all num h in
    let keyed = numbered_keyed [] all num in
    let new : (t : Tie) → In t (ties e) → listed (ties_of before) t ≡ false = λ t i. not_listed (listed (ties_of before) t) (λ l.
    let w = owner before t l in
    let w_in : In w.event part = subst (In w.event) (sym is) (In-left w.event before (e ∷ es) w.among) in
    let eq = one_event whole all [] all (λ x k q m. absurd k) num h w.event e (closed w.event w_in).0 (closed e here).0 t w.has (in_listed (ties e) t i) in
    not_itself e (ordered_before before e es ord' e (subst (λ (x : LogEvent). In x before) eq w.among))) in
    let old : (t : Tie) → In t (ties e) → 0 < t.number → listed (ties_of before) (earlier t) ≡ true = λ t i pos.
    let need = needs_in (ties e) t i pos in
    let w = owner part (earlier t) (all_in (listed (ties_of part)) (needs (ties e)) (closed e here).1 (earlier t) need) in
    let lt = rises all part fit closed e here (earlier t) need w in
    let place : In w.event before = ⊎_elim (λ k. k) (λ k. ⊎_elim (λ eq. let z = ap (λ (x : LogEvent). x.entry.clock) eq in absurd (omega (arith, z, lt))) (λ m. let z = precedes_clock e w.event (ordered_after before e es ord' w.event m) in absurd (omega (arith, z, lt))) k) (In-cases w.event before (e ∷ es) (subst (In w.event) is w.among)) in
    owned before (earlier t) w.event place w.has in
    let (us, once) = keys_once whole all [] all h e (closed e here).0 in
    let apart : repeats (ties_of before) (ties e) ≡ false = once_ties (ties_of before) us e (new (thread_tie e) (inl refl)) once (λ k i. new k (inr i)) (keyed e (closed e here).0) in
    let next : Counted (ties_of (before ++ e ∷ [])) = subst Counted (sym (flat_map-append ties before (e ∷ []) ∙ ap (λ (l : List Tie). ties_of before ++ l) (append-nil (ties e)))) (counted_all (ties_of before) (ties e) counted apart old) in (
      λ t i. next_number (ties_of before) t counted (new t i) (old t i),
      count_up whole all part (before ++ e ∷ []) es num h closed ord (is ∙ sym (append_assoc before (e ∷ []) es)) next,
    )
  where
    not_listed : (b : Bool) → (b ≡ true → ⊥) → b ≡ false
    not_listed true f = absurd (f refl)
    not_listed false f = refl

-- tickets and indices count up along the closed part
pub tickets_count : (whole : Bool) (all part : List LogEvent) → Numbered [] all → first_wrong whole all [] all ≡ None → HoldsBefore all part → Ordered part → TiesCount [] part
tickets_count whole all part num h closed ord = count_up whole all part [] part num h closed ord refl (λ t. (λ l. absurd cc, λ lt. absurd (omega arith)))
