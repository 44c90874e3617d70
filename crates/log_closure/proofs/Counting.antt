-- Numbers of ties count events.
use Rattle.std.proofs.Common.{◌≡◌, ℕ, ◌+◌, ◌<◌, Bool, true, false, cond, List, [], ◌∷◌, ◌++◌, map, None, inl, inr, refl, sym, ap, ◌∙◌, subst, arith, append_assoc, append-nil}
use Rattle.std.specs.Prelude.{◌&&◌, ◌||◌, eqb}
use Rattle.std.specs.List.{count_by, list_any}
use Rattle.std.proofs.lemmas.List.Sums.{sum_by-append, sum_by-cons}
use Rattle.std.proofs.lemmas.Bool.{eqb-true}
use Rattle.std.proofs.lemmas.Bool.Decides.{nat_tests}
use Rattle.run_events.specs.Class.{number_of}
use Rattle.run_events.specs.declared.key.Key.{Key}
use Rattle.run_events.specs.declared.key.KeyMark.{KeyMark}
use Rattle.causal_order.specs.Order.{same_key, is_listed}
use Rattle.log_closure.specs.declared.tie.Tie.{Tie}
use Rattle.log_closure.specs.Chains.{CountUp, key_count, thread_count}
use Rattle.log_closure.specs.Events.{In, LogEvent, marks}
use Rattle.log_closure.specs.FirstWrong.{first_wrong, repeats}
use Rattle.log_closure.specs.Ties.{key_tie, keys, listed, thread_tie, ties, ties_of}
use Rattle.log_closure.proofs.Counts.{TiesCount, keys_once, link_count, same_link}
use Rattle.log_closure.proofs.Exact.{In-split}
use Rattle.log_closure.proofs.Meaning.{keyed, tie_of_thread}
use Rattle.log_closure.proofs.Numbers.{above}
use Rattle.log_closure.proofs.Order.{in-map}
use Rattle.log_closure.proofs.Passed.{in_listed, no_repeat, or_none}
use Rattle.log_closure.proofs.Steps.{and_first, and_second}
use Rattle.log_closure.proofs.Union.{In-left, In-right}

count_cons : {A : Type 0} (p : A → Bool) (x : A) (xs : List A) → count_by p (x ∷ xs) ≡ cond (p x) 1 0 + count_by p xs
count_cons p x xs = sum_by-cons (λ (y : _). cond (p y) 1 0) x xs

count-append : {A : Type 0} (p : A → Bool) (xs ys : List A) → count_by p (xs ++ ys) ≡ count_by p xs + count_by p ys
count-append p xs ys = sum_by-append (λ (y : _). cond (p y) 1 0) xs ys

zero_plus : (n : ℕ) → 0 + n ≡ n
zero_plus n = omega arith

count_none : {A : Type 0} (p : A → Bool) (xs : List A) → ((x : A) → In x xs → p x ≡ false) → count_by p xs ≡ 0
count_none p [] h = refl
count_none p (x ∷ xs) h = count_cons p x xs ∙ ap (λ (b : Bool). cond b 1 0 + count_by p xs) (h x (inl refl)) ∙ zero_plus (count_by p xs) ∙ count_none p xs (λ y i. h y (inr i))

other_class : (s t : Tie) → s.class ≡ 0 → 0 < t.class → same_link s t ≡ false
other_class s t z pos = go (eqb s.class t.class) (grind (arith, nat_tests))
  where
    go : (b : Bool) → b ≡ false → (b && eqb s.value t.value) ≡ false
    go false e = refl
    go true e = absurd cc

other_thread : (s t : Tie) → t.class ≡ 0 → 0 < s.class → same_link s t ≡ false
other_thread s t z pos = go (eqb s.class t.class) (grind (arith, nat_tests))
  where
    go : (b : Bool) → b ≡ false → (b && eqb s.value t.value) ≡ false
    go false e = refl
    go true e = absurd cc

-- threads

eqb_flips : (a b : ℕ) → eqb a b ≡ eqb b a
eqb_flips a b = grind (arith, nat_tests)

threads_count : (es : List LogEvent) (t n : ℕ) → link_count (ties_of es) (tie_of_thread t n) ≡ thread_count t es
threads_count [] t n = refl
threads_count (e ∷ es) t n =
    count-append (same_link (tie_of_thread t n)) (ties e) (ties_of es)
    ∙ (λ i. count_cons (same_link (tie_of_thread t n)) (thread_tie e) (keys e) i + threads_count es t n i)
    ∙ ap (λ (k : ℕ). cond (eqb t e.name.thread) 1 0 + k + thread_count t es) (count_none (same_link (tie_of_thread t n)) (keys e) (λ k i. other_class (tie_of_thread t n) k refl (keyed e k i)))
    ∙ ap (λ (b : Bool). cond b 1 0 + 0 + thread_count t es) (eqb_flips t e.name.thread)
    ∙ ap (λ (k : ℕ). k + thread_count t es) (omega arith)
    ∙ sym (count_cons (λ (f : LogEvent). eqb f.name.thread t) e es)

-- keys

count_one : (us ts : List Tie) (q : Tie) (n : ℕ) → repeats us ts ≡ false → ((t : Tie) → In t ts → same_link q t ≡ true → t.number ≡ n) → count_by (same_link q) ts ≡ cond (list_any (same_link q) ts) 1 0
count_one us [] q n h same_number = refl
count_one us (t ∷ ts) q n h same_number = go (same_link q t) refl (λ k. count_one (us ++ t ∷ []) ts q n (or_none (listed us t) _ h).1 k)
  where
    rest : repeats (us ++ t ∷ []) ts ≡ false
    rest = (or_none (listed us t) (repeats (us ++ t ∷ []) ts) h).1

    twin : (s : Tie) → In s ts → same_link q t ≡ true → same_link q s ≡ true → ⊥
    twin s i a b =
        let x = same_number t (inl refl) a in
        let y = same_number s (inr i) b in
        let c : t.class ≡ s.class = sym (eqb-true q.class t.class (and_first _ _ a)) ∙ eqb-true q.class s.class (and_first _ _ b) in
        let v : t.value ≡ s.value = sym (eqb-true q.value t.value (and_second (eqb q.class t.class) _ a)) ∙ eqb-true q.value s.value (and_second (eqb q.class s.class) _ b) in
        let k : t.number ≡ s.number = x ∙ sym y in
        let is : t ≡ s = λ i. record { class = c i; value = v i; number = k i } in
        let off = no_repeat (us ++ t ∷ []) ts rest s i in
        let on = in_listed (us ++ t ∷ []) s (In-right s us (t ∷ []) (inl (sym is))) in
        absurd cc

    none : same_link q t ≡ true → (s : Tie) → In s ts → same_link q s ≡ false
    none a s i = by (same_link q s) refl
      where
        by : (b : Bool) → same_link q s ≡ b → b ≡ false
        by true e = absurd (twin s i a e)
        by false e = refl

    go : (b : Bool) → same_link q t ≡ b → (((s : Tie) → In s ts → same_link q s ≡ true → s.number ≡ n) → count_by (same_link q) ts ≡ cond (list_any (same_link q) ts) 1 0) → count_by (same_link q) (t ∷ ts) ≡ cond (list_any (same_link q) (t ∷ ts)) 1 0
    go true e rec = count_cons (same_link q) t ts ∙ (λ i. cond (e i) 1 0 + count_none (same_link q) ts (none e) i) ∙ ap (λ (b : Bool). cond (b || list_any (same_link q) ts) 1 0) (sym e)
    go false e rec = count_cons (same_link q) t ts ∙ (λ i. cond (e i) 1 0 + rec (λ s j k. same_number s (inr j) k) i) ∙ zero_plus (cond (list_any (same_link q) ts) 1 0) ∙ ap (λ (b : Bool). cond {A = ℕ} (b || list_any (same_link q) ts) 1 0) (sym e)

any-map : {A B : Type 0} (p : B → Bool) (f : A → B) (xs : List A) → list_any p (map f xs) ≡ list_any (λ x. p (f x)) xs
any-map p f [] = refl
any-map p f (x ∷ xs) = ap (λ (b : Bool). p (f x) || b) (any-map p f xs)

key_flips : (j k : Key) → same_key j k ≡ same_key k j
key_flips j k = λ i. eqb_flips (number_of j.class) (number_of k.class) i && eqb_flips j.value k.value i

any_listed : (ms : List KeyMark) (k : Key) → list_any (λ (m : KeyMark). same_key k m.key) ms ≡ is_listed ms k
any_listed [] k = refl
any_listed (m ∷ ms) k = λ i. key_flips k m.key i || any_listed ms k i

keys_count : (es : List LogEvent) (m : KeyMark) → ((e : LogEvent) → In e es → count_by (same_link (key_tie m)) (keys e) ≡ cond (list_any (same_link (key_tie m)) (keys e)) 1 0) → link_count (ties_of es) (key_tie m) ≡ key_count m.key es
keys_count [] m h = refl
keys_count (e ∷ es) m h =
    count-append (same_link (key_tie m)) (ties e) (ties_of es)
    ∙ (λ i. count_cons (same_link (key_tie m)) (thread_tie e) (keys e) i + keys_count es m (λ f j. h f (inr j)) i)
    ∙ ap (λ (b : Bool). cond b 1 0 + count_by (same_link (key_tie m)) (keys e) + key_count m.key es) (other_thread (key_tie m) (thread_tie e) refl (above m.key.class))
    ∙ ap (λ (k : ℕ). 0 + k + key_count m.key es) (h e (inl refl) ∙ ap (λ (b : Bool). cond b 1 0) (any-map (same_link (key_tie m)) key_tie (marks e) ∙ any_listed (marks e) m.key))
    ∙ ap (λ (k : ℕ). k + key_count m.key es) (zero_plus (cond (is_listed (marks e) m.key) 1 0))
    ∙ sym (count_cons (λ (f : LogEvent). is_listed (marks f) m.key) e es)

-- along a list

ties_at : (before es prefix : List LogEvent) (e : LogEvent) (back : List LogEvent) → TiesCount before es → es ≡ prefix ++ e ∷ back → (t : Tie) → In t (ties e) → t.number ≡ link_count (ties_of (before ++ prefix)) t
ties_at before es prefix e back h is = along before prefix (subst (TiesCount before) is h)
  where
    along : (acc more : List LogEvent) → TiesCount acc (more ++ e ∷ back) → (t : Tie) → In t (ties e) → t.number ≡ link_count (ties_of (acc ++ more)) t
    along acc [] k t i = k.0 t i ∙ ap (λ (l : List LogEvent). link_count (ties_of l) t) (sym (append-nil acc))
    along acc (f ∷ more) k t i = along (acc ++ f ∷ []) more k.1 t i ∙ ap (λ (l : List LogEvent). link_count (ties_of l) t) (append_assoc acc (f ∷ []) more)

links_same : (ts : List Tie) (s t : Tie) → same_link s t ≡ true → link_count ts s ≡ link_count ts t
links_same ts s t e = λ k. link_count ts (record { class = eqb-true s.class t.class (and_first (eqb s.class t.class) (eqb s.value t.value) e) k; value = eqb-true s.value t.value (and_second (eqb s.class t.class) (eqb s.value t.value) e) k; number = 0 })

one_of_key : (whole : Bool) (all part : List LogEvent) → first_wrong whole all [] all ≡ None → ((e : LogEvent) → In e part → In e all) → TiesCount [] part → (e : LogEvent) → In e part → (q : Tie) → count_by (same_link q) (keys e) ≡ cond (list_any (same_link q) (keys e)) 1 0
one_of_key whole all part passes sub h e i q =
    let (prefix, back, is) = In-split e part i in
    let (us, apart) = keys_once whole all [] all passes e (sub e i) in
    count_one us (keys e) q (link_count (ties_of prefix) q) apart (λ t j k. ties_at [] part prefix e back h is t (inr j) ∙ sym (links_same (ties_of prefix) q t k))

pub counts_up : (whole : Bool) (all part : List LogEvent) → first_wrong whole all [] all ≡ None → ((e : LogEvent) → In e part → In e all) → TiesCount [] part → CountUp part
counts_up whole all part passes sub h before e after is = (
  ties_at [] part before e after h is (thread_tie e) (inl refl) ∙ threads_count before e.name.thread e.name.index,
  λ m i. ties_at [] part before e after h is (key_tie m) (inr (in-map key_tie (marks e) m i)) ∙ keys_count before m (λ f j. one_of_key whole all part passes sub h f (subst (In f) (sym is) (In-left f before (e ∷ after) j)) (key_tie m)),
)
