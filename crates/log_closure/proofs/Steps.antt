-- Steps of the passes, over plain values.
use Rattle.std.proofs.Common.{◌≡◌, ◌++◌, ◌∷◌, [], ℕ, ◌+◌, List, Option, Some, None, Bool, true, false, refl, ap, ◌∙◌, sym, cond, arith, ◌<◌, length, take, drop, get_or}
use Rattle.std.specs.Prelude.{◌≤◌, ◌&&◌, ◌||◌, eqb, ltb}
use Rattle.std.specs.declared.cmp.Ordering.{Ordering}
use Rattle.std.specs.Ordering.{nat_cmp, ordering_then, is_eq}
use Rattle.std.specs.BTreeMap.{is_at}
use Rattle.std.proofs.lemmas.Bool.Decides.{nat_tests}
use Rattle.log_closure.specs.declared.tie.Tie.{Tie}
use Rattle.std.specs.Prelude.{Result, Ok, Err, OnOk}
use Rattle.log_closure.specs.declared.error.OrderError.{OrderError}
use Rattle.log_closure.specs.declared.error.OrderError.TheVariants.{Twice, Missing, Clock, Memory}
use Rattle.std.proofs.lemmas.List.{take_more, drop_more}
use Rattle.std.proofs.lemmas.List.Folds.{list_any-append}
use Rattle.std.proofs.Common.{append-nil, subst}
use Rattle.std.proofs.lemmas.List.Concat.{flat_map-append}
use Rattle.std.proofs.lemmas.Bool.{eqb-true}
use Rattle.log_closure.specs.Events.{LogEvent}
use Rattle.log_closure.specs.FirstWrong.{both, clock_at, first_wrong, or_else, wrong}
use Rattle.log_closure.specs.Tables.{Answers, tie_cmp}
use Rattle.log_closure.specs.Ties.{keys, keys_of, listed, same, ties}

pub is_eq_cmp : (a b : ℕ) → is_eq (nat_cmp a b) ≡ eqb a b
is_eq_cmp a b = grind (arith, nat_tests)

pub is_eq_then : (a b : ℕ) (o : Ordering) → is_eq (ordering_then (nat_cmp a b) o) ≡ (eqb a b && is_eq o)
is_eq_then a b o = grind (arith, nat_tests)

pub at_same : (s t : Tie) → is_at (tie_cmp s) t ≡ same s t
at_same s t = simp (is_eq_then, is_eq_cmp)

pub ltb_on : (a b : ℕ) → a < b → true ≡ ltb a b
ltb_on a b h = grind (arith, nat_tests)

pub ltb_off : (a b : ℕ) → b ≤ a → false ≡ ltb a b
ltb_off a b h = grind (arith, nat_tests)

pub both_zero : (r : Option ℕ) → both (Some 0) r ≡ r
both_zero None = refl
both_zero (Some c) = ap (λ (n : ℕ). Some n) (grind arith)

pub or_false : (b : Bool) → (b || false) ≡ b
or_false true = refl
or_false false = refl

pub listed_more : (ts : List Tie) (k q : Tie) → listed (ts ++ k ∷ []) q ≡ (listed ts q || same k q)
listed_more ts k q = list_any-append (λ s. same s q) ts (k ∷ []) ∙ ap (λ (b : Bool). listed ts q || b) (or_false (same k q))

pub and_first : (a b : Bool) → (a && b) ≡ true → a ≡ true
and_first true b e = refl
and_first false b e = absurd cc

pub and_second : (a b : Bool) → (a && b) ≡ true → b ≡ true
and_second true b e = e
and_second false b e = absurd cc

pub same_is : (s t : Tie) → same s t ≡ true → s ≡ t
same_is s t e =
    let c : s.class ≡ t.class = eqb-true _ _ (and_first _ _ e) in
    let r = and_second (eqb s.class t.class) _ e in
    let v : s.value ≡ t.value = eqb-true _ _ (and_first _ _ r) in
    let n : s.number ≡ t.number = eqb-true _ _ (and_second (eqb s.value t.value) _ r) in
    λ i. record { class = c i; value = v i; number = n i }

or_else_assoc : (a b c : Option ℕ) → or_else (or_else a b) c ≡ or_else a (or_else b c)
or_else_assoc None b c = refl
or_else_assoc (Some a) b c = refl

pub clock_at-append : (es fs : List LogEvent) (t : Tie) → clock_at (es ++ fs) t ≡ or_else (clock_at es t) (clock_at fs t)
clock_at-append [] fs t = refl
clock_at-append (e ∷ es) fs t = go (listed (ties e) t) (clock_at-append es fs t)
  where
    go : (b : Bool) → clock_at (es ++ fs) t ≡ or_else (clock_at es t) (clock_at fs t) → cond b (Some e.entry.clock) (clock_at (es ++ fs) t) ≡ or_else (cond b (Some e.entry.clock) (clock_at es t)) (clock_at fs t)
    go true h = refl
    go false h = h

pub seen_at : {A : Type 0} (all : List A) (i : ℕ) (e : A) → i < length all → e ≡ get_or all i e → take (i + 1) all ≡ take i all ++ e ∷ []
seen_at all i e lt is = take_more all i e lt ∙ ap (λ (x : _). take i all ++ x ∷ []) (sym is)

left_at : {A : Type 0} (all : List A) (i : ℕ) (e : A) → i < length all → e ≡ get_or all i e → drop i all ≡ e ∷ drop (i + 1) all
left_at all i e lt is = drop_more all i e lt ∙ ap (λ (x : _). x ∷ drop (i + 1) all) (sym is)

pub keys_more : (before : List LogEvent) (e : LogEvent) → keys_of (before ++ e ∷ []) ≡ keys_of before ++ (keys e)
keys_more before e = flat_map-append (λ (f : LogEvent). (keys f)) before (e ∷ []) ∙ ap (λ (l : List Tie). keys_of before ++ l) (append-nil (keys e))

pub on_ok : {X E : Type 0} {P : Type 0} (r : Result X E) → P → OnOk r P
on_ok (Ok x) p = p
on_ok (Err e) p = tt

pub first_at : (whole : Bool) (all : List LogEvent) (i : ℕ) (e : LogEvent) → i < length all → e ≡ get_or all i e
    → first_wrong whole all (take i all) (drop i all) ≡ or_else (wrong whole all (take i all) e) (first_wrong whole all (take (i + 1) all) (drop (i + 1) all))
first_at whole all i e lt is = ap (first_wrong whole all (take i all)) (left_at all i e lt is) ∙ ap (λ (l : List LogEvent). or_else (wrong whole all (take i all) e) (first_wrong whole all l (drop (i + 1) all))) (sym (seen_at all i e lt is))

pub first_next : (whole : Bool) (all : List LogEvent) (i : ℕ) (e : LogEvent) (r : Result (Unit {0}) OrderError) (u : Unit {0}) → i < length all → e ≡ get_or all i e → r ≡ Ok u → Answers r (wrong whole all (take i all) e)
    → first_wrong whole all (take i all) (drop i all) ≡ first_wrong whole all (take (i + 1) all) (drop (i + 1) all)
first_next whole all i e r u lt is ok h = first_at whole all i e lt is ∙ ap (λ (o : Option OrderError). or_else o (first_wrong whole all (take (i + 1) all) (drop (i + 1) all))) (subst (λ (x : Result (Unit {0}) OrderError). Answers x (wrong whole all (take i all) e)) ok h)

pub answers_or : (r : Result (Unit {0}) OrderError) (x : OrderError) (a b : Option OrderError) → r ≡ Err x → Answers r a → Answers r (or_else a b)
answers_or (Ok u) x a b e h = absurd cc
answers_or (Err Memory) x a b e h = tt
answers_or (Err (Twice n)) x a b e h = ap (λ (o : Option OrderError). or_else o b) h
answers_or (Err (Missing n)) x a b e h = ap (λ (o : Option OrderError). or_else o b) h
answers_or (Err (Clock n)) x a b e h = ap (λ (o : Option OrderError). or_else o b) h

pub first_found : (whole : Bool) (all : List LogEvent) (i : ℕ) (e : LogEvent) (r : Result (Unit {0}) OrderError) (x : OrderError) (w : Option OrderError) → i < length all → e ≡ get_or all i e → r ≡ Err x → Answers r (wrong whole all (take i all) e)
    → w ≡ first_wrong whole all (take i all) (drop i all) → Answers r w
first_found whole all i e r x w lt is err h same = subst (Answers r) (sym (same ∙ first_at whole all i e lt is)) (answers_or r x _ _ err h)
