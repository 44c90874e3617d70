-- Sets that have the same members are the same list.
use Rattle.std.proofs.Common.{◌≡◌, ℤ, suc, Bool, true, false, cond, not, ◌&&◌, ◌||◌, [], ◌∷◌, refl, sym, ap, subst, ◌∙◌, arith}
use Rattle.std.specs.Prelude.{filter, get_or, int_lt}
use Rattle.std.specs.List.{All}
use Rattle.std.specs.Ordering.{int_eq, is_eq}
use Rattle.std.specs.declared.cmp.Ordering.TheVariants.{Less, Equal, Greater}
use Rattle.std.proofs.lemmas.Bool.Decides.{Decides-int_eq}
use Rattle.std.proofs.lemmas.List.Elements.{All-cons}
use Rattle.std.proofs.lemmas.List.Folds.{list_any-append, list_any_none}
use Rattle.lockset_check_rules.specs.Mutexes.{Locks, is_held, shared, with_lock, without_lock}
use Rattle.lockset_check_held.specs.Ascending.{Ascends}
use Rattle.lockset_check_held.proofs.Places.{differs_above, not_back, under, with_ascends, without_ascends}

abbrev Below : ℤ → ℤ → Type 0
Below m k = int_lt m k ≡ true

pub first_below : (m : ℤ) (s : Locks) → Ascends (m ∷ s) → All (λ k. int_lt m k ≡ true) s
first_below m s up j d lt = up 0 (suc j) d (omega arith) (omega arith)

pub rest_ascends : (m : ℤ) (s : Locks) → Ascends (m ∷ s) → Ascends s
rest_ascends m s up i j d lt inside = up (suc i) (suc j) d (omega arith) (omega arith)

pub is_itself : (m : ℤ) → int_eq m m ≡ true
is_itself m = (Decides-int_eq m m).1 refl

pub same_number : (m k : ℤ) → int_eq m k ≡ true → m ≡ k
same_number m k = (Decides-int_eq m k).0

pub none_held : (m : ℤ) (s : Locks) → All (λ k. int_eq k m ≡ false) s → is_held m s ≡ false
none_held m s h = list_any_none (λ k. int_eq k m) s h

pub not_above : (m : ℤ) (s : Locks) → All (λ k. int_lt m k ≡ true) s → is_held m s ≡ false
not_above m s h = none_held m s (λ j d lt. let x = get_or s j d in differs_above x m (h j d lt) (not_back m x (h j d lt)))

-- ---- what is held after a change

first_is : (m k : ℤ) (s : Locks) (b : Bool) → int_eq k m ≡ b → is_held m (k ∷ s) ≡ (b || is_held m s)
first_is m k s b e = ap (λ (c : Bool). c || is_held m s) e

kept_or_not : (q : ℤ → Bool) (m k : ℤ) (s : Locks) → is_held m (filter q s) ≡ (q m && is_held m s)
    → (a b : Bool) → q k ≡ a → int_eq k m ≡ b → is_held m (cond a (k ∷ filter q s) (filter q s)) ≡ (q m && (b || is_held m s))
kept_or_not q m k s h true true e f =
    let here : q m ≡ true = ap q (sym (same_number k m f)) ∙ e in
    first_is m k (filter q s) true f ∙ ap (λ (c : Bool). c && true) (sym here)
kept_or_not q m k s h true false e f = first_is m k (filter q s) false f ∙ h
kept_or_not q m k s h false true e f =
    let here : q m ≡ false = ap q (sym (same_number k m f)) ∙ e in
    h ∙ (ap (λ (c : Bool). c && is_held m s) here ∙ ap (λ (c : Bool). c && true) (sym here))
kept_or_not q m k s h false false e f = h

pub held_among : (q : ℤ → Bool) (m : ℤ) (s : Locks) → is_held m (filter q s) ≡ (q m && is_held m s)
held_among q m [] = never (q m)
  where
    never : (b : Bool) → false ≡ (b && false)
    never true = refl
    never false = refl
held_among q m (k ∷ s) = kept_or_not q m k s (held_among q m s) (q k) (int_eq k m) refl refl

parts : (a b h : Bool) → ((b && h) || (is_eq (cond a Less (cond b Greater Equal)) || (a && h))) ≡ (is_eq (cond a Less (cond b Greater Equal)) || h)
parts true true true = refl
parts true true false = refl
parts true false h = refl
parts false true true = refl
parts false true false = refl
parts false false h = refl

pub held_with : (k m : ℤ) (s : Locks) → is_held m (with_lock k s) ≡ (int_eq k m || is_held m s)
held_with k m s =
    list_any-append (λ n. int_eq n m) (filter (λ n. int_lt n k) s) (k ∷ filter (λ n. int_lt k n) s)
    ∙ ((λ t. held_among (λ n. int_lt n k) m s t || (int_eq k m || held_among (λ n. int_lt k n) m s t))
    ∙ parts (int_lt k m) (int_lt m k) (is_held m s))

pub held_without : (k m : ℤ) (s : Locks) → is_held m (without_lock k s) ≡ (not (int_eq m k) && is_held m s)
held_without k m s = held_among (λ n. not (int_eq n k)) m s

pub held_shared : (m : ℤ) (s t : Locks) → is_held m (shared s t) ≡ (is_held m t && is_held m s)
held_shared m s t = held_among (λ n. is_held n t) m s

-- ---- the same members

differ : {A : Type 0} (b : Bool) → true ≡ b → b ≡ false → A
differ b e f = absurd (let h : true ≡ false = e ∙ f in cc)

head_held : (m : ℤ) (s : Locks) → is_held m (m ∷ s) ≡ true
head_held m s = ap (λ (c : Bool). c || is_held m s) (is_itself m)

-- the least member of one set is none of another whose members are all above it
apart : {A : Type 0} (x y : ℤ) (s t : Locks) → Ascends (y ∷ t) → int_lt x y ≡ true → is_held x (x ∷ s) ≡ is_held x (y ∷ t) → A
apart x y s t up lt h =
    let above : All (λ k. int_lt x k ≡ true) (y ∷ t) = All-cons (λ k. int_lt x k ≡ true) y t lt
    (λ j d inside. under x y (get_or t j d) lt (first_below y t up j d inside)) in
    differ (is_held x (y ∷ t)) (sym (head_held x s) ∙ h) (not_above x (y ∷ t) above)

rest_same : (x : ℤ) (s t : Locks) → Ascends (x ∷ s) → Ascends (x ∷ t) → ((m : ℤ) → is_held m (x ∷ s) ≡ is_held m (x ∷ t)) → (m : ℤ) → is_held m s ≡ is_held m t
rest_same x s t a b h m = by (int_eq x m) refl
  where
    by : (c : Bool) → int_eq x m ≡ c → is_held m s ≡ is_held m t
    by true e =
        let here = same_number x m e in
        subst (λ (n : ℤ). is_held n s ≡ is_held n t) here (not_above x s (first_below x s a) ∙ sym (not_above x t (first_below x t b)))
    by false e = sym (first_is m x s false e) ∙ (h m ∙ first_is m x t false e)

pub same_members : (s t : Locks) → Ascends s → Ascends t → ((m : ℤ) → is_held m s ≡ is_held m t) → s ≡ t
same_members [] [] a b h = refl
same_members [] (y ∷ t) a b h = differ false (sym (head_held y t) ∙ sym (h y)) refl
same_members (x ∷ s) [] a b h = differ false (sym (head_held x s) ∙ h x) refl
same_members (x ∷ s) (y ∷ t) a b h = by (λ c d all. same_members s t c d all) (int_lt x y) (int_lt y x) refl refl
  where
    by : (Ascends s → Ascends t → ((m : ℤ) → is_held m s ≡ is_held m t) → s ≡ t)
        → (c d : Bool) → int_lt x y ≡ c → int_lt y x ≡ d → (x ∷ s) ≡ (y ∷ t)
    by rest true d e f = apart x y s t b e (h x)
    by rest false true e f = apart y x t s a f (sym (h y))
    by rest false false e f =
        let eq : int_eq x y ≡ true = λ j. is_eq (cond (e j) Less (cond (f j) Greater Equal)) in
        let here : x ≡ y = same_number x y eq in
        let up : Ascends (x ∷ t) = subst (λ (n : ℤ). Ascends (n ∷ t)) (sym here) b in
        let all : (m : ℤ) → is_held m (x ∷ s) ≡ is_held m (x ∷ t) = λ m. h m ∙ ap (λ (n : ℤ). is_held m (n ∷ t)) (sym here) in
        let same : s ≡ t = rest (rest_ascends x s a) (rest_ascends y t b) (rest_same x s t a up all) in
        λ j. here j ∷ same j

-- ---- changes of nothing

-- one that is held is taken
pub taken_again : (m : ℤ) (s : Locks) → Ascends s → is_held m s ≡ true → with_lock m s ≡ s
taken_again m s up h = same_members (with_lock m s) s (with_ascends m s up) up (λ k. held_with m k s ∙ by k (int_eq m k) refl)
  where
    by : (k : ℤ) (c : Bool) → int_eq m k ≡ c → (int_eq m k || is_held k s) ≡ is_held k s
    by k true e = ap (λ (c : Bool). c || is_held k s) e ∙ sym (sym (ap (λ (n : ℤ). is_held n s) (same_number m k e)) ∙ h)
    by k false e = ap (λ (c : Bool). c || is_held k s) e

-- one that isn't held is given back
pub given_again : (m : ℤ) (s : Locks) → Ascends s → is_held m s ≡ false → without_lock m s ≡ s
given_again m s up h =
    same_members (without_lock m s) s (without_ascends m s (without_lock m s) up refl) up
    (λ k. held_without m k s ∙ by k (int_eq k m) refl)
  where
    by : (k : ℤ) (c : Bool) → int_eq k m ≡ c → (not (int_eq k m) && is_held k s) ≡ is_held k s
    by k true e = ap (λ (c : Bool). not c && is_held k s) e ∙ sym (ap (λ (n : ℤ). is_held n s) (same_number k m e) ∙ h)
    by k false e = ap (λ (c : Bool). not c && is_held k s) e
