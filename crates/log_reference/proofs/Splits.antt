-- Lists that are split at an item, and what holds of each item that stands before a place.
use Rattle.std.proofs.Common.{◌≡◌, ℕ, zero, suc, ◌+◌, ◌<◌, ◌≤◌, List, [], ◌∷◌, ◌++◌, length, get_or, take, drop, inl, inr, ⊎_elim, refl, sym, ap, ◌∙◌, subst, arith, append_assoc}
use Rattle.std.specs.Prelude.{◌⊎◌}
use Rattle.std.proofs.lemmas.List.{take_more, take_all, take-append-drop}
use Rattle.log_closure.specs.Events.{In}

-- the items before a place

pub In-cases : {A : Type 0} (x : A) (xs ys : List A) → In x (xs ++ ys) → In x xs ⊎ In x ys
In-cases x [] ys i = inr i
In-cases x (z ∷ xs) ys (inl e) = inl (inl e)
In-cases x (z ∷ xs) ys (inr i) = ⊎_elim (λ j. inl (inr j)) (λ j. inr j) (In-cases x xs ys i)

pub In-get : {A : Type 0} (xs : List A) (i : ℕ) (d : A) → i < length xs → In (get_or xs i d) xs
In-get [] i d lt = absurd (omega arith)
In-get (x ∷ xs) zero d lt = inl refl
In-get (x ∷ xs) (suc i) d lt = inr (In-get xs i d (omega arith))

-- P holds of each of the items
abbrev pub Holds : {A : Type 0} → (A → Type 0) → List A → Type 0
Holds {A} P xs = (x : A) → In x xs → P x

pub holds_more : {A : Type 0} (P : A → Type 0) (xs : List A) (i : ℕ) (d : A) → i < length xs → Holds P (take i xs) → P (get_or xs i d) → Holds P (take (i + 1) xs)
holds_more P xs i d lt all here x j =
    ⊎_elim
    (λ old. all x old)
    (λ new. ⊎_elim (λ is. subst P (sym is) here) (λ none. absurd none) new)
    (In-cases x (take i xs) (get_or xs i d ∷ []) (subst (In x) (take_more xs i d lt) j))

pub holds_all : {A : Type 0} (P : A → Type 0) (xs : List A) (i : ℕ) → length xs ≤ i → Holds P (take i xs) → Holds P xs
holds_all P xs i le all = subst (Holds P) (take_all i xs le) all

-- splits

pub no_split : {A : Type 0} (before : List A) (x : A) (after : List A) → [] ≡ before ++ x ∷ after → ⊥
no_split [] x after is = absurd cc
no_split (y ∷ before) x after is = absurd cc

pub In-split : {A : Type 0} (x : A) (xs : List A) → In x xs → (before after : List A) × (xs ≡ before ++ x ∷ after)
In-split x [] i = absurd i
In-split x (y ∷ xs) (inl e) = ([], xs, ap (λ (z : _). z ∷ xs) (sym e))
In-split x (y ∷ xs) (inr i) = let (before, after, e) = In-split x xs i in (y ∷ before, after, ap (λ (l : List _). y ∷ l) e)

pub split-in : {A : Type 0} (before : List A) (x : A) (after : List A) → In x (before ++ x ∷ after)
split-in [] x after = inl refl
split-in (y ∷ before) x after = inr (split-in before x after)

pub split_last : {A : Type 0} (prefix : List A) (e : A) (b : List A) (x : A) (a : List A) → prefix ++ e ∷ [] ≡ b ++ x ∷ a → ((prefix ≡ b) × (e ≡ x)) ⊎ ((more : List A) × (prefix ≡ b ++ x ∷ more))
split_last [] e [] x a is = inl (refl, cc)
split_last [] e (y ∷ b) x a is = absurd (no_split b x a cc)
split_last (f ∷ prefix) e [] x a is = let h : f ≡ x = cc in inr (prefix, λ i. h i ∷ prefix)
split_last (f ∷ prefix) e (y ∷ b) x a is =
    let h : f ≡ y = cc in
    let t : prefix ++ e ∷ [] ≡ b ++ x ∷ a = cc in
    ⊎_elim
    (λ (p, q). inl ((λ i. h i ∷ p i), q))
    (λ (more, p). inr (more, λ i. h i ∷ p i))
    (split_last prefix e b x a t)

-- of two splits of a list one is before the other, or they are one
pub splits : {A : Type 0} (b : List A) (x : A) (a : List A) (c : List A) (y : A) (d : List A) → b ++ x ∷ a ≡ c ++ y ∷ d → ((b ≡ c) × (x ≡ y)) ⊎ (((more : List A) × (c ≡ b ++ x ∷ more)) ⊎ ((more : List A) × (b ≡ c ++ y ∷ more)))
splits [] x a [] y d is = inl (refl, cc)
splits [] x a (z ∷ c) y d is = let h : z ≡ x = cc in inr (inl (c, λ i. h i ∷ c))
splits (w ∷ b) x a [] y d is = let h : w ≡ y = cc in inr (inr (b, λ i. h i ∷ b))
splits (w ∷ b) x a (z ∷ c) y d is =
    let h : w ≡ z = cc in
    let t : b ++ x ∷ a ≡ c ++ y ∷ d = cc in
    ⊎_elim
    (λ (p, q). inl ((λ i. h i ∷ p i), q))
    (λ o. ⊎_elim (λ (more, p). inr (inl (more, λ i. sym h i ∷ p i))) (λ (more, p). inr (inr (more, λ i. h i ∷ p i))) o)
    (splits b x a c y d t)

-- at each split P holds of what stands before it, and of the item
abbrev pub Each : {A : Type 0} → (List A → A → Type 0) → List A → Type 0
Each {A} P xs = (before : List A) (x : A) (after : List A) → xs ≡ before ++ x ∷ after → P before x

pub each_none : {A : Type 0} (P : List A → A → Type 0) → Each P []
each_none P before x after is = absurd (no_split before x after is)

pub each_more : {A : Type 0} (P : List A → A → Type 0) (prefix : List A) (e : A) → Each P prefix → P prefix e → Each P (prefix ++ e ∷ [])
each_more P prefix e all here b x a is =
    ⊎_elim
    (λ (p, q). subst (P b) q (subst (λ (l : List _). P l e) p here))
    (λ (more, p). all b x more p)
    (split_last prefix e b x a is)

pub split_at : {A : Type 0} (xs : List A) (i : ℕ) (d : A) → i < length xs → xs ≡ take i xs ++ get_or xs i d ∷ drop (i + 1) xs
split_at xs i d lt =
    sym (take-append-drop (i + 1) xs) ∙ ap (λ (l : List _). l ++ drop (i + 1) xs) (take_more xs i d lt) ∙ append_assoc (take i xs) (get_or xs i d ∷ []) (drop (i + 1) xs)

pub each_at : {A : Type 0} (P : List A → A → Type 0) (xs : List A) (i : ℕ) (d : A) → i < length xs → Each P (take i xs) → P (take i xs) (get_or xs i d) → Each P (take (i + 1) xs)
each_at P xs i d lt all here = subst (Each P) (sym (take_more xs i d lt)) (each_more P (take i xs) (get_or xs i d) all here)

pub each_all : {A : Type 0} (P : List A → A → Type 0) (xs : List A) (i : ℕ) → length xs ≤ i → Each P (take i xs) → Each P xs
each_all P xs i le all = subst (Each P) (take_all i xs le) all
