-- The end of a list that is kept the other way round.
use Rattle.std.proofs.Common.{◌≡◌, ℕ, zero, suc, ◌-◌, List, [], ◌∷◌, ◌++◌, map, length, take, drop, reverse, refl, sym, ap, ◌∙◌, arith}
use Rattle.std.specs.List.{AllByRecursion}
use Rattle.std.proofs.lemmas.List.{length-append, take_at, length-reverse, length-drop, reverse-append, take-append-drop, drop_at, map-append}

pub drop_reversed : {X : Type 0} → (n : ℕ) (xs : List X) → drop (length xs - n) (reverse xs) ≡ reverse (take n xs)
drop_reversed n xs =
    let parts : reverse xs ≡ reverse (drop n xs) ++ reverse (take n xs) = ap reverse (sym (take-append-drop n xs)) ∙ reverse-append (take n xs) (drop n xs) in
    ap (drop (length xs - n)) parts ∙ drop_at (reverse (drop n xs)) (reverse (take n xs)) (length xs - n) (length-reverse (drop n xs) ∙ length-drop n xs)

-- the last n of a reversed list
pub last_reversed : {X : Type 0} → (n : ℕ) (xs : List X) → drop (length (reverse xs) - n) (reverse xs) ≡ reverse (take n xs)
last_reversed n xs = ap (λ k. drop (k - n) (reverse xs)) (length-reverse xs) ∙ drop_reversed n xs

pub reverse_cons : {X : Type 0} → (x : X) (xs : List X) → reverse (x ∷ xs) ≡ reverse xs ++ x ∷ []
reverse_cons x xs = reverse-append (x ∷ []) xs

pub map_reverse : {X Y : Type 0} → (f : X → Y) (xs : List X) → map f (reverse xs) ≡ reverse (map f xs)
map_reverse f [] = refl
map_reverse f (x ∷ xs) = ap (map f) (reverse_cons x xs) ∙ map-append f (reverse xs) (x ∷ []) ∙ ap (λ ys. ys ++ f x ∷ []) (map_reverse f xs) ∙ sym (reverse_cons (f x) (map f xs))

pub map_both : {X Y Z : Type 0} → (f : Y → Z) (g : X → Y) (h : X → Z) → ((x : X) → f (g x) ≡ h x) → (xs : List X) → map f (map g xs) ≡ map h xs
map_both f g h e [] = refl
map_both f g h e (x ∷ xs) = (λ i. e x i ∷ map_both f g h e xs i)

-- what holds of each element

pub all_append : {X : Type 0} → (P : X → Type 0) (xs ys : List X) → AllByRecursion P xs → AllByRecursion P ys → AllByRecursion P (xs ++ ys)
all_append P [] ys h k = k
all_append P (x ∷ xs) ys h k = (h.0, all_append P xs ys h.1 k)

pub all_drop : {X : Type 0} → (P : X → Type 0) (n : ℕ) (xs : List X) → AllByRecursion P xs → AllByRecursion P (drop n xs)
all_drop P zero xs h = h
all_drop P (suc n) [] h = h
all_drop P (suc n) (x ∷ xs) h = all_drop P n xs h.1

pub all_map : {X Y : Type 0} → (P : X → Type 0) (Q : Y → Type 0) (f : X → Y) → ((x : X) → P x → Q (f x)) → (xs : List X) → AllByRecursion P xs → AllByRecursion Q (map f xs)
all_map P Q f on [] h = tt
all_map P Q f on (x ∷ xs) h = (on x h.0, all_map P Q f on xs h.1)

-- what is left without the last one
pub without_last : {X : Type 0} → (xs before : List X) (x : X) → xs ≡ before ++ x ∷ [] → take (length xs - 1) xs ≡ before
without_last xs before x e =
    let size : length xs - 1 ≡ length before = omega (arith, ap length e, length-append before (x ∷ [])) in
    (λ i. take (size i) (e i)) ∙ take_at before (x ∷ []) (length before) refl
