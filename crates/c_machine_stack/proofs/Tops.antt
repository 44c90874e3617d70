-- The last items of a list are the first ones of it reversed.
use Rattle.std.proofs.Common.{◌≡◌, ℕ, zero, suc, ◌+◌, ◌-◌, ◌<◌, ◌≤◌, ⊎_elim, List, [], ◌∷◌, ◌++◌, length, get_or, take, drop, set, sym, ap, ◌∙◌, refl, arith}
use Rattle.std.specs.Prelude.{reverse}
use Rattle.std.proofs.lemmas.List.{append-nil, take_more, take_all, length-take-le, get_or-take, take-append-drop, reverse-append, reverse-reverse, length-reverse, length-drop, length-set, get_or-set_same, take-set}
use Rattle.std.proofs.lemmas.Bool.{cases_lt}
use Rattle.std.proofs.Math.Seq.{take-append_seam, drop-append_seam}
use Rattle.std.proofs.Math.ListN.{drop_of_length-le}

-- the last is the first
pub last_is_first : {A : Type 0} (xs : List A) (n : ℕ) (d : A) → length xs ≡ n + 1 → reverse xs ≡ get_or xs n d ∷ reverse (take n xs)
last_is_first xs n d e =
    let all : take (n + 1) xs ≡ xs = take_all (n + 1) xs (omega arith) in
    ap reverse (sym all ∙ take_more xs n d (omega arith)) ∙ reverse-append (take n xs) (get_or xs n d ∷ [])

take_less : {A : Type 0} (n : ℕ) (xs : List A) → take n (take (suc n) xs) ≡ take n xs
take_less zero xs = refl
take_less (suc n) [] = refl
take_less (suc n) (x ∷ xs) = ap (λ l. x ∷ l) (take_less n xs)

-- the last two are the first two
pub two_are_first : {A : Type 0} (xs : List A) (n : ℕ) (d e : A) → length xs ≡ n + 2 → reverse xs ≡ get_or xs (n + 1) d ∷ (get_or xs n e ∷ reverse (take n xs))
two_are_first xs n d e h =
    let long : length (take (n + 1) xs) ≡ n + 1 = length-take-le (n + 1) xs (omega arith) in
    let read : get_or (take (n + 1) xs) n e ≡ get_or xs n e = get_or-take (n + 1) xs n e (omega arith) in
    let shorter : take n (take (n + 1) xs) ≡ take n xs = let e : n + 1 ≡ suc n = omega arith in ap (λ m. take n (take m xs)) e ∙ take_less n xs in
    last_is_first xs (n + 1) d (omega arith)
    ∙ ap (λ l. get_or xs (n + 1) d ∷ l) (last_is_first (take (n + 1) xs) n e long ∙ ap (λ y. y ∷ reverse (take n (take (n + 1) xs))) read ∙ ap (λ l. get_or xs n e ∷ reverse l) shorter)

-- the list falls into two parts, each reversed
parts : {A : Type 0} (xs : List A) (n : ℕ) → reverse xs ≡ reverse (drop n xs) ++ reverse (take n xs)
parts xs n = ap reverse (sym (take-append-drop n xs)) ∙ reverse-append (take n xs) (drop n xs)

long_tail : {A : Type 0} (xs : List A) (n : ℕ) → n ≤ length xs → n ≡ length (reverse (drop (length xs - n) xs))
long_tail xs n le = omega (arith, length-reverse (drop (length xs - n) xs), length-drop (length xs - n) xs)

-- the last n, in their order
pub tail_is : {A : Type 0} (xs : List A) (n : ℕ) → drop (length xs - n) xs ≡ reverse (take n (reverse xs))
tail_is xs n = ⊎_elim short long (cases_lt (length xs) n)
  where
    short : length xs < n → drop (length xs - n) xs ≡ reverse (take n (reverse xs))
    short lt =
        let none : length xs - n ≡ 0 = omega arith in
        ap (λ m. drop m xs) none ∙ sym (ap reverse (take_all n (reverse xs) (omega (arith, length-reverse xs))) ∙ reverse-reverse xs)

    long : n ≤ length xs → drop (length xs - n) xs ≡ reverse (take n (reverse xs))
    long le =
        let k = length xs - n in
        sym (ap (λ l. reverse (take n l)) (parts xs k)
        ∙ ap (λ m. reverse (take m (reverse (drop k xs) ++ reverse (take k xs)))) (long_tail xs n le)
        ∙ ap reverse (take-append_seam (reverse (drop k xs)) (reverse (take k xs))) ∙ reverse-reverse (drop k xs))

-- those before the last n
pub prefix_is : {A : Type 0} (xs : List A) (n : ℕ) → reverse (take (length xs - n) xs) ≡ drop n (reverse xs)
prefix_is xs n = ⊎_elim short long (cases_lt (length xs) n)
  where
    short : length xs < n → reverse (take (length xs - n) xs) ≡ drop n (reverse xs)
    short lt =
        let none : length xs - n ≡ 0 = omega arith in
        ap (λ m. reverse (take m xs)) none ∙ sym (drop_of_length-le (reverse xs) (omega (arith, length-reverse xs)))

    long : n ≤ length xs → reverse (take (length xs - n) xs) ≡ drop n (reverse xs)
    long le =
        let k = length xs - n in
        sym (ap (drop n) (parts xs k)
        ∙ ap (λ m. drop m (reverse (drop k xs) ++ reverse (take k xs))) (long_tail xs n le)
        ∙ drop-append_seam (reverse (drop k xs)) (reverse (take k xs)))

-- another last one is another first one
pub last_changed : {A : Type 0} (xs : List A) (n : ℕ) (x : A) → length xs ≡ n + 1 → reverse (set xs n x) ≡ x ∷ drop 1 (reverse xs)
last_changed xs n x e =
    let last : n ≡ length xs - 1 = omega arith in
    last_is_first (set xs n x) n x (length-set xs n x ∙ e)
    ∙ ap (λ y. y ∷ reverse (take n (set xs n x))) (get_or-set_same xs n x x (omega arith))
    ∙ ap (λ l. x ∷ reverse l) (take-set xs n x)
    ∙ ap (λ m. x ∷ reverse (take m xs)) last
    ∙ ap (λ l. x ∷ l) (prefix_is xs 1)

-- the last n again after the list are the first n again before it
pub repeated : {A : Type 0} (xs : List A) (n : ℕ) → reverse (xs ++ drop (length xs - n) xs) ≡ take n (reverse xs) ++ reverse xs
repeated xs n = reverse-append xs (drop (length xs - n) xs) ∙ ap (λ l. l ++ reverse xs) (ap reverse (tail_is xs n) ∙ reverse-reverse (take n (reverse xs)))

-- the list without the item before the last n
pub one_gone : {A : Type 0} (xs : List A) (n k : ℕ) → k + n + 1 ≡ length xs → reverse (take k xs ++ drop (k + 1) xs) ≡ take n (reverse xs) ++ drop (n + 1) (reverse xs)
one_gone xs n k e =
    let last : k + 1 ≡ length xs - n = omega arith in
    let before : k ≡ length xs - (n + 1) = omega arith in
    reverse-append (take k xs) (drop (k + 1) xs)
    ∙ ap (λ l. l ++ reverse (take k xs)) (ap (λ m. reverse (drop m xs)) last ∙ ap reverse (tail_is xs n) ∙ reverse-reverse (take n (reverse xs)))
    ∙ ap (λ l. take n (reverse xs) ++ l) (ap (λ m. reverse (take m xs)) before ∙ prefix_is xs (n + 1))

-- where there are no more than n, none is gone
pub none_gone : {A : Type 0} (xs : List A) (n : ℕ) → length xs ≤ n → reverse xs ≡ take n (reverse xs) ++ drop (n + 1) (reverse xs)
none_gone xs n le =
    let few : length (reverse xs) ≤ n = omega (arith, length-reverse xs) in
    sym (ap (λ l. l ++ drop (n + 1) (reverse xs)) (take_all n (reverse xs) few) ∙ ap (λ l. reverse xs ++ l) (drop_of_length-le (reverse xs) (omega (arith, few))) ∙ append-nil (reverse xs))
