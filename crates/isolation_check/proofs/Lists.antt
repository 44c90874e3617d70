-- Lists that are made one after another.
use Rattle.std.proofs.Common.{◌≡◌, ℕ, suc, ◌+◌, ◌<◌, List, [], ◌∷◌, ◌++◌, length, map, drop, get_or, add-one, refl, sym, ap, ◌∙◌, arith}
use Rattle.std.specs.List.{range_with_len}
use Rattle.std.proofs.Math.Seq.{drop-cons}
use Rattle.std.proofs.lemmas.List.FromFn.{map-range_with_len_more}

-- those from a place on
pub one_more : {A : Type 0} (xs : List A) (i : ℕ) (x : A) → i < length xs → x ≡ get_or xs i x → drop i xs ≡ x ∷ drop (i + 1) xs
one_more {A} xs i x lt is =
    drop-cons xs i x lt ∙ (ap (λ (y : A). y ∷ drop (suc i) xs) (sym is) ∙ ap (λ (n : ℕ). x ∷ drop n xs) (sym (add-one i)))

-- one that is put, and those that are left
pub put_one : {A : Type 0} (xs : List A) (x : A) (rest whole : List A) → xs ++ x ∷ rest ≡ whole → (xs ++ x ∷ []) ++ rest ≡ whole
put_one [] x rest whole e = e
put_one (y ∷ ys) x rest whole e = put_one' y ys x rest ∙ e
  where
    put_one' : {A : Type 0} (y : A) (ys : List A) (x : A) (rest : List A) → ((y ∷ ys) ++ x ∷ []) ++ rest ≡ (y ∷ ys) ++ x ∷ rest
    put_one' y [] x rest = refl
    put_one' y (z ∷ ys) x rest = ap (λ l. y ∷ l) (put_one' z ys x rest)

-- the same of what they stand for
pub put_mapped : {A B : Type 0} (f : A → B) (xs : List A) (x : A) (y : B) (rest whole : List B) → f x ≡ y → map f xs ++ y ∷ rest ≡ whole → map f (xs ++ x ∷ []) ++ rest ≡ whole
put_mapped {A} {B} f xs x y rest whole e h = over xs ∙ (ap (λ (z : B). map f xs ++ z ∷ rest) e ∙ h)
  where
    over : (zs : List A) → map f (zs ++ x ∷ []) ++ rest ≡ map f zs ++ f x ∷ rest
    over [] = refl
    over (z ∷ zs) = ap (λ l. f z ∷ l) (over zs)

-- what a function gives of one number more
pub one_number : {A : Type 0} (g : ℕ → A) (n : ℕ) (xs : List A) (x : A) → xs ≡ map g (range_with_len 0 n) → x ≡ g n → xs ++ x ∷ [] ≡ map g (range_with_len 0 (n + 1))
one_number {A} g n xs x h e =
    let here : 0 + n ≡ n = omega arith in
    ap (λ (ys : List A). ys ++ x ∷ []) h ∙ (ap (λ (y : A). map g (range_with_len 0 n) ++ y ∷ []) e ∙ sym (map-range_with_len_more g 0 n n here))
