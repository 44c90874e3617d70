-- Short lists, and words.
use Rattle.std.proofs.Common.{◌≡◌, ◌≤◌, ◌<◌, ◌∷◌, [], ℕ, List, Bool, true, false, ◌==◌, map, length, get_or, sym, ◌∙◌, ap, refl, arith}
use Rattle.std.specs.Str.{bytes_eq}
use Rattle.std.proofs.lemmas.Slice.Eq.{bytes_eq-Decides}
use Rattle.std.proofs.lemmas.Bool.{ne_eqb}

pub one_item : {A : Type 0} (xs : List A) (x : A) → 1 ≤ length xs → length xs < 2 → x ≡ get_or xs 0 x → xs ≡ x ∷ []
one_item [] x some few is = absurd (omega arith)
one_item (y ∷ []) x some few is = ap (λ z. z ∷ []) (sym is)
one_item (y ∷ z ∷ zs) x some few is = absurd (omega arith)

pub two_items : {A : Type 0} (xs : List A) (x y : A) → 2 ≤ length xs → length xs < 3 → x ≡ get_or xs 0 x → y ≡ get_or xs 1 y → xs ≡ x ∷ y ∷ []
two_items [] x y some few is it = absurd (omega arith)
two_items (a ∷ []) x y some few is it = absurd (omega arith)
two_items (a ∷ b ∷ []) x y some few is it = ap (λ z. z ∷ b ∷ []) (sym is) ∙ ap (λ z. x ∷ z ∷ []) (sym it)
two_items (a ∷ b ∷ d ∷ ds) x y some few is it = absurd (omega arith)

pub three_items : {A : Type 0} (xs : List A) (x y z : A) → 3 ≤ length xs → length xs < 4 → x ≡ get_or xs 0 x → y ≡ get_or xs 1 y → z ≡ get_or xs 2 z → xs ≡ x ∷ y ∷ z ∷ []
three_items [] x y z some few is it at = absurd (omega arith)
three_items (a ∷ []) x y z some few is it at = absurd (omega arith)
three_items (a ∷ b ∷ []) x y z some few is it at = absurd (omega arith)
three_items (a ∷ b ∷ d ∷ []) x y z some few is it at = ap (λ w. w ∷ b ∷ d ∷ []) (sym is) ∙ ap (λ w. x ∷ w ∷ d ∷ []) (sym it) ∙ ap (λ w. x ∷ y ∷ w ∷ []) (sym at)
three_items (a ∷ b ∷ d ∷ e ∷ es) x y z some few is it at = absurd (omega arith)

pub four_items : {A : Type 0} (xs : List A) (x y z w : A) → 4 ≤ length xs → length xs < 5 → x ≡ get_or xs 0 x → y ≡ get_or xs 1 y → z ≡ get_or xs 2 z → w ≡ get_or xs 3 w → xs ≡ x ∷ y ∷ z ∷ w ∷ []
four_items [] x y z w some few is it at last = absurd (omega arith)
four_items (a ∷ []) x y z w some few is it at last = absurd (omega arith)
four_items (a ∷ b ∷ []) x y z w some few is it at last = absurd (omega arith)
four_items (a ∷ b ∷ d ∷ []) x y z w some few is it at last = absurd (omega arith)
four_items (a ∷ b ∷ d ∷ e ∷ []) x y z w some few is it at last =
    ap (λ k. k ∷ b ∷ d ∷ e ∷ []) (sym is) ∙ ap (λ k. x ∷ k ∷ d ∷ e ∷ []) (sym it) ∙ ap (λ k. x ∷ y ∷ k ∷ e ∷ []) (sym at) ∙ ap (λ k. x ∷ y ∷ z ∷ k ∷ []) (sym last)
four_items (a ∷ b ∷ d ∷ e ∷ f ∷ fs) x y z w some few is it at last = absurd (omega arith)

pub six_items : {A : Type 0} (xs : List A) (a b c d e f : A) → 6 ≤ length xs → length xs < 7 → a ≡ get_or xs 0 a → b ≡ get_or xs 1 b → c ≡ get_or xs 2 c → d ≡ get_or xs 3 d → e ≡ get_or xs 4 e → f ≡ get_or xs 5 f
    → xs ≡ a ∷ b ∷ c ∷ d ∷ e ∷ f ∷ []
six_items [] a b c d e f some few p q r s t u = absurd (omega arith)
six_items (x ∷ []) a b c d e f some few p q r s t u = absurd (omega arith)
six_items (x ∷ y ∷ []) a b c d e f some few p q r s t u = absurd (omega arith)
six_items (x ∷ y ∷ z ∷ []) a b c d e f some few p q r s t u = absurd (omega arith)
six_items (x ∷ y ∷ z ∷ w ∷ []) a b c d e f some few p q r s t u = absurd (omega arith)
six_items (x ∷ y ∷ z ∷ w ∷ v ∷ []) a b c d e f some few p q r s t u = absurd (omega arith)
six_items (x ∷ y ∷ z ∷ w ∷ v ∷ k ∷ []) a b c d e f some few p q r s t u = λ j. sym p j ∷ sym q j ∷ sym r j ∷ sym s j ∷ sym t j ∷ sym u j ∷ []
six_items (x ∷ y ∷ z ∷ w ∷ v ∷ k ∷ l ∷ ls) a b c d e f some few p q r s t u = absurd (omega arith)

pub one_word : {A B : Type 0} (f : A → B) (xs : List A) (x : A) (w : B) → 1 ≤ length xs → length xs < 2 → x ≡ get_or xs 0 x → f x ≡ w → map f xs ≡ w ∷ []
one_word f xs x w some few is e = ap (map f) (one_item xs x some few is) ∙ ap (λ z. z ∷ []) e

pub two_words : {A B : Type 0} (f : A → B) (xs : List A) (x y : A) (w v : B) → 2 ≤ length xs → length xs < 3 → x ≡ get_or xs 0 x → y ≡ get_or xs 1 y → f x ≡ w → f y ≡ v → map f xs ≡ w ∷ v ∷ []
two_words f xs x y w v some few is it e d = ap (map f) (two_items xs x y some few is it) ∙ ap (λ z. z ∷ f y ∷ []) e ∙ ap (λ z. w ∷ z ∷ []) d

pub three_words : {A B : Type 0} (f : A → B) (xs : List A) (x y z : A) (w v u : B) → 3 ≤ length xs → length xs < 4 → x ≡ get_or xs 0 x → y ≡ get_or xs 1 y → z ≡ get_or xs 2 z
    → f x ≡ w → f y ≡ v → f z ≡ u → map f xs ≡ w ∷ v ∷ u ∷ []
three_words f xs x y z w v u some few is it at e d g = ap (map f) (three_items xs x y z some few is it at)
    ∙ ap (λ k. k ∷ f y ∷ f z ∷ []) e ∙ ap (λ k. w ∷ k ∷ f z ∷ []) d ∙ ap (λ k. w ∷ v ∷ k ∷ []) g

pub four_words : {A B : Type 0} (f : A → B) (xs : List A) (x y z k : A) (w v u t : B) → 4 ≤ length xs → length xs < 5 → x ≡ get_or xs 0 x → y ≡ get_or xs 1 y → z ≡ get_or xs 2 z → k ≡ get_or xs 3 k
    → f x ≡ w → f y ≡ v → f z ≡ u → f k ≡ t → map f xs ≡ w ∷ v ∷ u ∷ t ∷ []
four_words f xs x y z k w v u t some few is it at last e d g h = ap (map f) (four_items xs x y z k some few is it at last)
    ∙ ap (λ n. n ∷ f y ∷ f z ∷ f k ∷ []) e ∙ ap (λ n. w ∷ n ∷ f z ∷ f k ∷ []) d ∙ ap (λ n. w ∷ v ∷ n ∷ f k ∷ []) g ∙ ap (λ n. w ∷ v ∷ u ∷ n ∷ []) h

pub six_words : {A B : Type 0} (g : A → B) (xs : List A) (a b c d e f : A) (k l m n o p : B) → 6 ≤ length xs → length xs < 7 → a ≡ get_or xs 0 a → b ≡ get_or xs 1 b → c ≡ get_or xs 2 c → d ≡ get_or xs 3 d → e ≡ get_or xs 4 e → f ≡ get_or xs 5 f
    → g a ≡ k → g b ≡ l → g c ≡ m → g d ≡ n → g e ≡ o → g f ≡ p → map g xs ≡ k ∷ l ∷ m ∷ n ∷ o ∷ p ∷ []
six_words g xs a b c d e f k l m n o p some few h i q r s t u v w x y z =
    ap (map g) (six_items xs a b c d e f some few h i q r s t) ∙ (λ j. u j ∷ v j ∷ w j ∷ x j ∷ y j ∷ z j ∷ [])

pub same_bytes : (a b : List ℕ) → bytes_eq a b ≡ true → a ≡ b
same_bytes a b e = (bytes_eq-Decides a b).0 e

pub is_empty : (text : List ℕ) (test : Bool) → test ≡ (length text == 0) → test ≡ true → text ≡ []
is_empty [] test is on = refl
is_empty (b ∷ bs) test is on = absurd (let zero : false ≡ (length (b ∷ bs) == 0) = (let apart : (length (b ∷ bs) == 0) ≡ false = ne_eqb (length (b ∷ bs)) 0 (λ e. omega arith) in sym apart) in let both : true ≡ false = sym on ∙ is ∙ sym zero in cc)

-- text that isn't empty
pub not_empty : (text : List ℕ) (test : Bool) → test ≡ (length text == 0) → test ≡ false → text ≡ [] → ⊥
not_empty text test is off e = absurd (let both : true ≡ false = (let zero : true ≡ (length text == 0) = rw e refl in zero ∙ sym is ∙ off) in cc)
