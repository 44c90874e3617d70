-- A list of a known length, item by item.
use Rattle.std.proofs.Common.{◌≡◌, ℕ, zero, suc, List, [], ◌∷◌, length, slice_index_or, refl, sym, ap, ◌∙◌}

-- so many items from a place on
abbrev pub items : ℕ → ℕ → List ℕ → List ℕ
items zero i xs = []
items (suc n) i xs = slice_index_or xs i 0 ∷ items n (suc i) xs

items_after : (n i : ℕ) (x : ℕ) (xs : List ℕ) → items n (suc i) (x ∷ xs) ≡ items n i xs
items_after zero i x xs = refl
items_after (suc n) i x xs = ap (λ (ys : List ℕ). slice_index_or xs i 0 ∷ ys) (items_after n (suc i) x xs)

items_whole : (xs : List ℕ) → items (length xs) 0 xs ≡ xs
items_whole [] = refl
items_whole (x ∷ xs) = ap (λ (ys : List ℕ). x ∷ ys) (items_after (length xs) 0 x xs ∙ items_whole xs)

pub all_items : (n : ℕ) (xs : List ℕ) → length xs ≡ n → items n 0 xs ≡ xs
all_items n xs is = ap (λ (k : ℕ). items k 0 xs) (sym is) ∙ items_whole xs
