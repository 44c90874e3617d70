-- What stands at a place of a list.
use Rattle.std.proofs.Common.{◌≡◌, ℕ, ◌+◌, ◌≤◌, List, ◌∷◌, length, get_or, slice_get, drop, None, Some, ap, ◌∙◌, inl, inr, add-one, drop-cons}
use Rattle.std.proofs.lemmas.Option.{get_or_from_slice_get, slice_get_cases, slice_get_within}

pub typed_next : {A : Type 0} (xs : List A) (k : ℕ) (x : A) → slice_get xs k ≡ Some x → drop k xs ≡ x ∷ drop (k + 1) xs
typed_next xs k x h =
    let one : drop k xs ≡ get_or xs k x ∷ drop (k + 1) xs = rw add-one (drop-cons xs k x (slice_get_within xs k x h)) in
    one ∙ ap (λ z. z ∷ drop (k + 1) xs) (get_or_from_slice_get xs k x x h)

pub past_all : {A : Type 0} (xs : List A) (k : ℕ) → slice_get xs k ≡ None → length xs ≤ k
past_all xs k h = elim (slice_get_cases xs k).1 [ inl w ↦ absurd (none_some xs k w.0 h w.2) | inr w ↦ w.0 ]
  where
    none_some : {A : Type 0} (ys : List A) (j : ℕ) (x : A) → slice_get ys j ≡ None → slice_get ys j ≡ Some x → ⊥
    none_some ys j x e f = cc
