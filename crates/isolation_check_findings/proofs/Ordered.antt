-- Lists in strict order, and lists whose items are read.
use Rattle.std.proofs.Common.{◌≡◌, ℕ, zero, suc, ◌<◌, List, [], ◌∷◌, length, map, get_or, refl, ap, arith}
use Rattle.std.specs.Prelude.{Some, None, slice_get, slice_index_or}
use Rattle.std.specs.List.{Contains}
use Rattle.std.specs.List.Sorted.{IsStrictlySortedBy}
use Rattle.std.specs.declared.cmp.Ordering.{Ordering}
use Rattle.std.specs.declared.cmp.Ordering.TheVariants.{Less}
use Rattle.std.proofs.lemmas.List.Elements.{All-from_recursion}

module _ {X : Type 0} (R : X → X → Ordering) where
  pub less_later : (xs : List X) → IsStrictlySortedBy R xs → (i j : ℕ) (d : X) → i < j → j < length xs → R (get_or xs i d) (get_or xs j d) ≡ Less
  unfolding IsStrictlySortedBy
  less_later [] h i j d ij lt = absurd (omega arith)
  less_later (x ∷ xs) h zero zero d ij lt = absurd (omega arith)
  less_later (x ∷ xs) h zero (suc j) d ij lt = All-from_recursion (λ y. R x y ≡ Less) xs h.0 j d (omega arith)
  less_later (x ∷ xs) h (suc i) zero d ij lt = absurd (omega arith)
  less_later (x ∷ xs) h (suc i) (suc j) d ij lt = less_later xs h.1 i j d (omega arith) (omega arith)

module _ {A B : Type 0} (f : A → B) where
  one_read : (xs : List A) (x : B) (k : ℕ) → k < length (map f xs) → slice_index_or (map f xs) k x ≡ x → (e : A) × Contains xs e × (f e ≡ x)
  one_read [] x k lt is = absurd (omega arith)
  one_read (a ∷ xs) x zero lt is = (a, (0, omega arith, refl), is)
  one_read (a ∷ xs) x (suc k) lt is =
      let r = one_read xs x k (omega arith) is in (r.0, (suc r.1.0, omega (arith, r.1.1), r.1.2), r.2)

  -- what is read is read of an item
  pub read_from : (xs : List A) (x : B) → Contains (map f xs) x → (e : A) × Contains xs e × (f e ≡ x)
  read_from xs x h = one_read xs x h.0 h.1 h.2

  one_of : (xs : List A) (e : A) (k : ℕ) → k < length xs → slice_index_or xs k e ≡ e → Contains (map f xs) (f e)
  one_of [] e k lt is = absurd (omega arith)
  one_of (a ∷ xs) e zero lt is = (0, omega arith, ap f is)
  one_of (a ∷ xs) e (suc k) lt is = let r = one_of xs e k (omega arith) is in (suc r.0, omega (arith, r.1), r.2)

  -- each item is read
  pub read_of : (xs : List A) (e : A) → Contains xs e → Contains (map f xs) (f e)
  read_of xs e h = one_of xs e h.0 h.1 h.2

  -- the item that is read at a place
  pub read_at : (xs : List A) (k : ℕ) (x : B) → slice_get (map f xs) k ≡ Some x → (e : A) × (k < length xs) × ((d : A) → get_or xs k d ≡ e) × (f e ≡ x)
  read_at [] k x is = let n : None ≡ Some x = is in cc
  read_at (a ∷ xs) zero x is = (a, omega arith, λ d. refl, let s : Some (f a) ≡ Some x = is in cc)
  read_at (a ∷ xs) (suc k) x is = let r = read_at xs k x is in (r.0, omega (arith, r.1), r.2, r.3)
