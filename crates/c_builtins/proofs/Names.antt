-- Going along a list to the first element that passes, and the builtin of a name.
use Rattle.std.proofs.Common.{◌≡◌, ℕ, suc, ◌+◌, ◌<◌, ◌≤◌, ◌↔◌, Bool, true, false, cond, List, [], ◌∷◌, length, drop, get_or, drop-cons, add-one, Option, Some, None, refl, sym, subst, nat_eq}
use Rattle.std.proofs.lemmas.List.{drop_all}
use Rattle.std.proofs.lemmas.Slice.Eq.{bytes_eq-Decides}
use Rattle.std.specs.List.{find}
use Rattle.std.specs.Cmp.Lexicographic.{pointwise}
use Rattle.c_builtins.specs.declared.builtin.Builtin.{Builtin}
use Rattle.c_builtins.specs.declared.builtin.Builtin.TheVariants.{Malloc, Free, Spawn, Join, Lock, Unlock, Print}
use Rattle.c_builtins.specs.Table.{name_of}

pub find_on : {X : Type 0} (p : X → Bool) (xs : List X) (i : ℕ) (d : X) (t : Option X) → i < length xs → p (get_or xs i d) ≡ false → find p (drop i xs) ≡ t → find p (drop (i + 1) xs) ≡ t
find_on p xs i d t lt e h = let k : find p (drop (suc i) xs) ≡ t = rw (drop-cons xs i d lt, e) at h in rw add-one k

pub find_stop : {X : Type 0} (p : X → Bool) (xs : List X) (i : ℕ) (d : X) (t : Option X) → i < length xs → p (get_or xs i d) ≡ true → find p (drop i xs) ≡ t → Some (get_or xs i d) ≡ t
find_stop p xs i d t lt e h = rw (drop-cons xs i d lt, e) at h

pub find_end : {X : Type 0} (p : X → Bool) (xs : List X) (i : ℕ) (t : Option X) → length xs ≤ i → find p (drop i xs) ≡ t → None ≡ t
find_end p xs i t past h = rw (drop_all i xs past) at h

-- what is found passes
find-passes : {X : Type 0} (p : X → Bool) (xs : List X) (x : X) → find p xs ≡ Some x → p x ≡ true
find-passes p [] x e = cc
find-passes {X} p (y ∷ ys) x e = by (find-passes p ys x) (p y) refl e
  where
    by : (find p ys ≡ Some x → p x ≡ true) → (t : Bool) → p y ≡ t → cond t (Some y) (find p ys) ≡ Some x → p x ≡ true
    by later true s h = let same : y ≡ x = cc in let holds : X → Type 0 = λ z. p z ≡ true in subst holds same s
    by later false s h = later h

pub named : List ℕ → Option Builtin
named name = find (λ b. pointwise nat_eq name (name_of b)) (Malloc ∷ Free ∷ Spawn ∷ Join ∷ Lock ∷ Unlock ∷ Print ∷ [])

by_own_name : (b : Builtin) → named (name_of b) ≡ Some b
unfolding named
by_own_name Malloc = refl
by_own_name Free = refl
by_own_name Spawn = refl
by_own_name Join = refl
by_own_name Lock = refl
by_own_name Unlock = refl
by_own_name Print = refl

pub named_exactly : (name : List ℕ) (r : Option Builtin) → r ≡ find (λ b. pointwise nat_eq name (name_of b)) (Malloc ∷ Free ∷ Spawn ∷ Join ∷ Lock ∷ Unlock ∷ Print ∷ []) → (b : Builtin) → (r ≡ Some b) ↔ (name_of b ≡ name)
unfolding named
named_exactly name r e b =
    let back : name_of b ≡ name → r ≡ Some b = λ h. let found : List ℕ → Type 0 = λ n. named n ≡ Some b in let k : named name ≡ Some b = subst found h (by_own_name b) in cc in (
      λ h. let found : find (λ x. pointwise nat_eq name (name_of x)) (Malloc ∷ Free ∷ Spawn ∷ Join ∷ Lock ∷ Unlock ∷ Print ∷ []) ≡ Some b = cc in
          sym ((bytes_eq-Decides name (name_of b)).0 (find-passes (λ x. pointwise nat_eq name (name_of x)) (Malloc ∷ Free ∷ Spawn ∷ Join ∷ Lock ∷ Unlock ∷ Print ∷ []) b found)),
      back,
    )
