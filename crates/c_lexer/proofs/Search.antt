-- Going along a list to the first element that passes.
use Rattle.std.proofs.Common.{◌≡◌, ℕ, suc, ◌+◌, ◌<◌, ◌≤◌, Bool, true, false, List, length, drop, get_or, drop-cons, add-one, Option, Some, None}
use Rattle.std.proofs.lemmas.List.{drop_all}
use Rattle.std.specs.List.{find}

pub find_on : {X : Type 0} (p : X → Bool) (xs : List X) (i : ℕ) (d : X) (t : Option X) → i < length xs → p (get_or xs i d) ≡ false → find p (drop i xs) ≡ t → find p (drop (i + 1) xs) ≡ t
find_on p xs i d t lt e h = let k : find p (drop (suc i) xs) ≡ t = rw (drop-cons xs i d lt, e) at h in rw add-one k

pub find_stop : {X : Type 0} (p : X → Bool) (xs : List X) (i : ℕ) (d : X) (t : Option X) → i < length xs → p (get_or xs i d) ≡ true → find p (drop i xs) ≡ t → Some (get_or xs i d) ≡ t
find_stop p xs i d t lt e h = rw (drop-cons xs i d lt, e) at h

pub find_end : {X : Type 0} (p : X → Bool) (xs : List X) (i : ℕ) (t : Option X) → length xs ≤ i → find p (drop i xs) ≡ t → None ≡ t
find_end p xs i t past h = rw (drop_all i xs past) at h
