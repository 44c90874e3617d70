-- What is in a set of mutexes.
use Rattle.std.proofs.Common.{◌≡◌, ℤ, Bool, true, false, cond, [], ◌∷◌, ◌++◌, ◌⊎◌, inl, inr, ⊎_elim, refl, sym, ap, ◌∙◌, subst}
use Rattle.std.specs.Prelude.{int_lt, not}
use Rattle.std.specs.List.{All, filter}
use Rattle.std.specs.Ordering.{int_eq}
use Rattle.std.proofs.lemmas.Bool.{and_parts, not-true, or_cases, or_left, or_right}
use Rattle.std.proofs.lemmas.Bool.Decides.{Decides-int_eq}
use Rattle.std.proofs.lemmas.List.Elements.{All-head, All-tail}
use Rattle.std.proofs.lemmas.Slice.Eq.{slice_eq-Decides}
use Rattle.lockset_check_rules.specs.Mutexes.{Locks, are_held, is_held, locks_of, same, shared, with_lock, with_locks, without_lock}

abbrev pub In : ℤ → Locks → Type 0
In k [] = ⊥
In k (x ∷ s) = (x ≡ k) ⊎ In k s

pub held_in : (k : ℤ) (s : Locks) → is_held k s ≡ true → In k s
held_in k [] e = absurd cc
held_in k (x ∷ s) e = ⊎_elim (λ h. inl ((Decides-int_eq x k).0 h)) (λ h. inr (held_in k s h)) (or_cases (int_eq x k) (is_held k s) e)

pub in_held : (k : ℤ) (s : Locks) → In k s → is_held k s ≡ true
in_held k [] i = absurd i
in_held k (x ∷ s) i = ⊎_elim (λ h. or_left (int_eq x k) (is_held k s) ((Decides-int_eq x k).1 h)) (λ h. or_right (int_eq x k) (is_held k s) (in_held k s h)) i

-- what a filter keeps passes its test
filtered_more : (q : ℤ → Bool) (k x : ℤ) (s : Locks) (b : Bool) → q x ≡ b → (In k (filter q s) → In k s × (q k ≡ true)) → In k (cond b (x ∷ filter q s) (filter q s)) → In k (x ∷ s) × (q k ≡ true)
filtered_more q k x s true e next (inl h) = (inl h, ap q (sym h) ∙ e)
filtered_more q k x s true e next (inr h) = let r = next h in (inr r.0, r.1)
filtered_more q k x s false e next h = let r = next h in (inr r.0, r.1)

filtered : (q : ℤ → Bool) (k : ℤ) (s : Locks) → In k (filter q s) → In k s × (q k ≡ true)
filtered q k [] i = absurd i
filtered q k (x ∷ s) i = filtered_more q k x s (q x) refl (filtered q k s) i

appended : (k : ℤ) (s t : Locks) → In k (s ++ t) → In k s ⊎ In k t
appended k [] t i = inr i
appended k (x ∷ s) t (inl h) = inl (inl h)
appended k (x ∷ s) t (inr h) = ⊎_elim (λ a. inl (inr a)) inr (appended k s t h)

pub in_with : (k j : ℤ) (s : Locks) → In k (with_lock j s) → (j ≡ k) ⊎ In k s
in_with k j s i = ⊎_elim (λ a. inr (filtered (λ m. int_lt m j) k s a).0) (λ a. ⊎_elim inl (λ b. inr (filtered (λ m. int_lt j m) k s b).0) a) (appended k (filter (λ m. int_lt m j) s) (j ∷ filter (λ m. int_lt j m) s) i)

pub in_without : (k j : ℤ) (s : Locks) → In k (without_lock j s) → In k s × (k ≡ j → ⊥)
in_without k j s i =
    let r = filtered (λ m. not (int_eq m j)) k s i in
    (r.0, λ e. let no = not-true (int_eq k j) r.1 in let yes = (Decides-int_eq k j).1 e in absurd cc)

pub in_shared : (k : ℤ) (s t : Locks) → In k (shared s t) → In k s × In k t
in_shared k s t i = let r = filtered (λ m. is_held m t) k s i in (r.0, held_in k t r.1)

-- ---- all of some mutexes

in_withs : (k : ℤ) (ks s : Locks) → In k (with_locks ks s) → In k ks ⊎ In k s
in_withs k [] s i = inr i
in_withs k (j ∷ ks) s i = ⊎_elim (λ a. inl (inr a)) (λ a. ⊎_elim (λ b. inl (inl b)) inr (in_with k j s a)) (in_withs k ks (with_lock j s) i)

pub in_locks_of : (k : ℤ) (ks : Locks) → In k (locks_of ks) → In k ks
in_locks_of k ks i = ⊎_elim (λ a. a) (λ a. absurd a) (in_withs k ks [] i)

pub are_in : (k : ℤ) (ks s : Locks) → are_held ks s ≡ true → In k ks → In k s
are_in k [] s e i = absurd i
are_in k (j ∷ ks) s e (inl h) = subst (λ x. In x s) h (held_in j s (and_parts (is_held j s) (are_held ks s) e).0)
are_in k (j ∷ ks) s e (inr h) = are_in k ks s (and_parts (is_held j s) (are_held ks s) e).1 h

pub all_in : (P : ℤ → Type 0) (k : ℤ) (s : Locks) → All P s → In k s → P k
all_in P k [] a i = absurd i
all_in P k (x ∷ s) a (inl h) = subst P h (All-head P x s a)
all_in P k (x ∷ s) a (inr h) = all_in P k s (All-tail P x s a) h

pub same_sets : (s t : Locks) → same s t ≡ true → s ≡ t
same_sets s t e = (slice_eq-Decides Decides-int_eq s t (same s t) refl).0 e
