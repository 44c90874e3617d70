-- Sets that are made of lists.
use Rattle.std.proofs.Common.{◌≡◌, ℕ, ℤ, ◌+◌, ◌<◌, ◌≤◌, Bool, true, false, cond, ◌&&◌, ◌||◌, List, [], ◌∷◌, length, drop, refl, sym, ap, ◌∙◌}
use Rattle.std.specs.Prelude.{filter, get_or, int_lt}
use Rattle.std.specs.List.{list_all}
use Rattle.std.specs.Ordering.{int_eq, is_eq}
use Rattle.std.specs.declared.cmp.Ordering.TheVariants.{Less, Equal, Greater}
use Rattle.std.proofs.lemmas.Bool.Decides.{Decides-int_eq}
use Rattle.std.proofs.lemmas.List.{drop_all, drop_more}
use Rattle.std.proofs.lemmas.List.Folds.{list_all-append}
use Rattle.lockset_check_held.specs.Ascending.{Ascends}
use Rattle.lockset_check_held.proofs.Members.{held_with}
use Rattle.lockset_check_held.proofs.Places.{with_ascends}
use Rattle.lockset_check_rules.specs.Mutexes.{Locks, are_held, is_held, locks_of, with_lock, with_locks}

-- ---- one mutex of a list after another

pub put_next : (ks : List ℤ) (i : ℕ) (d : ℤ) (s t u : Locks) → i < length ks → with_locks (drop i ks) s ≡ u → t ≡ with_lock (get_or ks i d) s → with_locks (drop (i + 1) ks) t ≡ u
put_next ks i d s t u lt h e = ap (λ (l : Locks). with_locks (drop (i + 1) ks) l) e ∙ (ap (λ (l : List ℤ). with_locks l s) (sym (drop_more ks i d lt)) ∙ h)

pub all_put : (ks : List ℤ) (i : ℕ) (s u : Locks) → length ks ≤ i → with_locks (drop i ks) s ≡ u → s ≡ u
all_put ks i s u le h = ap (λ (l : List ℤ). with_locks l s) (sym (drop_all i ks le)) ∙ h

-- ---- a test of all members is one of all that the set is made of

-- where a, b and r are of the members below k, those above it and all, and m is of one more
low_more : (m a k b r : Bool) → (a && (k && b)) ≡ (k && r) → ((m && a) && (k && b)) ≡ (k && (m && r))
low_more true a k b r h = h
low_more false a true b r h = refl
low_more false a false b r h = refl

high_more : (m a k b r : Bool) → (a && (k && b)) ≡ (k && r) → (a && (k && (m && b))) ≡ (k && (m && r))
high_more true a k b r h = h
high_more false true true b r h = refl
high_more false true false b r h = refl
high_more false false true b r h = refl
high_more false false false b r h = refl

both_more : (m a k b r : Bool) → (a && (k && b)) ≡ (k && r) → ((m && a) && (k && (m && b))) ≡ (k && (m && r))
both_more true a k b r h = h
both_more false a true b r h = refl
both_more false a false b r h = refl

same_more : (a k b r : Bool) → (a && (k && b)) ≡ (k && r) → (a && (k && b)) ≡ (k && (k && r))
same_more a true b r h = h
same_more a false b r h = h

module _ (p : ℤ → Bool) (k : ℤ) where
  spread : (t : Locks) → (list_all p (filter (λ m. int_lt m k) t) && (p k && list_all p (filter (λ m. int_lt k m) t))) ≡ (p k && list_all p t)
  spread [] = refl
  spread (m ∷ t) = by (spread t) (int_lt m k) refl (int_lt k m) refl
    where
      low : Locks
      low = filter (λ n. int_lt n k) t

      high : Locks
      high = filter (λ n. int_lt k n) t

      now : (a b : Bool) → int_lt m k ≡ a → int_lt k m ≡ b
          → (list_all p (cond (int_lt m k) (m ∷ low) low) && (p k && list_all p (cond (int_lt k m) (m ∷ high) high)))
          ≡ (list_all p (cond a (m ∷ low) low) && (p k && list_all p (cond b (m ∷ high) high)))
      now a b e f = λ j. list_all p (cond (e j) (m ∷ low) low) && (p k && list_all p (cond (f j) (m ∷ high) high))

      by : (list_all p (filter (λ n. int_lt n k) t) && (p k && list_all p (filter (λ n. int_lt k n) t))) ≡ (p k && list_all p t) → (a : Bool) → int_lt m k ≡ a → (b : Bool) → int_lt k m ≡ b
          → (list_all p (cond (int_lt m k) (m ∷ low) low) && (p k && list_all p (cond (int_lt k m) (m ∷ high) high))) ≡ (p k && (p m && list_all p t))
      by h true e true f = now true true e f ∙ both_more (p m) (list_all p low) (p k) (list_all p high) (list_all p t) h
      by h true e false f = now true false e f ∙ low_more (p m) (list_all p low) (p k) (list_all p high) (list_all p t) h
      by h false e true f = now false true e f ∙ high_more (p m) (list_all p low) (p k) (list_all p high) (list_all p t) h
      by h false e false f =
          let eq : int_eq m k ≡ true = λ j. is_eq (cond (e j) Less (cond (f j) Greater Equal)) in
          let same : m ≡ k = (Decides-int_eq m k).0 eq in
          now false false e f
          ∙ (same_more (list_all p low) (p k) (list_all p high) (list_all p t) h
          ∙ ap (λ (n : ℤ). p k && (p n && list_all p t)) (sym same))

  all_with : (t : Locks) → list_all p (with_lock k t) ≡ (p k && list_all p t)
  all_with t = list_all-append p (filter (λ m. int_lt m k) t) (k ∷ filter (λ m. int_lt k m) t) ∙ spread t

swapped : (a b c : Bool) → (a && (b && c)) ≡ ((b && a) && c)
swapped true true c = refl
swapped true false c = refl
swapped false true c = refl
swapped false false c = refl

always : (b : Bool) → (b && true) ≡ b
always true = refl
always false = refl

all_put_in : (p : ℤ → Bool) (ks : List ℤ) (t : Locks) → list_all p (with_locks ks t) ≡ (list_all p ks && list_all p t)
all_put_in p [] t = refl
all_put_in p (k ∷ ks) t =
    all_put_in p ks (with_lock k t)
    ∙ (ap (λ (b : Bool). list_all p ks && b) (all_with p k t) ∙ swapped (list_all p ks) (p k) (list_all p t))

pub all_held : (ks : List ℤ) (s : Locks) → are_held (locks_of ks) s ≡ are_held ks s
all_held ks s = all_put_in (λ k. is_held k s) ks [] ∙ always (are_held ks s)

-- ---- what is held after some are put in

pub with_locks_ascends : (ks : List ℤ) (s : Locks) → Ascends s → Ascends (with_locks ks s)
with_locks_ascends [] s up = up
with_locks_ascends (k ∷ ks) s up = with_locks_ascends ks (with_lock k s) (with_ascends k s up)

either : (a b c : Bool) → (a || (b || c)) ≡ ((b || a) || c)
either true true c = refl
either true false c = refl
either false true c = refl
either false false c = refl

pub held_with_locks : (m : ℤ) (ks : List ℤ) (s : Locks) → is_held m (with_locks ks s) ≡ (is_held m ks || is_held m s)
held_with_locks m [] s = refl
held_with_locks m (k ∷ ks) s =
    held_with_locks m ks (with_lock k s)
    ∙ (ap (λ (b : Bool). is_held m ks || b) (held_with k m s) ∙ either (is_held m ks) (int_eq k m) (is_held m s))
