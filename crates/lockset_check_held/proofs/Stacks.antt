-- Sets that are kept for later, as the changes in which each differs from the next.
use Rattle.std.proofs.Common.{◌≡◌, ℕ, Bool, true, false, List, [], ◌∷◌, ◌++◌, drop, Some, None, refl, sym, ap, subst, ◌∙◌}
use Rattle.std.specs.Prelude.{reverse, slice_get}
use Rattle.std.proofs.lemmas.List.{reverse-append}
use Rattle.lockset_check_held.specs.Changes.{Adds, Changes, ChangesWithin, Drops, Keeps, StayWithin, StaysWithin, sets_after, first_changes, is_turned, one_of, turned}
use Rattle.lockset_check_held.specs.Rows.{IsWithin}
use Rattle.lockset_check_held.proofs.Changes.{nothing_turned}

-- ---- exactly one of two

one_twice : (a b : Bool) → one_of a (one_of a b) ≡ b
one_twice true true = refl
one_twice true false = refl
one_twice false b = refl

-- what turns in both turns nothing
one_over : (a b c : Bool) → one_of (one_of a b) (one_of a c) ≡ one_of b c
one_over true true true = refl
one_over true true false = refl
one_over true false true = refl
one_over true false false = refl
one_over false b c = refl

pub turned_twice : (by test : ℕ → Bool) → turned by (turned by test) ≡ test
turned_twice by test = λ j p. one_twice (by p) (test p) j

pub turned_over : (by one test : ℕ → Bool) → turned (turned by one) (turned by test) ≡ turned one test
turned_over by one test = λ j p. one_over (by p) (one p) (test p) j

pub turned_nowhere : (test : ℕ → Bool) → turned (is_turned []) test ≡ test
turned_nowhere test = λ j p. one_of (nothing_turned p j) (test p)

-- ---- lists that are kept from their ends

pub pushed : (sets : List Changes) (c : Changes) → reverse (sets ++ c ∷ []) ≡ c ∷ reverse sets
pushed sets c = reverse-append sets (c ∷ [])

pub popped : (all sets : List Changes) (c : Changes) → all ≡ sets ++ c ∷ [] → reverse all ≡ c ∷ reverse sets
popped all sets c e = ap reverse e ∙ pushed sets c

same_first : (x y : Changes) → Some x ≡ Some y → x ≡ y
same_first x y e = cc

no_first : {A : Type 0} (x : Changes) → Some x ≡ None → A
no_first x e = absurd cc

-- ---- what is held turns

module _ (by : ℕ → Bool) (old rest new : List Changes) (c d : Changes) where
  pub first_kept : Some c ≡ slice_get old 0 → rest ≡ drop 1 old → is_turned d ≡ turned by (is_turned c) → new ≡ d ∷ rest → Keeps by old new
  first_kept f r h n test = cases old f r
    where
      cases : (all : List Changes) → Some c ≡ slice_get all 0 → rest ≡ drop 1 all → sets_after (turned by test) new ≡ sets_after test all
      cases [] f r = no_first c f
      cases (x ∷ xs) f r =
          let stay : turned (is_turned d) (turned by test) ≡ turned (is_turned x) test =
          ap (λ (t : ℕ → Bool). turned t (turned by test)) h
          ∙ (turned_over by (is_turned c) test ∙ ap (λ (a : Changes). turned (is_turned a) test) (same_first c x f)) in
          ap (sets_after (turned by test)) n ∙ (λ j. stay j ∷ sets_after (stay j) (r j))

  pub first_stays : Some c ≡ slice_get old 0 → rest ≡ drop 1 old → StaysWithin by (is_turned c) (is_turned d) → new ≡ d ∷ rest → StayWithin by old new
  first_stays f r h n count b = cases old f r
    where
      cases : (all : List Changes) → Some c ≡ slice_get all 0 → rest ≡ drop 1 all → ChangesWithin count all → ChangesWithin count new
      cases [] f r w = no_first c f
      cases (x ∷ xs) f r w = subst (ChangesWithin count) (sym n)
          (h count b (subst (λ (a : Changes). IsWithin count (is_turned a)) (sym (same_first c x f)) w.0), subst (ChangesWithin count) (sym r) w.1)

pub nothing_kept : (by : ℕ → Bool) (old new : List Changes) → None ≡ slice_get old 0 → new ≡ drop 1 old → Keeps by old new
nothing_kept by [] new f r test = ap (sets_after (turned by test)) r
nothing_kept by (x ∷ xs) new f r test = no_first x (sym f)

-- without the first one
pub rest_within : (old rest : List Changes) → rest ≡ drop 1 old → (count : ℕ) → ChangesWithin count old → ChangesWithin count rest
rest_within [] rest r count w = subst (ChangesWithin count) (sym r) tt
rest_within (x ∷ xs) rest r count w = subst (ChangesWithin count) (sym r) w.1

pub rest_stays : (by : ℕ → Bool) (old rest : List Changes) → rest ≡ drop 1 old → StayWithin by old rest
rest_stays by old rest r count b w = rest_within old rest r count w

-- ---- a set more, or one less

pub first_taken : (old : List Changes) (c : Changes) → Some c ≡ slice_get old 0 → c ≡ first_changes old
first_taken [] c f = no_first c f
first_taken (x ∷ xs) c f = same_first c x f

pub rest_kept : (old rest new : List Changes) (c : Changes) → Some c ≡ slice_get old 0 → rest ≡ drop 1 old → Keeps (is_turned c) rest new → Drops old new
rest_kept [] rest new c f r h test = no_first c f
rest_kept (x ∷ xs) rest new c f r h test =
    ap (λ (t : ℕ → Bool). sets_after t new) (sym (turned_twice (is_turned c) test))
    ∙ (h (turned (is_turned c) test) ∙ (λ j. sets_after (turned (is_turned (same_first c x f j)) test) (r j)))

pub rest_after : (old rest new : List Changes) (c : Changes) → Some c ≡ slice_get old 0 → rest ≡ drop 1 old → StayWithin (is_turned c) rest new
    → (count : ℕ) → ChangesWithin count old → ChangesWithin count new
rest_after [] rest new c f r h count w = no_first c f
rest_after (x ∷ xs) rest new c f r h count w =
    h count (subst (λ (a : Changes). IsWithin count (is_turned a)) (sym (same_first c x f)) w.0) (subst (ChangesWithin count) (sym r) w.1)

pub nothing_taken : (old : List Changes) → None ≡ slice_get old 0 → [] ≡ first_changes old
nothing_taken [] f = refl
nothing_taken (x ∷ xs) f = no_first x (sym f)

pub nothing_left : (old new : List Changes) → None ≡ slice_get old 0 → new ≡ drop 1 old → Drops old new
nothing_left [] new f r test = ap (sets_after test) r
nothing_left (x ∷ xs) new f r test = no_first x (sym f)

module _ (old mid new : List Changes) (c : Changes) where
  pub one_more : Keeps (is_turned c) old mid → new ≡ c ∷ mid → Adds c old new
  one_more h n test = ap (sets_after test) n ∙ (λ j. turned (is_turned c) test ∷ h test j)

  pub one_more_within : StayWithin (is_turned c) old mid → new ≡ c ∷ mid → StayWithin (is_turned c) old new
  one_more_within h n count b w = subst (ChangesWithin count) (sym n) (b, h count b w)

-- ---- the first set

pub first_is_none : (all : List Changes) (c : Changes) → Some c ≡ slice_get all 0 → c ≡ [] → first_changes all ≡ []
first_is_none all c f e = sym (first_taken all c f) ∙ e

pub first_has_some : (all : List Changes) (c : Changes) → Some c ≡ slice_get all 0 → (p : ℕ) × (is_turned c p ≡ true) → (p : ℕ) × (is_turned (first_changes all) p ≡ true)
first_has_some all c f h = subst (λ (a : Changes). (p : ℕ) × (is_turned a p ≡ true)) (first_taken all c f) h
