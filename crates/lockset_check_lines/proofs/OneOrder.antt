-- What is found decides the list of findings in order.
use Rattle.std.proofs.Common.{◌≡◌, ◌⊎◌, inl, inr, ℕ, zero, suc, ◌==◌, nat_lt, Bool, true, false, ◌&&◌, ◌||◌, List, [], ◌∷◌, refl, sym, ap, ◌∙◌, subst, arith, ⊎_elim}
use Rattle.std.specs.List.{All, Contains}
use Rattle.std.proofs.lemmas.Bool.{ltb-true}
use borrow.Author.Tests.{eqb-true}
use Rattle.lockset_check_rules.specs.declared.finding.LockFinding.{LockFinding}
use Rattle.lockset_check_rules.specs.Order.{AreSorted, Ascending, comes_before, offset_of, text_before, text_of}

-- ---- of two findings one at most comes before the other

either : (a b : Bool) → (a || b) ≡ true → (a ≡ true) ⊎ (b ≡ true)
either true b h = inl refl
either false b h = inr h

both : (a b : Bool) → (a && b) ≡ true → (a ≡ true) × (b ≡ true)
both true b h = (refl, h)
both false b h = absurd cc

-- by numbers, and where these are the same by what follows
apart : (x y : ℕ) (t u : Bool) → (t ≡ true → u ≡ true → ⊥) → (nat_lt x y || ((x == y) && t)) ≡ true → (nat_lt y x || ((y == x) && u)) ≡ true → ⊥
apart x y t u f h k =
    ⊎_elim
    (λ less. let l = ltb-true x y less in ⊎_elim
    (λ more. let m = ltb-true y x more in omega (arith, l, m))
    (λ same. let e : y ≡ x = eqb-true y x (both (y == x) u same).0 in omega (arith, l, e))
    (either (nat_lt y x) ((y == x) && u) k))
    (λ same. let e : x ≡ y = eqb-true x y (both (x == y) t same).0 in ⊎_elim
    (λ more. let m = ltb-true y x more in omega (arith, m, e))
    (λ again. f (both (x == y) t same).1 (both (y == x) u again).1)
    (either (nat_lt y x) ((y == x) && u) k))
    (either (nat_lt x y) ((x == y) && t) h)

texts_apart : (a b : List ℕ) → text_before a b ≡ true → text_before b a ≡ true → ⊥
texts_apart [] [] h k = absurd cc
texts_apart [] (y ∷ ys) h k = absurd cc
texts_apart (x ∷ xs) [] h k = absurd cc
texts_apart (x ∷ xs) (y ∷ ys) h k = apart x y (text_before xs ys) (text_before ys xs) (texts_apart xs ys) h k

findings_apart : (f g : LockFinding) → comes_before f g ≡ true → comes_before g f ≡ true → ⊥
findings_apart f g = apart (offset_of f) (offset_of g) (text_before (text_of f) (text_of g)) (text_before (text_of g) (text_of f)) (texts_apart (text_of f) (text_of g))

-- ---- members

first_in : (f : LockFinding) (fs : List LockFinding) → Contains (f ∷ fs) f
first_in f fs = (0, omega arith, refl)

later_in : (f g : LockFinding) (fs : List LockFinding) → Contains fs g → Contains (f ∷ fs) g
later_in f g fs h = (suc h.0, (let l = h.1 in omega (arith, l)), h.2)

in_nothing : (f : LockFinding) → Contains [] f → ⊥
in_nothing f h = omega (arith, h.1)

first_or_later : (f g : LockFinding) (fs : List LockFinding) → Contains (f ∷ fs) g → (f ≡ g) ⊎ Contains fs g
first_or_later f g fs (zero, l, e) = inl e
first_or_later f g fs (suc k, l, e) = inr (k, omega (arith, l), e)

-- what comes before all of these comes before each of them
before_each : (f g : LockFinding) (fs : List LockFinding) → All (λ x. comes_before f x ≡ true) fs → Contains fs g → comes_before f g ≡ true
before_each f g fs all h = subst (λ (x : LockFinding). comes_before f x ≡ true) h.2 (all h.0 g h.1)

-- ---- lists in order

-- the members of a list but its first, where both begin with the same
rest_in : (f : LockFinding) (fs gs : List LockFinding) → Ascending (f ∷ fs) → ((x : LockFinding) → Contains (f ∷ fs) x → Contains (f ∷ gs) x) → (x : LockFinding) → Contains fs x → Contains gs x
rest_in f fs gs up to x h =
    ⊎_elim
    (λ e. let again : comes_before f f ≡ true = subst (λ (y : LockFinding). comes_before f y ≡ true) (sym e) (before_each f x fs up.0 h) in absurd (findings_apart f f again again))
    (λ later. later)
    (first_or_later f x gs (to x (later_in f x fs h)))

-- lists in order with the same members begin with the same
same_first : (f g : LockFinding) (fs gs : List LockFinding) → Ascending (f ∷ fs) → Ascending (g ∷ gs) → Contains (g ∷ gs) f → Contains (f ∷ fs) g → f ≡ g
same_first f g fs gs up down there here =
    ⊎_elim
    (λ e. sym e)
    (λ later. ⊎_elim
    (λ e. e)
    (λ after. absurd (findings_apart g f (before_each g f gs down.0 later) (before_each f g fs up.0 after)))
    (first_or_later f g fs here))
    (first_or_later g f gs there)

same_lists : (fs gs : List LockFinding) → Ascending fs → Ascending gs → ((x : LockFinding) → Contains fs x → Contains gs x) → ((x : LockFinding) → Contains gs x → Contains fs x) → fs ≡ gs
same_lists [] [] up down to back = refl
same_lists [] (g ∷ gs) up down to back = absurd (in_nothing g (back g (first_in g gs)))
same_lists (f ∷ fs) [] up down to back = absurd (in_nothing f (to f (first_in f fs)))
same_lists (f ∷ fs) (g ∷ gs) up down to back =
    let e : f ≡ g = same_first f g fs gs up down (to f (first_in f fs)) (back g (first_in g gs)) in
    let into : (x : LockFinding) → Contains (f ∷ fs) x → Contains (f ∷ gs) x = subst (λ (y : LockFinding). (x : LockFinding) → Contains (f ∷ fs) x → Contains (y ∷ gs) x) (sym e) to in
    let out : (x : LockFinding) → Contains (f ∷ gs) x → Contains (f ∷ fs) x = subst (λ (y : LockFinding). (x : LockFinding) → Contains (y ∷ gs) x → Contains (f ∷ fs) x) (sym e) back in
    let falls : Ascending (f ∷ gs) = subst (λ (y : LockFinding). Ascending (y ∷ gs)) (sym e) down in
    ap (λ (y : LockFinding). y ∷ fs) e ∙ ap (λ (ys : List LockFinding). g ∷ ys) (same_lists fs gs up.1 down.1 (rest_in f fs gs up into) (rest_in f gs fs falls out))

pub one_order : (found xs ys : List LockFinding) → AreSorted found xs → AreSorted found ys → xs ≡ ys
one_order found xs ys a b = same_lists xs ys a.order b.order (λ f h. (b.same f).1 ((a.same f).0 h)) (λ f h. (a.same f).1 ((b.same f).0 h))
