-- Numbers of types of functions.
use Rattle.std.proofs.Common.{◌≡◌, ℕ, zero, suc, ◌<◌, Bool, true, false, cond, eqb, List, [], ◌∷◌, length, Some, refl, sym, ap, ◌∙◌, arith}
use Rattle.std.specs.Prelude.{slice_get}
use borrow.Author.Tests.{eqb-true, eq-eqb}
use Rattle.c_types_model.specs.Types.{CType}
use Rattle.c_types_rules.specs.TypeTests.{same_type}
use Rattle.c_types_rules.proofs.SameTypes.{types_compared}
use Rattle.c_lower_layout.specs.Sources.{place_among}

-- a type is equal to itself
pub itself : (t : CType) → same_type t t ≡ true
itself t = (types_compared t t).1 refl

pub equal : (t u : CType) → same_type t u ≡ true → t ≡ u
equal t u h = (types_compared t u).0 h

-- a type that is in the list has a place in it
pub within : (us : List CType) (k : ℕ) (u : CType) → slice_get us k ≡ Some u → place_among u us < length us
within [] k u e = absurd cc
within (t ∷ us) k u e = at (same_type u t) refl k e (λ m h. within us m u h)
  where
    at : (b : Bool) → same_type u t ≡ b → (k : ℕ) → slice_get (t ∷ us) k ≡ Some u → ((m : ℕ) → slice_get us m ≡ Some u → place_among u us < length us) → place_among u (t ∷ us) < length (t ∷ us)
    at true is k e after = let here : place_among u (t ∷ us) ≡ zero = ap (λ c. cond c zero (suc (place_among u us))) is in omega (arith, here)
    at false is zero e after =
        let same : t ≡ u = cc in
        let yes : same_type u t ≡ true = ap (same_type u) same ∙ itself u in
        absurd cc
    at false is (suc m) e after = let there : place_among u (t ∷ us) ≡ suc (place_among u us) = ap (λ c. cond c zero (suc (place_among u us))) is in omega (arith, there, after m e)

-- types with one place are equal, if the place is in the list
pub one_place : (us : List CType) (t u : CType) → place_among u us < length us → place_among t us ≡ place_among u us → t ≡ u
one_place [] t u h e = absurd (omega arith)
one_place (x ∷ us) t u h e = by (same_type t x) refl (same_type u x) refl (one_place us t u)
  where
    first : (v : CType) → same_type v x ≡ true → place_among v (x ∷ us) ≡ zero
    first v is = ap (λ c. cond c zero (suc (place_among v us))) is

    later : (v : CType) → same_type v x ≡ false → place_among v (x ∷ us) ≡ suc (place_among v us)
    later v is = ap (λ c. cond c zero (suc (place_among v us))) is

    by : (a : Bool) → same_type t x ≡ a → (b : Bool) → same_type u x ≡ b → (place_among u us < length us → place_among t us ≡ place_among u us → t ≡ u) → t ≡ u
    by true p true q after = equal t x p ∙ sym (equal u x q)
    by true p false q after = absurd (omega (arith, e, first t p, later u q))
    by false p true q after = absurd (omega (arith, e, later t p, first u q))
    by false p false q after = after (omega (arith, h, later u q)) (omega (arith, e, later t p, later u q))

-- the test of numbers is that of types
pub numbers_tell : (us : List CType) (t u : CType) → place_among u us < length us → eqb (place_among u us) (place_among t us) ≡ same_type u t
numbers_tell us t u h = by (same_type u t) refl
  where
    by : (b : Bool) → same_type u t ≡ b → eqb (place_among u us) (place_among t us) ≡ same_type u t
    by true p = eq-eqb (place_among u us) (place_among t us) (ap (λ v. place_among v us) (equal u t p)) ∙ sym p
    by false p = at (eqb (place_among u us) (place_among t us)) refl
      where
        at : (c : Bool) → eqb (place_among u us) (place_among t us) ≡ c → eqb (place_among u us) (place_among t us) ≡ same_type u t
        at false q = q ∙ sym p
        at true q =
            let same : t ≡ u = one_place us t u h (sym (eqb-true (place_among u us) (place_among t us) q)) in
            let yes : same_type u t ≡ true = ap (same_type u) same ∙ itself u in
            absurd cc
