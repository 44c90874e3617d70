-- Operations by number: one place more, and the operations of one function.
use Rattle.std.proofs.Common.{◌≡◌, ◌<◌, inl, inr, ℕ, zero, suc, Bool, cond, eqb, List, [], ◌∷◌, ◌++◌, length, get_or, set, Option, None, refl, sym, ap, ◌∙◌}
use Rattle.std.proofs.lemmas.Bool.Decides.{eqb_tells}
use Rattle.std.proofs.lemmas.List.{get_or-set_other}
use Rattle.std.proofs.lemmas.Grind.{get_or-set_at}

-- a place where nothing stands says nothing
pub one_more : {A : Type 0} (xs : List (Option A)) (f : ℕ) → get_or (xs ++ None ∷ []) f None ≡ get_or xs f None
one_more [] zero = refl
one_more [] (suc f) = refl
one_more (x ∷ xs) zero = refl
one_more (x ∷ xs) (suc f) = one_more xs f

-- one function has these operations, and the others what they had
pub one_set : {A : Type 0} (xs : List (Option A)) (i f : ℕ) (y : Option A) → i < length xs →
    get_or (set xs i y) f None ≡ cond (eqb f i) y (get_or xs f None)
one_set {A} xs i f y within = elim (eqb_tells f i) [
  | inl e ↦ get_or-set_at xs i f y None e.1 within ∙ sym (ap (λ (b : Bool). cond b y (get_or xs f None)) e.0)
  | inr e ↦ get_or-set_other xs i f y None e.1 ∙ sym (ap (λ (b : Bool). cond b y (get_or xs f None)) e.0)
]
