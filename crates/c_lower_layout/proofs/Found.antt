-- The first place of a number in a list.
use Rattle.std.proofs.Common.{◌≡◌, ℕ, suc, ◌+◌, ◌<◌, Bool, true, false, cond, eqb, List, [], ◌∷◌, ◌++◌, length, take, get_or, Option, Some, None, refl, sym, ap, ◌∙◌}
use Rattle.std.specs.Prelude.{unwrap_or}
use Rattle.std.specs.Option.{option_map}
use Rattle.c_semantics.specs.Context.{order_of}
use Rattle.c_types_program.specs.declared.text.TextLiteral.{TextLiteral}
use Rattle.c_types_program.specs.Programs.{texts_in}
use Rattle.c_lower_layout.specs.Indexed.{found, or_there}
use Rattle.std.proofs.lemmas.List.{take_more}

-- one more number at the end
pub found_more : (q y : ℕ) (xs : List ℕ) → found q (xs ++ y ∷ []) ≡ or_there (found q xs) (eqb q y) (length xs)
found_more q y [] = elim (eqb q y) as (λ b. cond b (Some 0) (option_map suc None) ≡ or_there None b 0) [ true ↦ refl | false ↦ refl ]
found_more q y (x ∷ xs) =
    elim (eqb q x) as (λ b. cond b (Some 0) (option_map suc (found q (xs ++ y ∷ []))) ≡ or_there (cond b (Some 0) (option_map suc (found q xs))) (eqb q y) (suc (length xs)))
    [ true ↦ refl | false ↦ ap (option_map suc) (found_more q y xs) ∙ stepped (found q xs) (eqb q y) (length xs) ]
  where
    stepped : (o : Option ℕ) (b : Bool) (n : ℕ) → option_map suc (or_there o b n) ≡ or_there (option_map suc o) b (suc n)
    stepped (Some k) b n = refl
    stepped None true n = refl
    stepped None false n = refl

-- the place, or how many there are
pub order_found : (q : ℕ) (xs : List ℕ) → unwrap_or (found q xs) (length xs) ≡ order_of q xs
order_found q [] = refl
order_found q (x ∷ xs) =
    elim (eqb q x) as (λ b. unwrap_or (cond b (Some 0) (option_map suc (found q xs))) (suc (length xs)) ≡ cond b 0 (suc (order_of q xs)))
    [ true ↦ refl | false ↦ stepped (found q xs) (length xs) ∙ ap suc (order_found q xs) ]
  where
    stepped : (o : Option ℕ) (n : ℕ) → unwrap_or (option_map suc o) (suc n) ≡ suc (unwrap_or o n)
    stepped (Some k) n = refl
    stepped None n = refl

-- ---- the offsets of strings

pub texts_length : (ts : List TextLiteral) → length (texts_in ts) ≡ length ts
texts_length [] = refl
texts_length (t ∷ ts) = ap suc (texts_length ts)

texts_append : (ts : List TextLiteral) (t : TextLiteral) → texts_in (ts ++ t ∷ []) ≡ texts_in ts ++ t.from ∷ []
texts_append [] t = refl
texts_append (u ∷ ts) t = ap (λ xs. u.from ∷ xs) (texts_append ts t)

pub texts_more : (ts : List TextLiteral) (i : ℕ) (t : TextLiteral) → t ≡ get_or ts i t → i < length ts → texts_in (take (i + 1) ts) ≡ texts_in (take i ts) ++ t.from ∷ []
texts_more ts i t is lt = ap texts_in (take_more ts i t lt) ∙ (texts_append (take i ts) (get_or ts i t) ∙ ap (λ x. texts_in (take i ts) ++ x.from ∷ []) (sym is))
