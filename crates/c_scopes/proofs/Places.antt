-- The places of the newest bindings of names.
use Rattle.std.proofs.Common.{◌≡◌, ℕ, zero, suc, ◌+◌, ◌<◌, ◌≤◌, Bool, true, false, cond, eqb, List, [], ◌∷◌, ◌++◌, length, Option, Some, None, refl, sym, ap, ◌∙◌, arith, length-append, ◌⊎◌, inl, inr}
use Rattle.std.specs.Prelude.{slice_get, slice_set}
use Rattle.std.proofs.lemmas.Bool.{eqb-true, eqb-false, ne_eqb, cases_lt}
use Rattle.std.proofs.lemmas.List.{length-set}
use Rattle.c_scopes.specs.declared.binding.Binding.{Binding}
use Rattle.c_scopes.specs.Bindings.{newest, IsChain, Ties}

read_same : {X : Type 0} (xs : List X) (i : ℕ) (x : X) → i < length xs → slice_get (slice_set xs i x) i ≡ Some x
read_same [] i x lt = absurd (omega arith)
read_same (y ∷ xs) zero x lt = refl
read_same (y ∷ xs) (suc i) x lt = read_same xs i x (omega arith)

read_other : {X : Type 0} (xs : List X) (i k : ℕ) (x : X) → (k ≡ i → ⊥) → slice_get (slice_set xs i x) k ≡ slice_get xs k
read_other [] i k x ne = refl
read_other (y ∷ xs) zero zero x ne = absurd (ne refl)
read_other (y ∷ xs) zero (suc k) x ne = refl
read_other (y ∷ xs) (suc i) zero x ne = refl
read_other (y ∷ xs) (suc i) (suc k) x ne = read_other xs i k x (λ e. ne (ap suc e))

pub read_prefix : {X : Type 0} (xs ys : List X) (k : ℕ) → k < length xs → slice_get (xs ++ ys) k ≡ slice_get xs k
read_prefix [] ys k lt = absurd (omega arith)
read_prefix (x ∷ xs) ys zero lt = refl
read_prefix (x ∷ xs) ys (suc k) lt = read_prefix xs ys k (omega arith)

pub read_last : {X : Type 0} (xs : List X) (y : X) (k : ℕ) → k ≡ length xs → slice_get (xs ++ y ∷ []) k ≡ Some y
read_last [] y zero e = refl
read_last [] y (suc k) e = absurd (omega arith)
read_last (x ∷ xs) y zero e = absurd (omega arith)
read_last (x ∷ xs) y (suc k) e = read_last xs y k (omega arith)

module _ {V : Type 0} where
  -- the place is one of the bindings
  pub newest_within : (n : ℕ) (bs : List (Binding V)) (p : ℕ) → newest n bs ≡ Some p → p < length bs
  newest_within n [] p e = absurd cc
  newest_within n (b ∷ older) p e = by (newest_within n older p) (eqb n b.name) e
    where
      by : (newest n older ≡ Some p → p < length older) → (t : Bool) → cond t (Some (length older)) (newest n older) ≡ Some p → p < length (b ∷ older)
      by below true h = let same : length older ≡ p = cc in omega arith
      by below false h = let within = below h in omega arith

  -- a number past those in use has none
  newest_past : (limit n : ℕ) (bs : List (Binding V)) → IsChain limit bs → limit ≤ n → newest n bs ≡ None
  newest_past limit n [] h le = refl
  newest_past limit n (b ∷ older) h le =
      let other : (n ≡ b.name → ⊥) = λ e. let lt : b.name < limit = h.0 in absurd (omega arith) in
      ap (λ t. cond t (Some (length older)) (newest n older)) (ne_eqb n b.name other) ∙ newest_past limit n older h.2 le

  chain_more : (limit more : ℕ) (bs : List (Binding V)) → IsChain limit bs → limit ≤ more → IsChain more bs
  chain_more limit more [] h le = tt
  chain_more limit more (b ∷ older) h le = (let lt : b.name < limit = h.0 in omega arith, h.1, chain_more limit more older h.2 le)

  -- after one more place
  pub ties_grown : (places : List (Option ℕ)) (bs : List (Binding V)) → Ties places bs → Ties (places ++ None ∷ []) bs
  ties_grown places bs h = record {
    chain = chain_more (length places) (length (places ++ None ∷ [])) bs h.chain (let l : length (places ++ None ∷ []) ≡ length places + 1 = length-append places (None ∷ []) in omega arith);
    newest_of = λ n lt. by n lt (cases_lt n (length places));
  }
    where
      by : (n : ℕ) → n < length (places ++ None ∷ []) → (n < length places) ⊎ (length places ≤ n) → slice_get (places ++ None ∷ []) n ≡ Some (newest n bs)
      by n lt (inl stands_before) = read_prefix places (None ∷ []) n stands_before ∙ h.newest_of n stands_before
      by n lt (inr past) = read_last places None n (let l : length (places ++ None ∷ []) ≡ length places + 1 = length-append places (None ∷ []) in omega arith) ∙ ap Some (sym (newest_past (length places) n bs h.chain past))

  -- after one more binding
  pub ties_bound : (places : List (Option ℕ)) (bs : List (Binding V)) (b : Binding V) (place : ℕ) → Ties places bs → b.name < length places → b.hidden ≡ newest b.name bs → place ≡ length bs → Ties (slice_set places b.name (Some place)) (b ∷ bs)
  ties_bound places bs b place h lt hides at =
      let size : length (slice_set places b.name (Some place)) ≡ length places = length-set places b.name (Some place) in record {
        chain = (let same = size in omega arith, hides, chain_more (length places) (length (slice_set places b.name (Some place))) bs h.chain (omega arith));
        newest_of = λ n within. by n (omega arith) (eqb n b.name) refl;
      }
    where
      by : (n : ℕ) → n < length places → (t : Bool) → eqb n b.name ≡ t → slice_get (slice_set places b.name (Some place)) n ≡ Some (newest n (b ∷ bs))
      by n within true e =
          let here : n ≡ b.name = eqb-true n b.name e in
          ap (λ k. slice_get (slice_set places b.name (Some place)) k) here
          ∙ (read_same places b.name (Some place) lt ∙ (ap (λ p. Some (Some p)) at ∙ sym (ap (λ t. Some (cond t (Some (length bs)) (newest n bs))) e)))
      by n within false e =
          read_other places b.name n (Some place) (eqb-false n b.name e)
          ∙ (h.newest_of n within ∙ sym (ap (λ t. Some (cond t (Some (length bs)) (newest n bs))) e))

  -- after the newest binding was taken away
  pub ties_taken : (places : List (Option ℕ)) (b : Binding V) (bs : List (Binding V)) → Ties places (b ∷ bs) → Ties (slice_set places b.name b.hidden) bs
  ties_taken places b bs h =
      let size : length (slice_set places b.name b.hidden) ≡ length places = length-set places b.name b.hidden in record {
        chain = chain_more (length places) (length (slice_set places b.name b.hidden)) bs h.chain.2 (omega arith);
        newest_of = λ n within. by n (omega arith) (eqb n b.name) refl;
      }
    where
      by : (n : ℕ) → n < length places → (t : Bool) → eqb n b.name ≡ t → slice_get (slice_set places b.name b.hidden) n ≡ Some (newest n bs)
      by n within true e =
          let here : n ≡ b.name = eqb-true n b.name e in
          ap (λ k. slice_get (slice_set places b.name b.hidden) k) here
          ∙ (read_same places b.name b.hidden h.chain.0 ∙ (ap Some h.chain.1 ∙ ap (λ k. Some (newest k bs)) (sym here)))
      by n within false e =
          read_other places b.name n b.hidden (eqb-false n b.name e)
          ∙ (h.newest_of n within ∙ ap (λ t. Some (cond t (Some (length bs)) (newest n bs))) e)
