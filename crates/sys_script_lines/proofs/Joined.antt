-- Lists that are read item by item.
use Rattle.std.proofs.Common.{◌≡◌, ℕ, List, [], ◌∷◌, ◌++◌, Option, Some, None, refl, sym, ap, ◌∙◌, append_assoc, append-nil}
use Rattle.std.specs.Option.{option_map, option_and_then}
use Rattle.std.proofs.lemmas.Option.{same_Some}
use Rattle.sys_script_lines.specs.Each.{before, each}

-- the items so far, and those that are left
abbrev pub joined : {A : Type 0} → List A → Option (List A) → Option (List A)
joined xs more = option_map (λ ys. xs ++ ys) more

module _ {A : Type 0} where
  pub joined_start : (more : Option (List A)) → joined [] more ≡ more
  joined_start None = refl
  joined_start (Some ys) = refl

  pub joined_before : (xs : List A) (x : A) (more : Option (List A)) → joined xs (before more x) ≡ joined (xs ++ x ∷ []) more
  joined_before xs x None = refl
  joined_before xs x (Some ys) = ap Some (sym (append_assoc xs (x ∷ []) ys))

  -- one word more
  pub each_goes_on : (item : List ℕ → Option A) (xs : List A) (x : A) (word : List ℕ) (words : List (List ℕ)) (all : List (List ℕ)) → all ≡ word ∷ words → item word ≡ Some x → joined (xs ++ x ∷ []) (each item words) ≡ joined xs (each item all)
  each_goes_on item xs x word words all is e =
      sym (ap (λ ws. joined xs (each item ws)) is
      ∙ (ap (λ o. joined xs (option_and_then (before (each item words)) o)) e
      ∙ joined_before xs x (each item words)))

  -- the same, as it is said of the items so far
  pub each_added : (item : List ℕ → Option A) (xs ys : List A) (word : List ℕ) (words : List (List ℕ)) (all : List (List ℕ)) → all ≡ word ∷ words → option_map (λ x. xs ++ x ∷ []) (item word) ≡ Some ys → joined ys (each item words) ≡ joined xs (each item all)
  each_added item xs ys word words all is e = by (item word) refl e
    where
      by : (o : Option A) → item word ≡ o → option_map (λ x. xs ++ x ∷ []) o ≡ Some ys → joined ys (each item words) ≡ joined xs (each item all)
      by None z k = absurd cc
      by (Some x) z k = ap (λ zs. joined zs (each item words)) (sym (same_Some (xs ++ x ∷ []) ys k)) ∙ each_goes_on item xs x word words all is z

  -- a word that is wrong
  pub each_stops : (item : List ℕ → Option A) (xs : List A) (word : List ℕ) (words : List (List ℕ)) (all : List (List ℕ)) → all ≡ word ∷ words → item word ≡ None → joined xs (each item all) ≡ None
  each_stops item xs word words all is e =
      ap (λ ws. joined xs (each item ws)) is
      ∙ ap (λ o. joined xs (option_and_then (before (each item words)) o)) e

  -- the last word
  pub each_ends : (item : List ℕ → Option A) (xs : List A) (x : A) (word : List ℕ) (all : List (List ℕ)) → all ≡ word ∷ [] → item word ≡ Some x → joined xs (each item all) ≡ Some (xs ++ x ∷ [])
  each_ends item xs x word all is e = sym (each_goes_on item xs x word [] all is e) ∙ ap Some (append-nil (xs ++ x ∷ []))
