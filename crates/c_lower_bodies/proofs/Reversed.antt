-- A list that is kept from its end.
use Rattle.std.proofs.Common.{◌≡◌, ℕ, List, [], ◌∷◌, ◌++◌, length, map, sym, ap, ◌∙◌, append_assoc}
use Rattle.std.specs.Prelude.{reverse}
use Rattle.std.proofs.Math.ListN.{set}
use Rattle.std.proofs.Math.Seq.{set-append_seam}
use Rattle.std.proofs.lemmas.List.{map-append, map-set, reverse-append, reverse-reverse, length-reverse}

module _ {A : Type 0} where
  turned : (before after : List A) (x : A) → reverse (before ++ x ∷ after) ≡ reverse after ++ x ∷ reverse before
  turned before after x = reverse-append before (x ∷ after) ∙ (ap (λ l. l ++ reverse before) (reverse-append (x ∷ []) after) ∙ append_assoc (reverse after) (x ∷ []) (reverse before))

  -- an item in the place of another
  placed : (r before after : List A) (old new : A) (n : ℕ) → reverse r ≡ before ++ old ∷ after → length after ≡ n → reverse (set r n new) ≡ before ++ new ∷ after
  placed r before after old new n e h =
      let there : r ≡ reverse after ++ old ∷ reverse before = sym (reverse-reverse r) ∙ (ap reverse e ∙ turned before after old) in
      let at : n ≡ length (reverse after) = sym h ∙ sym (length-reverse after) in
      let made : set r n new ≡ reverse after ++ new ∷ reverse before = ap (λ l. set l n new) there ∙ (ap (λ k. set (reverse after ++ old ∷ reverse before) k new) at ∙ set-append_seam (reverse after) old (reverse before) new) in
      ap reverse made ∙ (ap reverse (sym (turned before after new)) ∙ reverse-reverse (before ++ new ∷ after))

-- the same where items are read as others
module _ {A B : Type 0} (f : A → B) where
  pub replaced : (r : List A) (before after : List B) (old : B) (new : A) (n : ℕ) → reverse (map f r) ≡ before ++ old ∷ after → length after ≡ n → reverse (map f (set r n new)) ≡ before ++ f new ∷ after
  replaced r before after old new n e h = ap reverse (map-set f r n new) ∙ placed (map f r) before after old (f new) n e h

  -- an item put last is the first
  pub put_last : (r : List A) (x : A) → reverse (map f (r ++ x ∷ [])) ≡ f x ∷ reverse (map f r)
  put_last r x = ap reverse (map-append f r (x ∷ [])) ∙ reverse-append (map f r) (f x ∷ [])
