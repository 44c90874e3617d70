-- Readers on bytes that are a prefix of a text, or that have a text at the prefix.
use Rattle.std.proofs.Common.{◌≡◌, ℕ, ◌<◌, ◌≤◌, List, [], ◌∷◌, ◌++◌, length, drop, refl, sym, ap, ◌∙◌, append_assoc, arith}
use Rattle.std.proofs.lemmas.List.{length-append}
use Rattle.byte_format.specs.Reading.{Reading, Done, Short, Wrong, after}
use Rattle.byte_format.proofs.Readers.{Reads, IsBytes, done_is}

-- ---- lists

pub same_prefix : {A : Type 0} (a z s more : List A) → a ++ z ≡ s ++ more → length a ≤ length s → (s ≡ a ++ drop (length a) s) × (drop (length a) s ++ more ≡ z)
same_prefix [] z s more e le = (refl, sym e)
same_prefix (x ∷ a) z [] more e le = absurd (omega arith)
same_prefix (x ∷ a) z (y ∷ s) more e le =
    let heads : x ≡ y = cc in
    let tails : a ++ z ≡ s ++ more = cc in
    let r = same_prefix a z s more tails (omega arith) in
    (ap (λ w. w ∷ s) (sym heads) ∙ ap (λ (w : List _). x ∷ w) r.0, r.1)

-- ---- a value whose text the bytes begin, or that begins with the bytes

module _ {X : Type 0} (read : List ℕ → Reading X) (text : X → List ℕ) (Fits : X → Type 0) (reads : Reads read text Fits) (v : X) (fits : Fits v) (z s more : List ℕ) (parts : text v ++ z ≡ s ++ more) where
  pub cut_done : length (text v) ≤ length s → read s ≡ Done (v, drop (length (text v)) s)
  cut_done le =
      let f = same_prefix (text v) z s more parts le in
      ap read f.0 ∙ reads.again v (drop (length (text v)) s) fits

  pub cut_not : IsBytes s → length s < length (text v) → (x : X × List ℕ) → read s ≡ Done x → ⊥
  cut_not bytes lt x e =
      let t = reads.takes s x bytes e in
      let one : read (s ++ more) ≡ Done (x.0, x.1 ++ more) = ap (λ (w : List ℕ). read (w ++ more)) t.0 ∙ ap read (append_assoc (text x.0) x.1 more) ∙ reads.again x.0 (x.1 ++ more) t.1 in
      let two : read (s ++ more) ≡ Done (v, z) = ap read (sym parts) ∙ reads.again v z fits in
      let same = done_is (x.0, x.1 ++ more) (v, z) (sym one ∙ two) in
      let len : length (text x.0) ≡ length (text v) = ap (λ (p : X × List ℕ). length (text p.0)) same in
      let whole : length s ≡ length (text x.0 ++ x.1) = ap length t.0 in
      omega (arith, length-append (text x.0) x.1)

-- ---- what follows a reading that is not done

pub after_nothing : {A B : Type 0} (r : Reading A) (f : A × List ℕ → List B) → ((x : A × List ℕ) → r ≡ Done x → ⊥) → after r f ≡ []
after_nothing (Done x) f h = absurd (h x refl)
after_nothing Short f h = refl
after_nothing (Wrong n) f h = refl
