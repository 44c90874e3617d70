-- Names and their numbers.
use Rattle.std.proofs.Common.{◌≡◌, ℕ, zero, suc, ◌+◌, ◌<◌, Bool, true, false, cond, ltb, eqb, List, [], ◌∷◌, ◌++◌, length, get_or, Some, None, refl, sym, ap, ◌∙◌, arith, length-append}
use Rattle.std.specs.List.{position, position_or_len}
use Rattle.std.proofs.lemmas.Bool.{lt-ltb, eq-eqb, ne_eqb, both_ways}
use Rattle.std.proofs.lemmas.List.Quantifiers.{position-Some}
use Rattle.std.proofs.lemmas.List.Sums.{position_or_len_is}
use Rattle.std.proofs.lemmas.Slice.Eq.{bytes_eq-Decides}
use Rattle.std.proofs.Math.ListN.{get_or-append}
use Rattle.c_scopes.specs.declared.binding.Binding.{Binding}
use Rattle.c_scopes.specs.Scopes.{same_name}
use Rattle.c_scopes.specs.Bindings.{Name, index_of, text_at, IsNumbered}

-- the first place that passes
position_from : {X : Type 0} (p : X → Bool) (xs : List X) (i : ℕ) (d : X) → i < length xs → p (get_or xs i d) ≡ true → ((k : ℕ) → k < i → p (get_or xs k d) ≡ false) → position p xs ≡ Some i
position_from p xs i d lt here before =
    let e : position_or_len p xs ≡ i = position_or_len_is p xs i d (omega arith) before (λ _. here) in
    ap (λ n. cond (ltb n (length xs)) (Some n) None) e ∙ ap (λ b. cond b (Some i) None) (lt-ltb i (length xs) lt)

-- it stays where more follows
position_stays : {X : Type 0} (p : X → Bool) (xs ys : List X) (i : ℕ) (d : X) → position p xs ≡ Some i → position p (xs ++ ys) ≡ Some i
position_stays p xs ys i d e =
    let h = position-Some p xs i d e in
    let longer : i < length (xs ++ ys) = let l = length-append xs ys in let a = h.0 in omega arith in
    position_from p (xs ++ ys) i d longer (ap p (get_or-append xs ys d i h.0) ∙ h.1) (λ k lt. let stands_before : k < length xs = let a = h.0 in omega arith in ap p (get_or-append xs ys d k stands_before) ∙ h.2 k lt)

-- a name keeps its number
pub index_stays : (name : List ℕ) (names more : List Name) (n : ℕ) → index_of name names ≡ Some n → index_of name (names ++ more) ≡ Some n
index_stays name [] more n e = absurd cc
index_stays name (k ∷ names) more n e = position_stays (λ (x : Name). same_name name x.items) (k ∷ names) more n k e

text_at_is : (names : List Name) (n : ℕ) (d : Name) → n < length names → text_at names n ≡ (get_or names n d).items
text_at_is [] n d lt = absurd (omega arith)
text_at_is (k ∷ names) zero d lt = refl
text_at_is (k ∷ names) (suc n) d lt = text_at_is names n d (omega arith)

found : (name : List ℕ) (names : List Name) (n : ℕ) (d : Name) → index_of name names ≡ Some n → (n < length names) × (text_at names n ≡ name)
found name names n d e =
    let h = position-Some (λ (x : Name). same_name name x.items) names n d e in
    (h.0, text_at_is names n d h.0 ∙ sym ((bytes_eq-Decides name (get_or names n d).items).0 h.1))

-- a number is that of a name of the list
pub index_within : (name : List ℕ) (names : List Name) (n : ℕ) → index_of name names ≡ Some n → n < length names
index_within name [] n e = absurd cc
index_within name (k ∷ names) n e = (found name (k ∷ names) n k e).0

-- the name that has a number stands there
pub text_found : (name : List ℕ) (names : List Name) (n : ℕ) → index_of name names ≡ Some n → text_at names n ≡ name
text_found name [] n e = absurd cc
text_found name (k ∷ names) n e = (found name (k ∷ names) n k e).1

pub text_stays : (names more : List Name) (n : ℕ) → n < length names → text_at (names ++ more) n ≡ text_at names n
text_stays [] more n lt = absurd (omega arith)
text_stays (k ∷ names) more zero lt = refl
text_stays (k ∷ names) more (suc n) lt = text_stays names more n (omega arith)

module _ {V : Type 0} where
  -- a binding stays numbered where names are added
  pub numbered_stays : (names more : List Name) (b : Binding V) → IsNumbered names b → IsNumbered (names ++ more) b
  numbered_stays names more b e =
      let same = text_stays names more b.name (index_within (text_at names b.name) names b.name e) in
      ap (λ t. index_of t (names ++ more)) same ∙ index_stays (text_at names b.name) names more b.name e

  -- a name that has no number isn't that of a binding
  pub other_name : (name : List ℕ) (names : List Name) (b : Binding V) → IsNumbered names b → index_of name names ≡ None → same_name name (text_at names b.name) ≡ false
  other_name name names b e none = by (same_name name (text_at names b.name)) refl
    where
      by : (t : Bool) → same_name name (text_at names b.name) ≡ t → same_name name (text_at names b.name) ≡ false
      by true s =
          let same : name ≡ text_at names b.name = (bytes_eq-Decides name (text_at names b.name)).0 s in
          let there : index_of name names ≡ Some b.name = ap (λ t. index_of t names) same ∙ e in
          absurd cc
      by false s = s

  -- names are the same where their numbers are
  pub same_number : (name : List ℕ) (names : List Name) (n : ℕ) (b : Binding V) → IsNumbered names b → index_of name names ≡ Some n → same_name name (text_at names b.name) ≡ eqb n b.name
  same_number name names n b e i = by (same_name name (text_at names b.name)) refl
    where
      by : (t : Bool) → same_name name (text_at names b.name) ≡ t → same_name name (text_at names b.name) ≡ eqb n b.name
      by true s =
          let same : name ≡ text_at names b.name = (bytes_eq-Decides name (text_at names b.name)).0 s in
          let there : index_of name names ≡ Some b.name = ap (λ t. index_of t names) same ∙ e in
          let number : n ≡ b.name = cc in
          s ∙ sym (eq-eqb n b.name number)
      by false s =
          s ∙ sym (ne_eqb n b.name (λ h.
          let there : text_at names b.name ≡ name = ap (text_at names) (sym h) ∙ text_found name names n i in
          both_ways (same_name name (text_at names b.name)) s ((bytes_eq-Decides name (text_at names b.name)).1 (sym there))))
