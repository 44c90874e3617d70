-- Words of changes.
use Rattle.std.proofs.Common.{◌≡◌, ℕ, zero, suc, ◌*◌, ◌/◌, ◌%◌, ◌^◌, ◌<◌, ◌≤◌, Bool, true, false, cond, List, [], ◌∷◌, length, take, bit_and, bit_xor, ◌⊎◌, inl, inr, Option, Some, None, Result, Ok, Err, OnOk, OnErr, refl, sym, ap, subst, ◌∙◌}
use Rattle.std.specs.Prelude.{nat_eq, slice_get}
use Rattle.std.specs.Int.Bits.{and_zero_r, xor_zero_l, xor_zero_r}
use Rattle.std.specs.List.{AllByRecursion, IsDistinct}
use Rattle.std.specs.Map.{keys_of, lookup}
use Rattle.std.specs.Option.{unwrap_or}
use Rattle.std.proofs.lemmas.Bool.{eq-eqb, eqb-true}
use Rattle.std.proofs.lemmas.List.{take_all}
use Rattle.std.proofs.lemmas.Map.Keys.{IsDistinct-head, IsDistinct-tail}
use mathlib.Core.Logic.{⊎_elim}
use Rattle.lockset_check_held.specs.Changes.{AreBoth, AreWords, Changes, StaysWithin, Xors, change_of, is_turned, one_of, one_word, turned}
use Rattle.lockset_check_held.specs.Rows.{IsWithin, has_bit, word_of}
use Rattle.lockset_check_held.proofs.Bits.{anded, no_bit, place_bit, same_bit, some_bit, xored}

other_way : (a b : ℕ) → nat_eq a b ≡ nat_eq b a
other_way a b = by (nat_eq a b) refl (nat_eq b a) refl
  where
    by : (x : Bool) → nat_eq a b ≡ x → (y : Bool) → nat_eq b a ≡ y → nat_eq a b ≡ nat_eq b a
    by true e y f = e ∙ sym (eq-eqb b a (sym (eqb-true a b e)))
    by false e true f = absurd (let no : true ≡ false = sym (eq-eqb a b (sym (eqb-true b a f))) ∙ e in cc)
    by false e false f = e ∙ sym f

-- ---- one word turns

-- an entry is put in, or none is left
module _ (old new : Changes) (number bits : ℕ) (w : Option ℕ) (is : unwrap_or w 0 ≡ bit_xor (change_of old number) bits)
    (h : (q : ℕ) → lookup (nat_eq q) new ≡ cond (nat_eq number q) w (lookup (nat_eq q) old)) where
  pub put_turned : Xors (one_word number bits) (change_of old) (change_of new)
  put_turned n = ap (λ (o : Option ℕ). unwrap_or o 0) (h n) ∙ by (nat_eq number n) refl
    where
      by : (b : Bool) → nat_eq number n ≡ b → unwrap_or (cond (nat_eq number n) w (lookup (nat_eq n) old)) 0 ≡ bit_xor (change_of old n) (one_word number bits n)
      by true e =
          ap (λ (b : Bool). unwrap_or (cond b w (lookup (nat_eq n) old)) 0) e
          ∙ (is ∙ (ap (λ (q : ℕ). bit_xor (change_of old q) bits) (eqb-true number n e)
          ∙ sym (ap (λ (b : Bool). bit_xor (change_of old n) (cond b bits 0)) e)))
      by false e =
          ap (λ (b : Bool). unwrap_or (cond b w (lookup (nat_eq n) old)) 0) e
          ∙ (sym (xor_zero_r (change_of old n))
          ∙ sym (ap (λ (b : Bool). bit_xor (change_of old n) (cond b bits 0)) e))

pub put_words : (old new : Changes) (number : ℕ) (w : Option ℕ) → ((q : ℕ) → lookup (nat_eq q) new ≡ cond (nat_eq number q) w (lookup (nat_eq q) old))
    → AreWords old → ((x : ℕ) → w ≡ Some x → (0 < x) × (x < 2 ^ 64)) → AreWords new
put_words old new number w h a b n x e = by (nat_eq number n) refl
  where
    by : (c : Bool) → nat_eq number n ≡ c → (0 < x) × (x < 2 ^ 64)
    by true f = b x (sym (ap (λ (c : Bool). cond c w (lookup (nat_eq n) old)) f) ∙ (sym (h n) ∙ e))
    by false f = a n x (sym (ap (λ (c : Bool). cond c w (lookup (nat_eq n) old)) f) ∙ (sym (h n) ∙ e))

pub no_words : AreWords []
no_words n x e = absurd cc

-- ---- no changes

pub nothing_turned : (p : ℕ) → is_turned [] p ≡ false
nothing_turned p = no_bit (change_of []) p refl

pub some_turned : (changes : Changes) → AreWords changes → (length changes ≡ 0 → ⊥) → (p : ℕ) × (is_turned changes p ≡ true)
some_turned [] words some = absurd (some refl)
some_turned (e ∷ es) words some =
    let found : lookup (nat_eq e.0) (e ∷ es) ≡ Some e.1 = ap (λ (b : Bool). cond b (Some e.1) (lookup (nat_eq e.0) es)) (eq-eqb e.0 e.0 refl) in
    let is : e.1 ≡ change_of (e ∷ es) e.0 = sym (ap (λ (o : Option ℕ). unwrap_or o 0) found) in
    let fits = words e.0 e.1 found in
    some_bit (change_of (e ∷ es)) e.0 (subst (λ (x : ℕ). 0 < x) is fits.0) (subst (λ (x : ℕ). x < 2 ^ 64) is fits.1)

-- ---- one word after another

-- a word of the first of some changes
prefix_word : (changes : Changes) (i n : ℕ) → (change_of (take i changes) n ≡ change_of changes n) ⊎ (change_of (take i changes) n ≡ 0)
prefix_word changes zero n = inr refl
prefix_word [] (suc i) n = inl refl
prefix_word (e ∷ es) (suc i) n = by (prefix_word es i n) (nat_eq n e.0) refl
  where
    at : (b : Bool) → nat_eq n e.0 ≡ b → (cs : Changes) → change_of (e ∷ cs) n ≡ unwrap_or (cond b (Some e.1) (lookup (nat_eq n) cs)) 0
    at b f cs = ap (λ (c : Bool). unwrap_or (cond c (Some e.1) (lookup (nat_eq n) cs)) 0) f

    by : (change_of (take i es) n ≡ change_of es n) ⊎ (change_of (take i es) n ≡ 0) → (b : Bool) → nat_eq n e.0 ≡ b
        → (change_of (e ∷ take i es) n ≡ change_of (e ∷ es) n) ⊎ (change_of (e ∷ take i es) n ≡ 0)
    by rest true f = inl (at true f (take i es) ∙ sym (at true f es))
    by rest false f = ⊎_elim
        (λ (same : change_of (take i es) n ≡ change_of es n). inl (at false f (take i es) ∙ (same ∙ sym (at false f es))))
        (λ (none : change_of (take i es) n ≡ 0). inr (at false f (take i es) ∙ none))
        rest

pub prefix_within : (changes : Changes) (i count : ℕ) → IsWithin count (is_turned changes) → IsWithin count (is_turned (take i changes))
prefix_within changes i count h p le = ⊎_elim
    (λ (same : change_of (take i changes) (p / 64) ≡ change_of changes (p / 64)). same_bit (change_of (take i changes)) (change_of changes) p same ∙ h p le)
    (λ (none : change_of (take i changes) (p / 64) ≡ 0). no_bit (change_of (take i changes)) p none)
    (prefix_word changes i (p / 64))

pub turned_within : (by test : ℕ → Bool) (count : ℕ) → IsWithin count by → IsWithin count test → IsWithin count (turned by test)
turned_within by test count b t p le = λ j. one_of (b p le j) (t p le j)

-- none of the others has the number of one
other_number : (number : ℕ) (changes : Changes) (i : ℕ) (e : ℕ × ℕ) → AllByRecursion (λ k. nat_eq number k ≡ false) (keys_of changes) → slice_get changes i ≡ Some e → nat_eq number e.0 ≡ false
other_number number [] zero e h f = absurd cc
other_number number [] (suc i) e h f = absurd cc
other_number number (x ∷ xs) zero e h f = let same : x ≡ e = cc in ap (λ (y : ℕ × ℕ). nat_eq number y.0) (sym same) ∙ h.0
other_number number (x ∷ xs) (suc i) e h f = other_number number xs i e h.1 f

-- a word of one more of the changes
pub next_word : (changes : Changes) (i : ℕ) (e : ℕ × ℕ) → IsDistinct nat_eq (keys_of changes) → slice_get changes i ≡ Some e → (n : ℕ)
    → (change_of (take (suc i) changes) n ≡ cond (nat_eq e.0 n) e.1 (change_of (take i changes) n)) × (nat_eq e.0 n ≡ true → change_of (take i changes) n ≡ 0)
next_word [] zero e d f n = absurd cc
next_word [] (suc i) e d f n = absurd cc
next_word (x ∷ xs) zero e d f n =
    let same : x ≡ e = cc in (
      ap (λ (y : ℕ × ℕ). unwrap_or (cond (nat_eq n y.0) (Some y.1) None) 0) same
          ∙ (ap (λ (b : Bool). unwrap_or (cond b (Some e.1) None) 0) (other_way n e.0) ∙ either (nat_eq e.0 n)),
      λ here. refl,
    )
  where
    either : (b : Bool) → unwrap_or (cond b (Some e.1) None) 0 ≡ cond b e.1 0
    either true = refl
    either false = refl
next_word (x ∷ xs) (suc i) e d f n = by (next_word xs i e (IsDistinct-tail nat_eq x.0 (keys_of xs) d) f n) (nat_eq n x.0) refl
  where
    apart : nat_eq x.0 e.0 ≡ false
    apart = other_number x.0 xs i e (IsDistinct-head nat_eq x.0 (keys_of xs) d) f

    at : (b : Bool) → nat_eq n x.0 ≡ b → (cs : Changes) → change_of (x ∷ cs) n ≡ unwrap_or (cond b (Some x.1) (lookup (nat_eq n) cs)) 0
    at b g cs = ap (λ (c : Bool). unwrap_or (cond c (Some x.1) (lookup (nat_eq n) cs)) 0) g

    by : ((change_of (take (suc i) xs) n ≡ cond (nat_eq e.0 n) e.1 (change_of (take i xs) n)) × (nat_eq e.0 n ≡ true → change_of (take i xs) n ≡ 0))
        → (b : Bool) → nat_eq n x.0 ≡ b
        → (change_of (x ∷ take (suc i) xs) n ≡ cond (nat_eq e.0 n) e.1 (change_of (x ∷ take i xs) n)) × (nat_eq e.0 n ≡ true → change_of (x ∷ take i xs) n ≡ 0)
    by rest true g =
        let here : n ≡ x.0 = eqb-true n x.0 g in
        let off : nat_eq e.0 n ≡ false = ap (nat_eq e.0) here ∙ (other_way e.0 x.0 ∙ apart) in (
          at true g (take (suc i) xs) ∙ sym (ap (λ (b : Bool). cond b e.1 (change_of (x ∷ take i xs) n)) off ∙ at true g (take i xs)),
          λ on. absurd (let no : true ≡ false = sym on ∙ off in cc),
        )
    by rest false g = (
      at false g (take (suc i) xs) ∙ (rest.0 ∙ sym (ap (cond (nat_eq e.0 n) e.1) (at false g (take i xs)))),
      λ on. at false g (take i xs) ∙ rest.1 on,
    )

module _ (changes : Changes) (i : ℕ) (e : ℕ × ℕ) (d : IsDistinct nat_eq (keys_of changes)) (f : slice_get changes i ≡ Some e) (old now new : ℕ → ℕ) where
  -- words that turn
  pub next_turned : Xors (change_of (take i changes)) old now → Xors (one_word e.0 e.1) now new → Xors (change_of (take (suc i) changes)) old new
  next_turned h g n = by (next_word changes i e d f n) (nat_eq e.0 n) refl
    where
      part : ℕ
      part = change_of (take i changes) n

      by : ((change_of (take (suc i) changes) n ≡ cond (nat_eq e.0 n) e.1 part) × (nat_eq e.0 n ≡ true → part ≡ 0))
          → (b : Bool) → nat_eq e.0 n ≡ b → new n ≡ bit_xor (old n) (change_of (take (suc i) changes) n)
      by next true here =
          g n
          ∙ (ap (λ (b : Bool). bit_xor (now n) (cond b e.1 0)) here
          ∙ (ap (λ (w : ℕ). bit_xor w e.1) (h n ∙ (ap (bit_xor (old n)) (next.1 here) ∙ xor_zero_r (old n)))
          ∙ sym (ap (bit_xor (old n)) (next.0 ∙ ap (λ (b : Bool). cond b e.1 part) here))))
      by next false off =
          g n
          ∙ (ap (λ (b : Bool). bit_xor (now n) (cond b e.1 0)) off
          ∙ (xor_zero_r (now n)
          ∙ (h n ∙ sym (ap (bit_xor (old n)) (next.0 ∙ ap (λ (b : Bool). cond b e.1 part) off)))))

  -- words that are shared with others
  pub next_both : (bits : ℕ) → bits ≡ bit_and (old e.0) e.1 → ((n : ℕ) → now n ≡ bit_and (old n) (change_of (take i changes) n)) → Xors (one_word e.0 bits) now new
      → (n : ℕ) → new n ≡ bit_and (old n) (change_of (take (suc i) changes) n)
  next_both bits is h g n = by (next_word changes i e d f n) (nat_eq e.0 n) refl
    where
      part : ℕ
      part = change_of (take i changes) n

      by : ((change_of (take (suc i) changes) n ≡ cond (nat_eq e.0 n) e.1 part) × (nat_eq e.0 n ≡ true → part ≡ 0))
          → (b : Bool) → nat_eq e.0 n ≡ b → new n ≡ bit_and (old n) (change_of (take (suc i) changes) n)
      by next true here =
          g n
          ∙ (ap (λ (b : Bool). bit_xor (now n) (cond b bits 0)) here
          ∙ (ap (λ (w : ℕ). bit_xor w bits) (h n ∙ (ap (bit_and (old n)) (next.1 here) ∙ and_zero_r (old n)))
          ∙ (xor_zero_l bits
          ∙ (is ∙ (ap (λ (q : ℕ). bit_and (old q) e.1) (eqb-true e.0 n here)
          ∙ sym (ap (bit_and (old n)) (next.0 ∙ ap (λ (b : Bool). cond b e.1 part) here)))))))
      by next false off =
          g n
          ∙ (ap (λ (b : Bool). bit_xor (now n) (cond b bits 0)) off
          ∙ (xor_zero_r (now n)
          ∙ (h n ∙ sym (ap (bit_and (old n)) (next.0 ∙ ap (λ (b : Bool). cond b e.1 part) off)))))

module _ (changes : Changes) (old : ℕ → ℕ) where
  pub none_turned : Xors (change_of (take 0 changes)) old old
  none_turned n = sym (xor_zero_r (old n))

  module _ (i : ℕ) (now : ℕ → ℕ) (h : Xors (change_of (take i changes)) old now) where
    pub each_turned : length changes ≤ i → has_bit now ≡ turned (is_turned changes) (has_bit old)
    each_turned le = xored (change_of changes) old now (λ n. h n ∙ ap (λ (cs : Changes). bit_xor (old n) (change_of cs n)) (take_all i changes le))

    pub some_within : StaysWithin (is_turned changes) (has_bit old) (has_bit now)
    some_within count b o = subst (IsWithin count) (sym (xored (change_of (take i changes)) old now h))
        (turned_within (is_turned (take i changes)) (has_bit old) count (prefix_within changes i count b) o)

pub none_both : (changes : Changes) (row : ℕ → ℕ) (n : ℕ) → change_of [] n ≡ bit_and (row n) (change_of (take 0 changes) n)
none_both changes row n = sym (and_zero_r (row n))

pub each_both : (row : List ℕ) (changes both : Changes) (i : ℕ) → length changes ≤ i → ((n : ℕ) → change_of both n ≡ bit_and (word_of row n) (change_of (take i changes) n)) → AreBoth row changes both
each_both row changes both i le h = anded (word_of row) (change_of changes) (change_of both)
    (λ n. h n ∙ ap (λ (cs : Changes). bit_and (word_of row n) (change_of cs n)) (take_all i changes le))

-- ---- one place

-- what holds of both results
pub either_way : {T E P Q R : Type 0} (r : Result T E) → OnOk r P → OnErr r Q → (P → R) → (Q → R) → R
either_way (Ok x) p q f g = f p
either_way (Err y) p q f g = g q

pub place_stays : (place : ℕ) (old new : ℕ → Bool) → new ≡ turned (nat_eq place) old → StaysWithin (nat_eq place) old new
place_stays place old new h count b o = subst (IsWithin count) (sym h) (turned_within (nat_eq place) old count b o)

pub same_stays : (by old new : ℕ → Bool) → new ≡ old → StaysWithin by old new
same_stays by old new h count b o = subst (IsWithin count) (sym h) o

module _ (place bits : ℕ) (is : bits ≡ 1 * 2 ^ (place % 64) % 2 ^ 64) (old new : ℕ → ℕ) where
  pub place_turned : Xors (one_word (place / 64) bits) old new → has_bit new ≡ turned (nat_eq place) (has_bit old)
  place_turned h = xored (one_word (place / 64) bits) old new h ∙ ap (λ (by : ℕ → Bool). turned by (has_bit old)) (place_bit place bits is)
