-- Readers of coded bytes, of lists and of literals, and their laws.
use Rattle.std.proofs.Common.{◌≡◌, ℕ, zero, suc, ◌+◌, ◌*◌, ◌^◌, ◌<◌, ◌≤◌, Bool, true, false, cond, eqb, leb, ◌&&◌, ◌/◌, ◌%◌, List, [], ◌∷◌, ◌++◌, length, get_or, Option, Some, None, refl, sym, ap, subst, ◌∙◌, arith}
use Rattle.std.specs.List.{AllByRecursion, flat_map}
use Rattle.std.specs.Int.{w16, to_be_bytes}
use Rattle.std.proofs.lemmas.Bool.{leb-true, le-leb, eqb-true, eqb-false, eq-eqb}
use Rattle.std.proofs.lemmas.List.{append-nil}
use Rattle.std.proofs.lemmas.Nat.{be_bytes_2}
use Rattle.byte_format.specs.Spelling.{counted}
use Rattle.byte_format.specs.Reading.{Reading, coded_at, at_most, only, flag_from, literal_at, low_from, some_at, list_at, counted_at}
use Rattle.byte_format.proofs.Readers.{Reads, then, reads_done, reads_as, reads_code}

-- ---- bytes that stand for values

-- the law of a chain of tests, one test at a time
pub law_if : {A : Type 0} (code : A → ℕ) (b k : ℕ) (a : A) (rest : Option A) → code a ≡ k → ((x : A) → rest ≡ Some x → code x ≡ b) → (x : A) → cond (eqb b k) (Some a) rest ≡ Some x → code x ≡ b
-- the law of a chain of tests, one test at a time
law_if code b k a rest is others x e = law_by (eqb b k) refl e where
  law_by : (t : Bool) → eqb b k ≡ t → cond t (Some a) rest ≡ Some x → code x ≡ b
  law_by true same e = let same_value : a ≡ x = cc in ap code (sym same_value) ∙ is ∙ sym (eqb-true b k same)
  law_by false same e = others x e

pub law_none : {A : Type 0} (code : A → ℕ) (b : ℕ) (x : A) → None ≡ Some x → code x ≡ b
law_none code b x e = absurd cc

abbrev pub Always : {A : Type 0} → A → Type 0
Always a = Unit {0}

-- ---- lists

head_or : {A : Type 0} → A → List A → A
head_or d [] = d
head_or d (x ∷ xs) = x

tail_of : {A : Type 0} → List A → List A
tail_of [] = []
tail_of (x ∷ xs) = xs

module _ {A : Type 0} (item : List ℕ → Reading A) (text : A → List ℕ) (Fits : A → Type 0) (reads : Reads item text Fits) where
  abbrev AreItems : ℕ → List A → Type 0
  AreItems n xs = (length xs ≡ n) × AllByRecursion Fits xs

  abbrev IsFilled : ℕ → List A → Type 0
  IsFilled n xs = Fits (head_or reads.some.0 xs) × (AreItems n (tail_of xs) × (xs ≡ head_or reads.some.0 xs ∷ tail_of xs))

  filled_text : (n : ℕ) (xs : List A) → IsFilled n xs → text (head_or reads.some.0 xs) ++ (flat_map text (tail_of xs) ++ []) ≡ flat_map text xs
  unfolding head_or tail_of
  filled_text n [] f = absurd (let e = f.1.1 in cc)
  filled_text n (x ∷ xs) f = ap (λ (z : List ℕ). text x ++ z) (append-nil (flat_map text xs))

  filled_items : (n : ℕ) (xs : List A) → IsFilled n xs → AreItems (suc n) xs
  unfolding head_or tail_of
  filled_items n [] f = absurd (let e = f.1.1 in cc)
  filled_items n (x ∷ xs) f = (ap suc f.1.0.0, (f.0, f.1.0.1))

  items_filled : (n : ℕ) (xs : List A) → AreItems (suc n) xs → IsFilled n xs
  unfolding head_or tail_of
  items_filled n [] f = absurd (omega (arith, f.0))
  items_filled n (x ∷ xs) f = (f.1.0, ((omega (arith, f.0), f.1.1), refl))

  nil_text : (xs : List A) → xs ≡ [] → [] ≡ flat_map text xs
  nil_text xs e = ap (flat_map text) (sym e)

  nil_items : (xs : List A) → xs ≡ [] → AreItems 0 xs
  nil_items xs e = subst (AreItems 0) (sym e) (refl, tt)

  items_nil : (xs : List A) → AreItems 0 xs → xs ≡ []
  items_nil [] f = refl
  items_nil (x ∷ xs) f = absurd (omega (arith, f.0))

  pub reads_list : (n : ℕ) → Reads (list_at item n) (flat_map text) (AreItems n)
  unfolding list_at head_or tail_of
  reads_list zero = reads_as (list_at item zero) _ (flat_map text) _ (AreItems zero) (reads_done (let v : List A = [] in v)) nil_text nil_items items_nil
  reads_list (suc n) = reads_as (list_at item (suc n)) _ (flat_map text) _ (AreItems (suc n))
      (then (head_or reads.some.0) reads
      (λ first _. then tail_of (reads_list n)
      (λ others _. reads_done (first ∷ others))
      (λ others xs _ e. ap tail_of e))
      (λ first xs _ e. ap (head_or reads.some.0) e.1))
      (filled_text n) (filled_items n) (items_filled n)

-- ---- a count and as many items

most_law : (most b a : ℕ) → at_most most b ≡ Some a → a ≡ b
most_law most b a e = by (leb b most) e where
  by : (t : Bool) → cond t (Some b) None ≡ Some a → a ≡ b
  by true e = cc
  by false e = absurd cc

most_fits : (most a : ℕ) → at_most most a ≡ Some a → a ≤ most
most_fits most a e = by (leb a most) refl e where
  by : (t : Bool) → leb a most ≡ t → cond t (Some a) None ≡ Some a → a ≤ most
  by true le e = leb-true _ _ le
  by false le e = absurd cc

fits_most : (most a : ℕ) → a ≤ most → at_most most a ≡ Some a
fits_most most a le = rw (le-leb a most le) refl

pub reads_most : (most : ℕ) → Reads (coded_at (at_most most)) (λ n. n ∷ []) (λ n. n ≤ most)
reads_most most = reads_as (coded_at (at_most most)) _ _ _ (λ n. n ≤ most) (reads_code (at_most most) (λ n. n) (most_law most) 0 (fits_most most 0 (omega arith))) (λ n f. refl) (most_fits most) (fits_most most)

pub reads_counted : {A : Type 0} (item : List ℕ → Reading A) (text : A → List ℕ) (Fits : A → Type 0) → Reads item text Fits → (most : ℕ) → Reads (counted_at item most) (counted text) (λ xs. (length xs ≤ most) × AllByRecursion Fits xs)
unfolding counted_at
reads_counted item text Fits reads most = reads_as (counted_at item most) _ (counted text) _ (λ xs. (length xs ≤ most) × AllByRecursion Fits xs)
    (then length (reads_most most) (λ n _. reads_list item text Fits reads n) (λ n xs _ f. f.0))
    (λ xs f. refl) (λ xs f. (f.0, f.1.1)) (λ xs f. (f.0, (refl, f.1)))

-- ---- a flag

abbrev pub flag_code : Bool → ℕ
flag_code true = 1
flag_code false = 0

flag_law : (b : ℕ) (t : Bool) → flag_from b ≡ Some t → flag_code t ≡ b
flag_law b = law_if flag_code b 0 false _ refl (law_if flag_code b 1 true _ refl (law_none flag_code b))

flag_again : (t : Bool) → flag_from (flag_code t) ≡ Some t
flag_again true = refl
flag_again false = refl

pub reads_flag : Reads (coded_at flag_from) (λ t. flag_code t ∷ []) Always
reads_flag = reads_as (coded_at flag_from) _ _ _ Always (reads_code flag_from flag_code flag_law false (flag_again false)) (λ c f. refl) (λ c f. tt) (λ c f. flag_again c)

-- ---- these very bytes

only_law : (expected b a : ℕ) → only expected b ≡ Some a → a ≡ b
only_law expected b a e = by (eqb b expected) e where
  by : (t : Bool) → cond t (Some b) None ≡ Some a → a ≡ b
  by true e = cc
  by false e = absurd cc

only_fits : (expected a : ℕ) → only expected a ≡ Some a → a ≡ expected
only_fits expected a e = by (eqb a expected) refl e where
  by : (t : Bool) → eqb a expected ≡ t → cond t (Some a) None ≡ Some a → a ≡ expected
  by true z e = eqb-true a expected z
  by false z e = absurd cc

only_this : (expected : ℕ) → only expected expected ≡ Some expected
only_this expected = rw (eq-eqb expected expected refl) refl

pub reads_literal : (text : List ℕ) → Reads (literal_at text) (λ _. text) Always
unfolding literal_at
reads_literal [] = reads_as (literal_at []) _ (λ _. []) _ Always (reads_done (let v : Unit {0} = tt in v)) (λ x f. refl) (λ x f. tt) (λ x f. refl)
reads_literal (b ∷ text) = reads_as (literal_at (b ∷ text)) _ (λ _. b ∷ text) _ Always
    (then (λ (x : Unit {0}). b) (reads_code (only b) (λ n. n) (only_law b) b (only_this b)) (λ c _. reads_literal text) (λ c x f _. sym (only_fits b c (subst (λ n. only b n ≡ Some n) refl f))))
    (λ x f. refl) (λ x f. tt) (λ x f. (only_this b, tt))

-- ---- a number of two bytes that is not 0

low_one : (high : ℕ) → low_from high 1 ≡ Some 1
low_one high = by (eqb high 0) where
  by : (t : Bool) → cond (t && eqb 1 0) None (at_most 255 1) ≡ Some 1
  by true = refl
  by false = refl

low_law : (high b a : ℕ) → low_from high b ≡ Some a → a ≡ b
low_law high b a e = by (eqb high 0 && eqb b 0) e where
  by : (t : Bool) → cond t None (at_most 255 b) ≡ Some a → a ≡ b
  by true e = absurd cc
  by false e = most_law 255 b a e

abbrev pub IsSome16 : ℕ → Type 0
IsSome16 n = (1 ≤ n) × (n < 2 ^ 16)

low_fits : (high a : ℕ) → high ≤ 255 → low_from high a ≡ Some a → IsSome16 (high * 256 + a)
low_fits high a le e = by (eqb high 0) (eqb a 0) refl refl e where
  few : at_most 255 a ≡ Some a → a ≤ 255
  few e = most_fits 255 a e

  by : (t u : Bool) → eqb high 0 ≡ t → eqb a 0 ≡ u → cond (t && u) None (at_most 255 a) ≡ Some a → IsSome16 (high * 256 + a)
  by true true z y e = absurd cc
  by true false z y e = let m = few e in let ne = eqb-false a 0 y in (omega arith, omega arith)
  by false u z y e = let m = few e in let ne = eqb-false high 0 z in (omega arith, omega arith)

fits_low : (high a : ℕ) → 1 ≤ high * 256 + a → a ≤ 255 → low_from high a ≡ Some a
fits_low high a some le = by (eqb high 0) (eqb a 0) refl refl where
  by : (t u : Bool) → eqb high 0 ≡ t → eqb a 0 ≡ u → cond (t && u) None (at_most 255 a) ≡ Some a
  by true true z y = let h = eqb-true high 0 z in let l = eqb-true a 0 y in absurd (omega arith)
  by true false z y = fits_most 255 a le
  by false u z y = fits_most 255 a le

reads_low : (high : ℕ) → Reads (coded_at (low_from high)) (λ n. n ∷ []) (λ n. low_from high n ≡ Some n)
reads_low high = reads_code (low_from high) (λ n. n) (low_law high) 1 (low_one high)

high_of : ℕ → ℕ
high_of n = n / 256

low_of : ℕ → ℕ
low_of n = n % 256

abbrev IsSplit : ℕ → Type 0
IsSplit n = (high_of n ≤ 255) × ((low_from (high_of n) (low_of n) ≡ Some (low_of n)) × (n ≡ high_of n * 256 + low_of n))

two_bytes : (n : ℕ) → n < 2 ^ 16 → high_of n ∷ (low_of n ∷ []) ≡ to_be_bytes w16 n
unfolding high_of low_of
two_bytes n lt = sym (be_bytes_2 (n / 256 ∷ (n % 256 ∷ [])) n refl below (omega arith)) where
  below : (i : ℕ) → get_or (n / 256 ∷ (n % 256 ∷ [])) i 0 < 256
  below zero = omega arith
  below (suc zero) = omega arith
  below (suc (suc i)) = omega arith

split_is : (n : ℕ) → IsSplit n → IsSome16 n
split_is n f = subst IsSome16 (sym f.1.1) (low_fits (high_of n) (low_of n) f.0 f.1.0)

is_split : (n : ℕ) → IsSome16 n → IsSplit n
unfolding high_of low_of
is_split n f = (omega (arith, f.1), (fits_low (n / 256) (n % 256) (omega (arith, f.0)) (omega arith), omega arith))

split_made : (high low : ℕ) → high ≤ 255 → low_from high low ≡ Some low → (high_of (high * 256 + low) ≡ high) × (low_of (high * 256 + low) ≡ low)
unfolding high_of low_of
split_made high low le e = let m = few in (omega arith, omega arith) where
  few : low ≤ 255
  few = by (eqb high 0 && eqb low 0) e where
    by : (t : Bool) → cond t None (at_most 255 low) ≡ Some low → low ≤ 255
    by true e = absurd cc
    by false e = most_fits 255 low e

pub reads_some : Reads some_at (to_be_bytes w16) IsSome16
unfolding some_at
reads_some = reads_as some_at _ (to_be_bytes w16) _ IsSome16
    (then high_of (reads_most 255)
    (λ high le. then low_of (reads_low high) (λ low e. reads_done (high * 256 + low)) (λ low n e is. ap low_of is ∙ (split_made high low le e).1))
    (λ high n le f. ap high_of f.1 ∙ (split_made high (low_of n) le f.0).0))
    (λ n f. two_bytes n (split_is n f).1) split_is is_split
