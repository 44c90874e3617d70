-- The sign that is found is the longest that fits.
use Rattle.std.proofs.Common.{◌≡◌, ℕ, zero, suc, ◌≤◌, Bool, true, false, ◌&&◌, List, [], ◌∷◌, length, take, Option, Some, None, nat_eq, nat_le, refl, ap, arith, length-take}
use Rattle.std.specs.List.{find, starts_with}
use Rattle.std.specs.Cmp.Lexicographic.{as_long}
use Rattle.c_lexer.specs.declared.token.Sign.{Sign}
use Rattle.c_lexer.specs.declared.token.Sign.TheVariants as signs
use Rattle.c_lexer.specs.Signs.{sign_text, all_signs, begins_with, sign_at, IsLongest}

-- what begins the bytes is no longer than they are
pub starts_within : (bs text : List ℕ) → starts_with nat_eq bs text ≡ true → length text ≤ length bs
starts_within bs text h = let e : length text ≡ length (take (length text) bs) = as_long nat_eq text (take (length text) bs) h in omega (arith, length-take (length text) bs)

pub sign_length : (s : Sign) → 1 ≤ length (sign_text s)
sign_length signs.Arrow = omega arith
sign_length _ = omega arith

-- what is found passes
found_more : {X : Type 0} (p : X → Bool) (x : X) (xs : List X) (y : X) (b : Bool) → p x ≡ b → (find p xs ≡ Some y → p y ≡ true) → find p (x ∷ xs) ≡ Some y → p y ≡ true
found_more p x xs y true e rest h = let f : Some x ≡ Some y = rw e at h in let is : x ≡ y = cc in rw (← is) e
found_more p x xs y false e rest h = rest (rw e at h)

pub found_passes : {X : Type 0} (p : X → Bool) (xs : List X) (y : X) → find p xs ≡ Some y → p y ≡ true
found_passes p [] y h = absurd cc
found_passes p (x ∷ xs) y h = found_more p x xs y (p x) refl (found_passes p xs y) h

-- the sign at this place of a list
abbrev pub nth : List Sign → ℕ → Option Sign
nth [] i = None
nth (x ∷ xs) zero = Some x
nth (x ∷ xs) (suc i) = nth xs i

abbrev pub size : Sign → ℕ
size s = length (sign_text s)

-- none is longer than n
abbrev pub none_longer : ℕ → List Sign → Bool
none_longer n [] = true
none_longer n (x ∷ xs) = nat_le (size x) n && none_longer n xs

-- longer ones come first
abbrev pub is_sorted : List Sign → Bool
is_sorted [] = true
is_sorted (x ∷ xs) = none_longer (size x) xs && is_sorted xs

first_true : (a b : Bool) → (a && b) ≡ true → a ≡ true
first_true true b h = refl
first_true false b h = absurd cc

second_true : (a b : Bool) → (a && b) ≡ true → b ≡ true
second_true true b h = h
second_true false b h = absurd cc

le_from : (a b : ℕ) → nat_le a b ≡ true → a ≤ b
le_from a b h = grind arith

no_longer : (n : ℕ) (xs : List Sign) (i : ℕ) (z : Sign) → none_longer n xs ≡ true → nth xs i ≡ Some z → size z ≤ n
no_longer n [] i z o h = absurd cc
no_longer n (x ∷ xs) zero z o h = let is : x ≡ z = cc in rw (← is) (le_from (size x) n (first_true (nat_le (size x) n) (none_longer n xs) o))
no_longer n (x ∷ xs) (suc i) z o h = no_longer n xs i z (second_true (nat_le (size x) n) (none_longer n xs) o) h

first_is : (p : Sign → Bool) (x : Sign) (xs : List Sign) (s : Sign) → p x ≡ true → find p (x ∷ xs) ≡ Some s → x ≡ s
first_is p x xs s e h = let f : Some x ≡ Some s = rw e at h in cc

longest_more : (p : Sign → Bool) (x : Sign) (xs : List Sign) (s z : Sign) (b : Bool) → p x ≡ b → size z ≤ size x → (find p xs ≡ Some s → size z ≤ size s) → find p (x ∷ xs) ≡ Some s → size z ≤ size s
longest_more p x xs s z true e le rest h = rw (← first_is p x xs s e h) le
longest_more p x xs s z false e le rest h = rest (rw e at h)

first_longest : (p : Sign → Bool) (xs : List Sign) (s z : Sign) (i : ℕ) → is_sorted xs ≡ true → find p xs ≡ Some s → nth xs i ≡ Some z → p z ≡ true → size z ≤ size s
first_longest p [] s z i o h n f = absurd cc
first_longest p (x ∷ xs) s z zero o h n f = let is : x ≡ z = cc in let e : p x ≡ true = rw is f in rw (first_is p x xs s e h) at (let k : size z ≤ size x = rw (ap size is) (omega arith) in k)
first_longest p (x ∷ xs) s z (suc i) o h n f =
    longest_more p x xs s z (p x) refl (no_longer (size x) xs i z (first_true (none_longer (size x) xs) (is_sorted xs) o) n) (λ g. first_longest p xs s z i (second_true (none_longer (size x) xs) (is_sorted xs) o) g n f) h

-- where none is found none passes
none_more : (p : Sign → Bool) (x : Sign) (xs : List Sign) (z : Sign) (b : Bool) → p x ≡ b → (find p xs ≡ None → p z ≡ false) → find p (x ∷ xs) ≡ None → p z ≡ false
none_more p x xs z true e rest h = absurd (let f : Some x ≡ None = rw e at h in cc)
none_more p x xs z false e rest h = rest (rw e at h)

none_head : (p : Sign → Bool) (x : Sign) (xs : List Sign) (b : Bool) → p x ≡ b → find p (x ∷ xs) ≡ None → p x ≡ false
none_head p x xs true e h = absurd (let f : Some x ≡ None = rw e at h in cc)
none_head p x xs false e h = e

none_passes : (p : Sign → Bool) (xs : List Sign) (z : Sign) (i : ℕ) → find p xs ≡ None → nth xs i ≡ Some z → p z ≡ false
none_passes p [] z i h n = absurd cc
none_passes p (x ∷ xs) z zero h n = let is : x ≡ z = cc in rw (← is) (none_head p x xs (p x) refl h)
none_passes p (x ∷ xs) z (suc i) h n = none_more p x xs z (p x) refl (λ g. none_passes p xs z i g n) h

-- every sign stands in the table
listed : (z : Sign) → (i : ℕ) × (nth all_signs i ≡ Some z)
listed signs.ShiftLeftAssign = (0, refl)
listed signs.ShiftRightAssign = (1, refl)
listed signs.Arrow = (2, refl)
listed signs.Increment = (3, refl)
listed signs.Decrement = (4, refl)
listed signs.ShiftLeft = (5, refl)
listed signs.ShiftRight = (6, refl)
listed signs.LessEqual = (7, refl)
listed signs.GreaterEqual = (8, refl)
listed signs.Equal = (9, refl)
listed signs.NotEqual = (10, refl)
listed signs.AndAnd = (11, refl)
listed signs.OrOr = (12, refl)
listed signs.StarAssign = (13, refl)
listed signs.SlashAssign = (14, refl)
listed signs.PercentAssign = (15, refl)
listed signs.PlusAssign = (16, refl)
listed signs.MinusAssign = (17, refl)
listed signs.AmpersandAssign = (18, refl)
listed signs.CaretAssign = (19, refl)
listed signs.BarAssign = (20, refl)
listed signs.OpenBracket = (21, refl)
listed signs.CloseBracket = (22, refl)
listed signs.OpenParenthesis = (23, refl)
listed signs.CloseParenthesis = (24, refl)
listed signs.OpenBrace = (25, refl)
listed signs.CloseBrace = (26, refl)
listed signs.Dot = (27, refl)
listed signs.Ampersand = (28, refl)
listed signs.Star = (29, refl)
listed signs.Plus = (30, refl)
listed signs.Minus = (31, refl)
listed signs.Tilde = (32, refl)
listed signs.Exclamation = (33, refl)
listed signs.Slash = (34, refl)
listed signs.Percent = (35, refl)
listed signs.Less = (36, refl)
listed signs.Greater = (37, refl)
listed signs.Caret = (38, refl)
listed signs.Bar = (39, refl)
listed signs.Question = (40, refl)
listed signs.Colon = (41, refl)
listed signs.Semicolon = (42, refl)
listed signs.Assign = (43, refl)
listed signs.Comma = (44, refl)

sorted : is_sorted all_signs ≡ true
sorted = refl

pub longest : (bs : List ℕ) (s : Sign) → sign_at bs ≡ Some s → IsLongest bs s
unfolding sign_at
longest bs s h = (found_passes (λ k. begins_with bs k) all_signs s h, λ z f. first_longest (λ k. begins_with bs k) all_signs s z (listed z).0 sorted h (listed z).1 f)

pub no_sign : (bs : List ℕ) → sign_at bs ≡ None → (z : Sign) → begins_with bs z ≡ false
unfolding sign_at
no_sign bs h z = none_passes (λ k. begins_with bs k) all_signs z (listed z).0 h (listed z).1
