-- What stands at a place lies in the bytes from there on.
use Rattle.std.proofs.Common.{◌≡◌, ℕ, suc, zero, ◌+◌, ◌-◌, ◌≤◌, Bool, true, false, ◌&&◌, ◌||◌, ◌==◌, List, [], ◌∷◌, length, drop, refl, arith, Option, Some, None, Result, Ok, Err, nat_eq, if◌then◌else◌, length-drop}
use Rattle.std.specs.List.{starts_with}
use Rattle.c_lexer.specs.declared.token.Kind.{Kind}
use Rattle.c_lexer.specs.declared.token.Kind.TheVariants as kinds
use Rattle.c_lexer.specs.declared.token.Sign.{Sign}
use Rattle.c_lexer.specs.declared.item.Item.{Item}
use Rattle.c_lexer.specs.declared.item.Item.TheVariants as items
use Rattle.c_lexer.specs.declared.item.Fault.{Fault}
use Rattle.c_lexer.specs.declared.item.Fault.TheVariants.{OpenText, Directive}
use Rattle.c_lexer.specs.declared.text_part.Part.{Part}
use Rattle.c_lexer.specs.declared.text_part.Part.TheVariants.{Close, Byte, Open, Bad}
use Rattle.c_lexer.specs.Bytes.{run, is_letter, is_digit, is_name_byte, is_blank, is_line_byte}
use Rattle.c_lexer.specs.Signs.{sign_text, sign_at, all_signs, begins_with}
use Rattle.c_lexer.specs.Numbers.{number_of}
use Rattle.c_lexer.specs.Texts.{part_at, character, character_at, Quoted, Closed, NeverClosed, BadAt, held, going_on, string_after, string, string_at, signed_char}
use Rattle.c_lexer.specs.Gaps.{comment_length, comment, comment_at, further, marker_at, is_marker, line_of}
use Rattle.c_lexer.specs.Items.{word_of, name_at, number_at, number, sign, token_at, item_of, item_at}
use Rattle.c_lexer.proofs.Runs.{run_within}
use Rattle.c_lexer.proofs.Parts.{PartIn, part_in, either_arm}
use Rattle.c_lexer.proofs.Longest.{starts_within, found_passes, sign_length}

-- it takes one byte at least, and m at most; a fault lies no further than m
abbrev pub ItemIn : ℕ → Item → Type 0
ItemIn m items.Finished = Unit {0}
ItemIn m (items.Skip n line) = (1 ≤ n) × (n ≤ m)
ItemIn m (items.Token n kind) = (1 ≤ n) × (n ≤ m)
ItemIn m (items.Fault fault n) = n ≤ m

-- either arm, each where its test says so
by_test : (P : Item → Type 0) (b : Bool) (x y : Item) → (b ≡ true → P x) → (b ≡ false → P y) → P (if b then x else y)
by_test P true x y p q = p refl
by_test P false x y p q = q refl

run_first : (p : ℕ → Bool) (b : ℕ) (bs : List ℕ) → p b ≡ true → 1 ≤ run p (b ∷ bs)
run_first p b bs e = rw e (omega arith)

-- comments
further_in : (m : ℕ) (r : Option ℕ) (n : ℕ) → ((k : ℕ) → r ≡ Some k → k ≤ m) → further r ≡ Some n → n ≤ m + 1
further_in m None n h e = absurd cc
further_in m (Some k) n h e = let is : k + 1 ≡ n = cc in let le = h k refl in omega arith

comment_test : (b : ℕ) (bs : List ℕ) (n : ℕ) (t : Bool) → starts_with nat_eq (b ∷ bs) (42 ∷ 47 ∷ []) ≡ t → ((k : ℕ) → comment_length bs ≡ Some k → k ≤ length bs) → comment_length (b ∷ bs) ≡ Some n → n ≤ length (b ∷ bs)
comment_test b bs n true t h e = let f : Some 2 ≡ Some n = rw t at e in let is : 2 ≡ n = cc in let le = starts_within (b ∷ bs) (42 ∷ 47 ∷ []) t in omega arith
comment_test b bs n false t h e = let f : further (comment_length bs) ≡ Some n = rw t at e in let le = further_in (length bs) (comment_length bs) n h f in omega arith

comment_within : (bs : List ℕ) (n : ℕ) → comment_length bs ≡ Some n → n ≤ length bs
comment_within [] n e = absurd cc
comment_within (b ∷ bs) n e = comment_test b bs n (starts_with nat_eq (b ∷ bs) (42 ∷ 47 ∷ [])) refl (comment_within bs) e

comment_in : (m : ℕ) (r : Option ℕ) → ((k : ℕ) → r ≡ Some k → k + 2 ≤ m) → ItemIn m (comment r)
comment_in m None h = omega arith
comment_in m (Some n) h = (omega arith, h n refl)

comment_at_in : (bs : List ℕ) → 2 ≤ length bs → ItemIn (length bs) (comment_at bs)
unfolding comment_at
comment_at_in bs two = comment_in (length bs) (comment_length (drop 2 bs)) (λ k e. let le = comment_within (drop 2 bs) k e in omega (arith, length-drop 2 bs))

-- line markers
marker_at_in : (b : ℕ) (bs : List ℕ) → ItemIn (length (b ∷ bs)) (marker_at (b ∷ bs))
unfolding marker_at
marker_at_in b bs = either_arm (ItemIn (length (b ∷ bs))) (is_marker (line_of (drop 1 (b ∷ bs)))) (items.Skip (run is_line_byte (drop 1 (b ∷ bs)) + 1) false) (items.Fault Directive 0) (omega arith, (let le : run is_line_byte bs ≤ length bs = run_within is_line_byte bs in omega arith)) (omega arith)

-- names and numbers
name_at_in : (b : ℕ) (bs : List ℕ) → is_letter b ≡ true → ItemIn (length (b ∷ bs)) (name_at (b ∷ bs))
unfolding name_at is_name_byte
name_at_in b bs e = (run_first is_name_byte b bs (rw e refl), run_within is_name_byte (b ∷ bs))

number_in : (m n : ℕ) (r : Result Kind Fault) → 1 ≤ n → n ≤ m → ItemIn m (number n r)
number_in m n (Ok k) h g = (h, g)
number_in m n (Err f) h g = omega arith

or_true : (a b : Bool) → b ≡ true → (a || b) ≡ true
or_true true b h = refl
or_true false b h = h

number_at_in : (b : ℕ) (bs : List ℕ) → is_digit b ≡ true → ItemIn (length (b ∷ bs)) (number_at (b ∷ bs))
unfolding number_at is_name_byte
number_at_in b bs e = number_in (length (b ∷ bs)) (run is_name_byte (b ∷ bs)) (number_of (word_of (b ∷ bs))) (run_first is_name_byte b bs (or_true (is_letter b) (is_digit b) e)) (run_within is_name_byte (b ∷ bs))

-- characters
character_in : (bs : List ℕ) (p : Part) → PartIn (length bs) p → ItemIn (length bs + 1) (character p bs)
unfolding character
character_in bs Close h = omega arith
character_in bs Open h = omega arith
character_in bs Bad h = omega arith
character_in bs (Byte v n) h =
    by_test (ItemIn (length bs + 1)) (starts_with nat_eq (drop n bs) (39 ∷ [])) (items.Token (n + 2) (kinds.Char (signed_char v))) (items.Fault OpenText 0)
    (λ e. (omega arith, (let le = starts_within (drop n bs) (39 ∷ []) e in omega (arith, length-drop n bs)))) (λ e. omega arith)

-- strings
abbrev pub QuotedIn : ℕ → Quoted → Type 0
QuotedIn m (Closed n bs) = n ≤ m
QuotedIn m NeverClosed = Unit {0}
QuotedIn m (BadAt n) = n ≤ m

held_in : (m n v : ℕ) (q : Quoted) (k : ℕ) → QuotedIn k q → n + k ≤ m → QuotedIn m (held n v q)
held_in m n v (Closed j bs) k h g = omega arith
held_in m n v NeverClosed k h g = tt
held_in m n v (BadAt j) k h g = omega arith

held_at : (m n v : ℕ) (bs : List ℕ) (k j : ℕ) → k ≡ n → QuotedIn j (string_after bs n) → suc n + j ≤ m → QuotedIn m (held (suc n) v (string_after bs k))
held_at m n v bs k j is h le = rw is (held_in m (suc n) v (string_after bs n) j h le)

going_in : (bs : List ℕ) (p : Part) → PartIn (length bs + 1) p → ((k : ℕ) → k ≤ length bs → (j : ℕ) × (j + k ≡ length bs) × QuotedIn j (string_after bs k)) → QuotedIn (length bs + 1) (going_on p (λ n. string_after bs (n - 1)))
going_in bs Close h rest = omega arith
going_in bs Open h rest = tt
going_in bs Bad h rest = omega arith
going_in bs (Byte v zero) h rest = absurd (omega arith)
going_in bs (Byte v (suc n)) h rest =
    let r = rest n (omega arith) in
    held_at (length bs + 1) n v bs (suc n - 1) r.0 (omega arith) r.2 (omega (arith, r.1))

string_in : (bs : List ℕ) (k : ℕ) → k ≤ length bs → (j : ℕ) × (j + k ≡ length bs) × QuotedIn j (string_after bs k)
string_in [] k h = (0, omega arith, tt)
string_in (b ∷ bs) zero h = (length bs + 1, omega arith, going_in bs (part_at 34 (b ∷ bs)) (let e : length (b ∷ bs) ≡ length bs + 1 = omega arith in rw e at (part_in 34 (b ∷ bs))) (λ k le. string_in bs k le))
string_in (b ∷ bs) (suc k) h = let r = string_in bs k (omega arith) in (r.0, omega arith, r.2)

string_item_in : (m : ℕ) (q : Quoted) → QuotedIn m q → ItemIn (m + 1) (string q)
unfolding string
string_item_in m (Closed n bs) h = (omega arith, omega arith)
string_item_in m NeverClosed h = omega arith
string_item_in m (BadAt n) h = omega arith

-- signs
sign_in : (bs : List ℕ) (r : Option Sign) → sign_at bs ≡ r → ItemIn (length bs) (sign r)
unfolding sign_at
sign_in bs None e = omega arith
sign_in bs (Some s) e = (sign_length s, starts_within bs (sign_text s) (found_passes (λ k. begins_with bs k) all_signs s e))

character_at_in : (b : ℕ) (bs : List ℕ) → ItemIn (length (b ∷ bs)) (character_at bs)
unfolding character_at
character_at_in b bs = let e : length bs + 1 ≡ length (b ∷ bs) = omega arith in rw e at (character_in bs (part_at 39 bs) (part_in 39 bs))

string_at_in : (b : ℕ) (bs : List ℕ) → ItemIn (length (b ∷ bs)) (string_at bs)
unfolding string_at
string_at_in b bs = let r = string_in bs 0 (omega arith) in let e : r.0 + 1 ≡ length (b ∷ bs) = omega (arith, r.1) in rw e at (string_item_in r.0 (string_after bs 0) r.2)

token_at_in : (b : ℕ) (bs : List ℕ) → ItemIn (length (b ∷ bs)) (token_at b (b ∷ bs))
unfolding token_at
token_at_in b bs =
    by_test (ItemIn (length (b ∷ bs))) (is_letter b) (name_at (b ∷ bs)) (if is_digit b then number_at (b ∷ bs) else (if b == 39 then character_at bs else (if b == 34 then string_at bs else sign (sign_at (b ∷ bs))))) (λ e. name_at_in b bs e) (λ _.
    by_test (ItemIn (length (b ∷ bs))) (is_digit b) (number_at (b ∷ bs)) (if b == 39 then character_at bs else (if b == 34 then string_at bs else sign (sign_at (b ∷ bs)))) (λ e. number_at_in b bs e) (λ _.
    by_test (ItemIn (length (b ∷ bs))) (b == 39) (character_at bs) (if b == 34 then string_at bs else sign (sign_at (b ∷ bs))) (λ e. character_at_in b bs) (λ _.
    by_test (ItemIn (length (b ∷ bs))) (b == 34) (string_at bs) (sign (sign_at (b ∷ bs))) (λ e. string_at_in b bs) (λ _. sign_in (b ∷ bs) (sign_at (b ∷ bs)) refl))))

line_byte : (b : ℕ) → (b == 10) ≡ false → is_line_byte b ≡ true
unfolding is_line_byte
line_byte b e = rw e refl

-- what is no space
abbrev pub rest_of : Bool → ℕ → List ℕ → Item
rest_of fresh b bs = if starts_with nat_eq (b ∷ bs) (47 ∷ 42 ∷ []) then comment_at (b ∷ bs) else (if starts_with nat_eq (b ∷ bs) (47 ∷ 47 ∷ []) then items.Skip (run is_line_byte (b ∷ bs)) false else (if fresh && (b == 35) then marker_at (b ∷ bs) else token_at b (b ∷ bs)))

rest_in : (fresh : Bool) (b : ℕ) (bs : List ℕ) → (b == 10) ≡ false → ItemIn (length (b ∷ bs)) (rest_of fresh b bs)
rest_in fresh b bs other =
    by_test (ItemIn (length (b ∷ bs))) (starts_with nat_eq (b ∷ bs) (47 ∷ 42 ∷ [])) (comment_at (b ∷ bs)) (if starts_with nat_eq (b ∷ bs) (47 ∷ 47 ∷ []) then items.Skip (run is_line_byte (b ∷ bs)) false else (if fresh && (b == 35) then marker_at (b ∷ bs) else token_at b (b ∷ bs))) (λ e. comment_at_in (b ∷ bs) (starts_within (b ∷ bs) (47 ∷ 42 ∷ []) e)) (λ _.
    by_test (ItemIn (length (b ∷ bs))) (starts_with nat_eq (b ∷ bs) (47 ∷ 47 ∷ [])) (items.Skip (run is_line_byte (b ∷ bs)) false) (if fresh && (b == 35) then marker_at (b ∷ bs) else token_at b (b ∷ bs)) (λ e. (run_first is_line_byte b bs (line_byte b other), run_within is_line_byte (b ∷ bs))) (λ _.
    by_test (ItemIn (length (b ∷ bs))) (fresh && (b == 35)) (marker_at (b ∷ bs)) (token_at b (b ∷ bs)) (λ e. marker_at_in b bs) (λ _. token_at_in b bs)))

item_of_in : (fresh : Bool) (b : ℕ) (bs : List ℕ) → ItemIn (length (b ∷ bs)) (item_of fresh b (b ∷ bs))
unfolding item_of
item_of_in fresh b bs =
    by_test (ItemIn (length (b ∷ bs))) (is_blank b) (items.Skip 1 fresh) (if b == 10 then items.Skip 1 true else (if (b == 13) || (b == 12) then items.Skip 1 false else rest_of fresh b bs)) (λ e. (omega arith, omega arith)) (λ _.
    by_test (ItemIn (length (b ∷ bs))) (b == 10) (items.Skip 1 true) (if (b == 13) || (b == 12) then items.Skip 1 false else rest_of fresh b bs) (λ e. (omega arith, omega arith)) (λ other.
    by_test (ItemIn (length (b ∷ bs))) ((b == 13) || (b == 12)) (items.Skip 1 false) (rest_of fresh b bs) (λ e. (omega arith, omega arith)) (λ _. rest_in fresh b bs other)))

pub item_in : (fresh : Bool) (bs : List ℕ) → ItemIn (length bs) (item_at fresh bs)
item_in fresh [] = tt
item_in fresh (b ∷ bs) = item_of_in fresh b bs

pub fault_in : (fresh : Bool) (bs : List ℕ) (f : Fault) (n : ℕ) → item_at fresh bs ≡ items.Fault f n → n ≤ length bs
fault_in fresh bs f n e = rw e at (item_in fresh bs)

pub skip_in : (fresh : Bool) (bs : List ℕ) (n : ℕ) (line : Bool) → item_at fresh bs ≡ items.Skip n line → (1 ≤ n) × (n ≤ length bs)
skip_in fresh bs n line e = rw e at (item_in fresh bs)

pub token_in : (fresh : Bool) (bs : List ℕ) (n : ℕ) (k : Kind) → item_at fresh bs ≡ items.Token n k → (1 ≤ n) × (n ≤ length bs)
token_in fresh bs n k e = rw e at (item_in fresh bs)
