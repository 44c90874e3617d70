-- A string takes a byte of the source for each of its own, and two for its quotes.
use Rattle.std.proofs.Common.{◌≡◌, ℕ, suc, zero, ◌+◌, ◌-◌, ◌≤◌, Bool, true, false, ◌&&◌, ◌||◌, ◌==◌, List, [], ◌∷◌, length, drop, take, arith, refl, sym, subst, Option, Some, None, Result, Ok, Err, nat_eq, if◌then◌else◌, length-drop}
use Rattle.std.specs.List.{starts_with}
use Rattle.c_lexer.specs.declared.token.Word.{Word}
use Rattle.c_lexer.specs.declared.token.Suffix.{Suffix}
use Rattle.c_lexer.specs.declared.token.Sign.{Sign}
use Rattle.c_lexer.specs.declared.token.Kind.{Kind}
use Rattle.c_lexer.specs.declared.token.Kind.TheVariants as kinds
use Rattle.c_lexer.specs.declared.token.Token.{Token}
use Rattle.c_lexer.specs.declared.item.Item.{Item}
use Rattle.c_lexer.specs.declared.item.Item.TheVariants as items
use Rattle.c_lexer.specs.declared.item.Fault.{Fault}
use Rattle.c_lexer.specs.declared.item.Fault.TheVariants.{BadByte, OpenText, BigNumber, Directive}
use Rattle.c_lexer.specs.declared.text_part.Part.{Part}
use Rattle.c_lexer.specs.declared.text_part.Part.TheVariants.{Close, Byte, Open, Bad}
use Rattle.c_lexer.specs.Bytes.{run, is_letter, is_digit, is_digit_in, is_name_byte, is_blank, is_line_byte}
use Rattle.c_lexer.specs.Words.{keyword}
use Rattle.c_lexer.specs.Signs.{sign_at}
use Rattle.c_lexer.specs.Numbers.{based, digits_and_suffix, number_from, number_of, suffix_of, suffixed, typed}
use Rattle.c_lexer.specs.Texts.{part_at, character, character_at, Quoted, Closed, NeverClosed, BadAt, held, going_on, string_after, string, string_at, signed_char}
use Rattle.c_lexer.specs.Gaps.{comment_length, comment, comment_at, marker_at, is_marker, line_of}
use Rattle.c_lexer.specs.Items.{word_of, name_or_keyword, name_at, number_at, number, sign, token_at, item_of, item_at}
use Rattle.c_lexer.specs.Lexing.{End, Reads, finished, stopped, skipped, token}
use Rattle.c_lexer.proofs.Parts.{byte_in, either_arm}
use Rattle.c_lexer.proofs.Inside.{skip_in, token_in}
use Rattle.c_lexer_laws.specs.Strings.{if_string, spelled, strings_among}

-- so many bytes spell a token of this kind
abbrev Spells : ℕ → Kind → Type 0
Spells n k = spelled (if_string k []) ≤ n

abbrev ItemSpells : Item → Type 0
ItemSpells items.Finished = Unit {0}
ItemSpells (items.Skip n line) = Unit {0}
ItemSpells (items.Token n kind) = Spells n kind
ItemSpells (items.Fault fault n) = Unit {0}

-- ---- strings

abbrev QuotedSpells : Quoted → Type 0
QuotedSpells (Closed n bytes) = length bytes + 1 ≤ n
QuotedSpells NeverClosed = Unit {0}
QuotedSpells (BadAt n) = Unit {0}

held_spells : (n v : ℕ) (q : Quoted) → 1 ≤ n → QuotedSpells q → QuotedSpells (held n v q)
held_spells n v (Closed m bytes) some h = omega arith
held_spells n v NeverClosed some h = tt
held_spells n v (BadAt m) some h = tt

going_spells : (p : Part) (rest : ℕ → Quoted) → ((v n : ℕ) → p ≡ Byte v n → 1 ≤ n) → ((n : ℕ) → QuotedSpells (rest n)) → QuotedSpells (going_on p rest)
going_spells Close rest some h = omega arith
going_spells Open rest some h = tt
going_spells Bad rest some h = tt
going_spells (Byte v n) rest some h = held_spells n v (rest n) (some v n refl) (h n)

after_spells : (bs : List ℕ) (k : ℕ) → QuotedSpells (string_after bs k)
after_spells [] k = tt
after_spells (b ∷ bs) (suc k) = after_spells bs k
after_spells (b ∷ bs) zero = going_spells (part_at 34 (b ∷ bs)) (λ n. string_after bs (n - 1)) (λ v n e. (byte_in 34 (b ∷ bs) v n e).0) (λ n. after_spells bs (n - 1))

quoted_spells : (q : Quoted) → QuotedSpells q → ItemSpells (string q)
unfolding string
quoted_spells (Closed n bytes) h = omega arith
quoted_spells NeverClosed h = tt
quoted_spells (BadAt n) h = tt

string_spells : (bs : List ℕ) → ItemSpells (string_at bs)
unfolding string_at
string_spells bs = quoted_spells (string_after bs 0) (after_spells bs 0)

-- ---- other tokens are no strings

comment_spells : (r : Option ℕ) → ItemSpells (comment r)
comment_spells None = tt
comment_spells (Some n) = tt

comment_at_spells : (bs : List ℕ) → ItemSpells (comment_at bs)
unfolding comment_at
comment_at_spells bs = comment_spells (comment_length (drop 2 bs))

marker_spells : (bs : List ℕ) → ItemSpells (marker_at bs)
unfolding marker_at
marker_spells bs = either_arm ItemSpells (is_marker (line_of (drop 1 bs))) (items.Skip (run is_line_byte (drop 1 bs) + 1) false) (items.Fault Directive 0) tt tt

word_spells : (n : ℕ) (name : List ℕ) (word : Option Word) → Spells n (name_or_keyword name word)
word_spells n name None = omega arith
word_spells n name (Some word) = omega arith

name_spells : (bs : List ℕ) → ItemSpells (name_at bs)
unfolding name_at
name_spells bs = word_spells (run is_name_byte bs) (word_of bs) (keyword (word_of bs))

-- a number, or what is none
abbrev IsNumber : Result Kind Fault → Type 0
IsNumber (Ok k) = if_string k [] ≡ []
IsNumber (Err fault) = Unit {0}

typed_number : (decimal : Bool) (n : ℕ) (suffix : Suffix) → IsNumber (typed decimal n suffix)
unfolding typed
typed_number decimal n suffix = either_arm IsNumber _ (Ok (kinds.Number suffix decimal n)) (Err BigNumber) refl tt

suffixed_number : (decimal : Bool) (n : ℕ) (suffix : Option Suffix) → IsNumber (suffixed decimal n suffix)
unfolding suffixed
suffixed_number decimal n None = tt
suffixed_number decimal n (Some suffix) = typed_number decimal n suffix

digits_number : (base : ℕ) (decimal : Bool) (count : ℕ) (text : List ℕ) → IsNumber (digits_and_suffix base decimal count text)
unfolding digits_and_suffix
digits_number base decimal count text =
    either_arm IsNumber (count == 0) (Err BadByte) (suffixed decimal (number_from base 0 (take count text)) (suffix_of (drop count text))) tt
    (suffixed_number decimal (number_from base 0 (take count text)) (suffix_of (drop count text)))

based_number : (base : ℕ) (decimal : Bool) (text : List ℕ) → IsNumber (based base decimal text)
unfolding based
based_number base decimal text = digits_number base decimal (run (is_digit_in base) text) text

is_number : (text : List ℕ) → IsNumber (number_of text)
unfolding number_of
is_number text =
    either_arm IsNumber (starts_with nat_eq text (48 ∷ 120 ∷ [])) (based 16 false (drop 2 text)) (if starts_with nat_eq text (48 ∷ []) then based 8 false text else based 10 true text)
    (based_number 16 false (drop 2 text))
    (either_arm IsNumber (starts_with nat_eq text (48 ∷ [])) (based 8 false text) (based 10 true text) (based_number 8 false text) (based_number 10 true text))

number_is : (n : ℕ) (r : Result Kind Fault) → IsNumber r → ItemSpells (number n r)
number_is n (Ok k) h = subst (λ (x : List (List ℕ)). spelled x ≤ n) (sym h) (omega arith)
number_is n (Err fault) h = tt

number_spells : (bs : List ℕ) → ItemSpells (number_at bs)
unfolding number_at
number_spells bs = number_is (run is_name_byte bs) (number_of (word_of bs)) (is_number (word_of bs))

char_spells : (p : Part) (bs : List ℕ) → ItemSpells (character p bs)
unfolding character
char_spells Close bs = tt
char_spells Open bs = tt
char_spells Bad bs = tt
char_spells (Byte v n) bs =
    either_arm ItemSpells (starts_with nat_eq (drop n bs) (39 ∷ [])) (items.Token (n + 2) (kinds.Char (signed_char v))) (items.Fault OpenText 0) (omega arith) tt

character_spells : (bs : List ℕ) → ItemSpells (character_at bs)
unfolding character_at
character_spells bs = char_spells (part_at 39 bs) bs

sign_spells : (s : Option Sign) → ItemSpells (sign s)
sign_spells None = tt
sign_spells (Some s) = omega arith

-- ---- what stands at a place

token_spells : (b : ℕ) (bs : List ℕ) → ItemSpells (token_at b bs)
unfolding token_at
token_spells b bs =
    either_arm ItemSpells (is_letter b) (name_at bs) _ (name_spells bs)
    (either_arm ItemSpells (is_digit b) (number_at bs) _ (number_spells bs)
    (either_arm ItemSpells (b == 39) (character_at (drop 1 bs)) _ (character_spells (drop 1 bs))
    (either_arm ItemSpells (b == 34) (string_at (drop 1 bs)) (sign (sign_at bs)) (string_spells (drop 1 bs)) (sign_spells (sign_at bs)))))

item_of_spells : (fresh : Bool) (b : ℕ) (bs : List ℕ) → ItemSpells (item_of fresh b bs)
unfolding item_of
item_of_spells fresh b bs =
    either_arm ItemSpells (is_blank b) (items.Skip 1 fresh) _ tt
    (either_arm ItemSpells (b == 10) (items.Skip 1 true) _ tt
    (either_arm ItemSpells ((b == 13) || (b == 12)) (items.Skip 1 false) _ tt
    (either_arm ItemSpells (starts_with nat_eq bs (47 ∷ 42 ∷ [])) (comment_at bs) _ (comment_at_spells bs)
    (either_arm ItemSpells (starts_with nat_eq bs (47 ∷ 47 ∷ [])) (items.Skip (run is_line_byte bs) false) _ tt
    (either_arm ItemSpells (fresh && (b == 35)) (marker_at bs) (token_at b bs) (marker_spells bs) (token_spells b bs))))))

item_spells : (fresh : Bool) (bs : List ℕ) → ItemSpells (item_at fresh bs)
item_spells fresh [] = tt
item_spells fresh (b ∷ bs) = item_of_spells fresh b (b ∷ bs)

-- ---- readings

-- one token, and those after it
one_more : (k : Kind) (rest : List (List ℕ)) (n m : ℕ) → Spells n k → spelled rest ≤ m → spelled (if_string k rest) ≤ n + m
one_more (kinds.Name name) rest n m h le = omega arith
one_more (kinds.Word word) rest n m h le = omega arith
one_more (kinds.Number suffix decimal value) rest n m h le = omega arith
one_more (kinds.Char value) rest n m h le = omega arith
one_more (kinds.Text bytes) rest n m h le = omega arith
one_more (kinds.Sign s) rest n m h le = omega arith

pub reading_spells : {fresh : Bool} {at : ℕ} {bs : List ℕ} {ts : List Token} {end : End} → Reads fresh at bs ts end → spelled (strings_among ts) ≤ length bs
reading_spells (finished e) = omega arith
reading_spells (stopped e) = omega arith
reading_spells {fresh} {at} {bs} {ts} {end} (skipped {line = line} {n = n} e rest) =
    let within = skip_in fresh bs n line e in
    let later = reading_spells rest in
    omega (arith, within.1, later, length-drop n bs)
reading_spells {fresh} {at} {bs} (token {n = n} {k = k} {ts = ts} e rest) =
    let within = token_in fresh bs n k e in
    let here : Spells n k = subst ItemSpells e (item_spells fresh bs) in
    let all = one_more k (strings_among ts) n (length (drop n bs)) here (reading_spells rest) in
    omega (arith, within.1, all, length-drop n bs)
