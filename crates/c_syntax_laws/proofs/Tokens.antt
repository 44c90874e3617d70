-- The numbers of a source's tokens are such as types can represent.
use Rattle.std.proofs.Common.{◌≡◌, ℕ, ℤ, ◌<◌, ◌==◌, ◌&&◌, ◌||◌, Bool, true, false, if◌then◌else◌, List, [], ◌∷◌, Option, Some, None, Result, Ok, Err, refl, subst, nat_eq, nat_lt}
use Rattle.std.specs.Prelude.{codes}
use Rattle.std.specs.List.{starts_with}
use Rattle.c_lexer.specs.Bytes.{is_blank}
use Rattle.std.proofs.lemmas.Bool.{ltb-true}
use Rattle.c_lexer.specs.declared.token.Kind.{Kind}
use Rattle.c_lexer.specs.declared.token.Kind.TheVariants as kinds
use Rattle.c_lexer.specs.declared.token.Suffix.{Suffix}
use Rattle.c_lexer.specs.declared.token.Sign.{Sign}
use Rattle.c_lexer.specs.declared.token.Word.{Word}
use Rattle.c_lexer.specs.declared.token.Token.{Token}
use Rattle.c_lexer.specs.declared.item.Item.{Item}
use Rattle.c_lexer.specs.declared.item.Item.TheVariants as items
use Rattle.c_lexer.specs.declared.item.Fault.{Fault}
use Rattle.c_lexer.specs.declared.item.Fault.TheVariants.{BigNumber}
use Rattle.c_lexer.specs.declared.text_part.Part.{Part}
use Rattle.c_lexer.specs.declared.text_part.Part.TheVariants.{Close, Byte, Open, Bad}
use Rattle.c_lexer.specs.Numbers.{limit, typed, suffixed, digits_and_suffix, based, number_of}
use Rattle.c_lexer.specs.Gaps.{comment, comment_at, marker_at}
use Rattle.c_lexer.specs.Texts.{character, character_at, string, string_at, Quoted, Closed, NeverClosed, BadAt}
use Rattle.c_lexer.specs.Items.{name_or_keyword, name_at, number, number_at, sign, token_at, item_of, item_at}
use Rattle.c_lexer.specs.Lexing.{Reads, End, finished, stopped, skipped, token}
use Rattle.c_syntax_laws.specs.Numbers.{FitsKind, FitsTokens}

FitsResult : Result Kind Fault → Type 0
FitsResult (Ok k) = FitsKind k
FitsResult (Err e) = Unit {0}

FitsItem : Item → Type 0
FitsItem (items.Token n k) = FitsKind k
FitsItem _ = Unit {0}

-- either way
err_fits : (e : Fault) → FitsResult (Err e)
unfolding FitsResult
err_fits e = tt

fault_fits : (e : Fault) (n : ℕ) → FitsItem (items.Fault e n)
unfolding FitsItem
fault_fits e n = tt

skip_fits : (n : ℕ) (line : Bool) → FitsItem (items.Skip n line)
unfolding FitsItem
skip_fits n line = tt

branch : (b : Bool) (x y : Item) → FitsItem x → FitsItem y → FitsItem (if b then x else y)
branch true x y p q = p
branch false x y p q = q

branch_of_result : (b : Bool) (x y : Result Kind Fault) → FitsResult x → FitsResult y → FitsResult (if b then x else y)
branch_of_result true x y p q = p
branch_of_result false x y p q = q

tested : (decimal : Bool) (n : ℕ) (s : Suffix) (b : Bool) → (b ≡ true → n < limit s decimal) → FitsResult (if b then Ok (kinds.Number s decimal n) else Err BigNumber)
unfolding FitsResult
tested decimal n s true h = h refl
tested decimal n s false h = tt

typed_fits : (decimal : Bool) (n : ℕ) (s : Suffix) → FitsResult (typed decimal n s)
unfolding typed
typed_fits decimal n s = tested decimal n s (nat_lt n (limit s decimal)) (λ h. ltb-true n (limit s decimal) h)

suffixed_fits : (decimal : Bool) (n : ℕ) (s : Option Suffix) → FitsResult (suffixed decimal n s)
unfolding FitsResult suffixed
suffixed_fits decimal n None = tt
suffixed_fits decimal n (Some s) = typed_fits decimal n s

digits_fit : (base : ℕ) (decimal : Bool) (count : ℕ) (text : List ℕ) → FitsResult (digits_and_suffix base decimal count text)
unfolding digits_and_suffix
digits_fit base decimal count text = branch_of_result _ _ _ (err_fits _) (suffixed_fits decimal _ _)

number_fits : (text : List ℕ) → FitsResult (number_of text)
unfolding number_of based
number_fits text = branch_of_result _ _ _ (digits_fit 16 false _ _) (branch_of_result _ _ _ (digits_fit 8 false _ _) (digits_fit 10 true _ _))

read_number : (n : ℕ) (r : Result Kind Fault) → FitsResult r → FitsItem (number n r)
unfolding FitsResult FitsItem
read_number n (Ok k) h = h
read_number n (Err e) h = tt

a_name : (n : ℕ) (name : List ℕ) (w : Option Word) → FitsItem (items.Token n (name_or_keyword name w))
unfolding FitsItem
a_name n name None = tt
a_name n name (Some w) = tt

a_sign : (s : Option Sign) → FitsItem (sign s)
unfolding FitsItem
a_sign None = tt
a_sign (Some s) = tt

char_fits : (n : ℕ) (c : ℤ) → FitsItem (items.Token n (kinds.Char c))
unfolding FitsItem
char_fits n c = tt

a_character : (p : Part) (bs : List ℕ) → FitsItem (character p bs)
unfolding character
a_character Close bs = fault_fits _ _
a_character Open bs = fault_fits _ _
a_character Bad bs = fault_fits _ _
a_character (Byte b n) bs = branch _ _ _ (char_fits _ _) (fault_fits _ _)

a_string : (q : Quoted) → FitsItem (string q)
unfolding FitsItem string
a_string (Closed n bs) = tt
a_string NeverClosed = tt
a_string (BadAt n) = tt

a_comment : (n : Option ℕ) → FitsItem (comment n)
unfolding FitsItem
a_comment None = tt
a_comment (Some n) = tt

a_token : (b : ℕ) (bs : List ℕ) → FitsItem (token_at b bs)
unfolding token_at name_at number_at character_at string_at
a_token b bs =
    branch _ _ _ (a_name _ _ _)
    (branch _ _ _ (read_number _ _ (number_fits _))
    (branch _ _ _ (a_character _ _)
    (branch _ _ _ (a_string _)
    (a_sign _))))

comment_fits : (bs : List ℕ) → FitsItem (comment_at bs)
unfolding comment_at
comment_fits bs = a_comment _

marker_fits : (bs : List ℕ) → FitsItem (marker_at bs)
unfolding marker_at
marker_fits bs = branch _ _ _ (skip_fits _ _) (fault_fits _ _)

an_item : (fresh : Bool) (b : ℕ) (bs : List ℕ) → FitsItem (item_of fresh b bs)
unfolding item_of
an_item fresh b bs =
    branch (is_blank b) _ _ (skip_fits _ _)
    (branch (b == 10) _ _ (skip_fits _ _)
    (branch ((b == 13) || (b == 12)) _ _ (skip_fits _ _)
    (branch (starts_with nat_eq bs (codes "/*")) _ _ (comment_fits bs)
    (branch (starts_with nat_eq bs (codes "//")) _ _ (skip_fits _ _)
    (branch (fresh && (b == 35)) _ _ (marker_fits bs)
    (a_token b bs))))))

item_fits : (fresh : Bool) (bs : List ℕ) → FitsItem (item_at fresh bs)
unfolding FitsItem
item_fits fresh [] = tt
item_fits fresh (b ∷ bs) = an_item fresh b (b ∷ bs)

read_kind : (fresh : Bool) (bs : List ℕ) (n : ℕ) (k : Kind) → item_at fresh bs ≡ items.Token n k → FitsKind k
unfolding FitsItem
read_kind fresh bs n k e = subst FitsItem e (item_fits fresh bs)

-- the tokens that a source is read as
pub tokens_fit : (fresh : Bool) (at : ℕ) (bs : List ℕ) (ts : List Token) (end : End) → Reads fresh at bs ts end → FitsTokens ts
tokens_fit fresh at bs ts end (finished e) = tt
tokens_fit fresh at bs ts end (stopped e) = tt
tokens_fit fresh at bs ts end (skipped e r) = tokens_fit _ _ _ _ _ r
tokens_fit fresh at bs ts end (token e r) = (read_kind fresh bs _ _ e, tokens_fit _ _ _ _ _ r)
