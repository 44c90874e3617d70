-- What stands at a place of the source (C11 6.4).
use Rattle.std.specs.Prelude.{ℕ, Bool, true, false, ◌&&◌, ◌||◌, List, [], ◌∷◌, length, take, drop, Option, Some, None, Result, Ok, Err, nat_eq, ◌==◌, if◌then◌else◌, codes}
use Rattle.std.specs.List.{starts_with}
use Rattle.c_lexer.specs.declared.token.Word.{Word}
use Rattle.c_lexer.specs.declared.token.Sign.{Sign}
use Rattle.c_lexer.specs.declared.token.Kind.{Kind}
use Rattle.c_lexer.specs.declared.token.Kind.TheVariants as kinds
use Rattle.c_lexer.specs.declared.item.Item.{Item}
use Rattle.c_lexer.specs.declared.item.Item.TheVariants as items
use Rattle.c_lexer.specs.declared.item.Fault.{Fault}
use Rattle.c_lexer.specs.declared.item.Fault.TheVariants.{BadByte}
use Rattle.c_lexer.specs.Bytes.{run, is_letter, is_digit, is_name_byte, is_blank, is_line_byte}
use Rattle.c_lexer.specs.Words.{keyword}
use Rattle.c_lexer.specs.Signs.{sign_text, sign_at}
use Rattle.c_lexer.specs.Numbers.{number_of}
use Rattle.c_lexer.specs.Texts.{character_at, string_at}
use Rattle.c_lexer.specs.Gaps.{comment_at, marker_at}

-- the letters, digits and `_` at the prefix
abbrev pub word_of : List ℕ → List ℕ
word_of bs = take (run is_name_byte bs) bs

abbrev pub name_or_keyword : List ℕ → Option Word → Kind
name_or_keyword name None = kinds.Name name
name_or_keyword name (Some word) = kinds.Word word

-- a name is the longest run of letters, digits and `_`, and no keyword (6.4.1, 6.4.2.1)
unfoldable pub name_at : List ℕ → Item
name_at bs = items.Token (run is_name_byte bs) (name_or_keyword (word_of bs) (keyword (word_of bs)))

abbrev pub number : ℕ → Result Kind Fault → Item
number n (Ok kind) = items.Token n kind
number n (Err fault) = items.Fault fault 0

-- a number is the longest run of letters, digits and `_` that begins with a digit, all of which must spell
-- it (6.4.8, 6.4.4.1)
unfoldable pub number_at : List ℕ → Item
number_at bs = number (run is_name_byte bs) (number_of (word_of bs))

abbrev pub sign : Option Sign → Item
sign None = items.Fault BadByte 0
sign (Some s) = items.Token (length (sign_text s)) (kinds.Sign s)

-- what begins with a byte that no space, comment or line marker begins with
unfoldable pub token_at : ℕ → List ℕ → Item
token_at b bs =
    if is_letter b then name_at bs
    else (if is_digit b then number_at bs
    else (if b == 39 then character_at (drop 1 bs)
    else (if b == 34 then string_at (drop 1 bs)
    else sign (sign_at bs))))

-- what begins with this byte, where `fresh` says that only blanks of a line that begins outside a comment
-- stand before it
unfoldable pub item_of : Bool → ℕ → List ℕ → Item
item_of fresh b bs =
    if is_blank b then items.Skip 1 fresh
    else (if b == 10 then items.Skip 1 true
    else (if (b == 13) || (b == 12) then items.Skip 1 false
    else (if starts_with nat_eq bs (codes "/*") then comment_at bs
    else (if starts_with nat_eq bs (codes "//") then items.Skip (run is_line_byte bs) false
    else (if fresh && (b == 35) then marker_at bs
    else token_at b bs)))))

-- what stands at a place
abbrev pub item_at : Bool → List ℕ → Item
item_at fresh [] = items.Finished
item_at fresh (b ∷ bs) = item_of fresh b (b ∷ bs)
