-- What stands between tokens: comments (C11 6.4.9) and line markers.
use Rattle.std.specs.Prelude.{ℕ, ◌+◌, Bool, true, false, ◌&&◌, ◌||◌, not, List, [], ◌∷◌, take, drop, Option, Some, None, nat_eq, ◌==◌, if◌then◌else◌, codes}
use Rattle.std.specs.List.{starts_with}
use Rattle.c_lexer.specs.declared.item.Item.{Item}
use Rattle.c_lexer.specs.declared.item.Item.TheVariants as items
use Rattle.c_lexer.specs.declared.item.Fault.TheVariants.{OpenText, Directive}
use Rattle.c_lexer.specs.Bytes.{run, is_blank, is_line_byte, is_digit_in}

-- one byte more
abbrev pub further : Option ℕ → Option ℕ
further None = None
further (Some n) = Some (n + 1)

-- how many bytes there are up to the first `*/`, with it
abbrev pub comment_length : List ℕ → Option ℕ
comment_length [] = None
comment_length (b ∷ bs) = if starts_with nat_eq (b ∷ bs) (codes "*/") then Some 2 else further
    (comment_length bs)

abbrev pub comment : Option ℕ → Item
comment None = items.Fault OpenText 0
comment (Some n) = items.Skip (n + 2) false

-- the comment that begins with the `/*` at the prefix
unfoldable pub comment_at : List ℕ → Item
comment_at bs = comment (comment_length (drop 2 bs))

abbrev pub is_empty : List ℕ → Bool
is_empty [] = true
is_empty (b ∷ bs) = false

-- the bytes after those at the prefix that pass the test
abbrev pub after : (ℕ → Bool) → List ℕ → List ℕ
after p bs = drop (run p bs) bs

-- the first byte passes the test
abbrev pub begins : (ℕ → Bool) → List ℕ → Bool
begins p bs = not (run p bs == 0)

-- nothing, or blanks and what begins with `"`
unfoldable pub is_marker_end : List ℕ → Bool
is_marker_end line = is_empty line || (begins is_blank line &&
    starts_with nat_eq (after is_blank line) (codes "\""))

-- digits, and then such an end
unfoldable pub is_marker_number : List ℕ → Bool
is_marker_number line = begins (is_digit_in 10) line && is_marker_end (after (is_digit_in 10) line)

-- after its `#`, a line marker has blanks and then such a number
unfoldable pub is_marker : List ℕ → Bool
is_marker line = begins is_blank line && is_marker_number (after is_blank line)

-- the bytes up to the end of the line
abbrev pub line_of : List ℕ → List ℕ
line_of bs = take (run is_line_byte bs) bs

-- the line that begins with the `#` at the prefix
unfoldable pub marker_at : List ℕ → Item
marker_at bs = if is_marker (line_of (drop 1 bs)) then items.Skip (run is_line_byte (drop 1 bs) + 1) false
    else items.Fault Directive 0
