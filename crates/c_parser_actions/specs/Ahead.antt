-- What the table of the tokens ahead says, and the stack that it is made with.
use Rattle.std.specs.Prelude.{◌≡◌, Bool, false, List, [], ◌∷◌, length, Some}
use Rattle.std.specs.List.{slice_get}
use Rattle.c_lexer.specs.declared.token.Token.{Token}
use Rattle.c_syntax.specs.Levels.{begins_type}
use Rattle.c_parser_moves.specs.declared.mark.Punctuator.{Punctuator}
use Rattle.c_parser_moves.specs.declared.mark.Punctuator.TheVariants as marks
use Rattle.c_parser_moves.specs.Marks.{mark_of}
use Rattle.c_parser_moves.specs.Words.{lists}

-- at each token, by how many are left after it, the table has whether a square bracket there is that of
-- annotations
abbrev pub Foretells : List Bool → List Token → Type 0
Foretells table [] = Unit {0}
Foretells table (t ∷ ts) = (slice_get table (length ts) ≡ Some (lists ts)) × Foretells table ts

-- the nearest of the square brackets that close
abbrev pub nearest : List Bool → Bool
nearest [] = false
nearest (b ∷ bs) = b

-- the square brackets that close and are still open to the left, the nearest first, after one more token
-- before which they stand
abbrev pub met : Punctuator → Bool → List Bool → List Bool
met marks.CloseBracket b bs = b ∷ bs
met marks.OpenBracket b [] = []
met marks.OpenBracket b (c ∷ bs) = bs
met _ b bs = bs

-- for each square bracket that closes none of these tokens, the nearest first: a type follows it
abbrev pub closers : List Token → List Bool
closers [] = []
closers (t ∷ ts) = met (mark_of t.kind) (begins_type ts) (closers ts)
