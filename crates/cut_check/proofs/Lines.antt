-- Lines of what is found.
use Rattle.std.proofs.Common.{◌≡◌, ℕ, List, [], ◌∷◌, ◌++◌, codes, refl}
use Rattle.front_end.specs.Sources.{IsRight}
use Rattle.cut_check.specs.Lines.{LinesOf, of_cut, of_guards, text_of}

some_bytes : (line rest : List ℕ) → (line ++ codes "\n") ++ rest ≡ [] → ⊥
some_bytes [] rest e = cc
some_bytes (b ∷ bs) rest e = cc

-- no text is that of no line
pub no_lines : (lines : List (List ℕ)) → text_of lines ≡ [] → lines ≡ []
no_lines [] e = refl
no_lines (line ∷ lines) e = absurd (some_bytes line (text_of lines) e)

-- a source in which one looks for findings is right
pub is_right : {bytes cut : List ℕ} {lines : List (List ℕ)} → LinesOf bytes cut lines → IsRight bytes cut
is_right (of_cut are some) = are.says.right
is_right (of_guards are) = are.says.right
