-- How the pieces of the last answer are spelled.
use Rattle.std.proofs.Common.{◌≡◌, ℕ, List, [], ◌∷◌, ◌++◌, length, Some, refl, sym, ap, ◌∙◌, arith}
use Rattle.std.proofs.lemmas.List.{length-append}
use Rattle.system_side.specs.AnswerLists.{last_pieces}
use Rattle.system_side.specs.declared.file.Scripted.{Scripted}
use Rattle.system_side.proofs.Lasts.{last_put_in}
use Rattle.sys_script_lines.specs.Answers.{HasLast, IsSpelled}
use Rattle.sys_script_lines.specs.Each.{each}
use Rattle.sys_script_lines.specs.Parts.{parts}
use Rattle.sys_script_lines.specs.Pieces.{piece}

-- the answer that is put in is the last
pub put_in : (more answers : List Scripted) (a : Scripted) (count : ℕ) → more ≡ answers ++ a ∷ [] → length a.pieces ≡ count → HasLast more a.pieces count
put_in more answers a count is so_many =
    let long = length-append answers (a ∷ []) in
    let all = ap length is in
    record {
      some = omega (arith, long, all);
      pieces_are = ap last_pieces is ∙ last_put_in answers a;
      count_is = so_many;
    }

pub none_spelled : (words : List ℕ) (answers : List Scripted) → IsSpelled words 0 answers
none_spelled words answers some = absurd (omega (arith, some))

-- the words that were read spell its pieces
pub now_spelled : (words : List ℕ) (count : ℕ) (answers : List Scripted) (pieces : List (List ℕ)) → each piece (parts 32 words) ≡ Some pieces → HasLast answers pieces count → IsSpelled words count answers
now_spelled words count answers pieces is last some = (
  is ∙ ap (λ (ps : List (List ℕ)). Some ps) (sym last.pieces_are),
  record { some = last.some; pieces_are = refl; count_is = ap length last.pieces_are ∙ last.count_is },
)

-- the words that spelled them still do where the last answer is repeated
pub still_spelled : (words : List ℕ) (count n : ℕ) (answers more : List Scripted) → IsSpelled words count answers → HasLast more (last_pieces answers) n → IsSpelled words count more
still_spelled words count n answers more was last some =
    let h = was some in
    now_spelled words count more (last_pieces answers) h.0 (record { some = last.some; pieces_are = last.pieces_are; count_is = h.1.count_is }) some
