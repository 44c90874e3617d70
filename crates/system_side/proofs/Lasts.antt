-- The last of some answers.
use Rattle.std.proofs.Common.{◌≡◌, ℕ, zero, suc, ◌+◌, List, [], ◌∷◌, ◌++◌, get_or, length, refl, arith}
use Rattle.system_side.specs.declared.file.Scripted.{Scripted}
use Rattle.system_side.specs.declared.answer_list.Entry.{Entry}
use Rattle.system_side.specs.declared.answer_list.Group.{Group}
use Rattle.system_side.specs.AnswerLists.{answer_in, answers_in, last_pieces}

-- it has the pieces of the answer that was put in last
pub last_put_in : (before : List Scripted) (a : Scripted) → last_pieces (before ++ a ∷ []) ≡ a.pieces
last_put_in [] a = refl
last_put_in (b ∷ []) a = refl
last_put_in (b ∷ c ∷ before) a = last_put_in (c ∷ before) a

-- it is the one of the last entry
pub last_entry : (gs : List Group) (ps : List (List ℕ)) (es : List Entry) (n : ℕ) (d : Entry) → n + 1 ≡ length es → last_pieces (answers_in gs ps es) ≡ (answer_in gs ps (get_or es n d)).pieces
last_entry gs ps [] n d is = absurd (omega (arith, is))
last_entry gs ps (e ∷ []) zero d is = refl
last_entry gs ps (e ∷ []) (suc n) d is = absurd (omega (arith, is))
last_entry gs ps (e ∷ f ∷ es) zero d is = absurd (omega (arith, is))
last_entry gs ps (e ∷ f ∷ es) (suc n) d is = last_entry gs ps (f ∷ es) n d (omega (arith, is))
