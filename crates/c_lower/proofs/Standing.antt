-- Lists that stand one after another in a longer one.
use Rattle.std.proofs.Common.{◌≡◌, ℕ, zero, suc, ◌+◌, ◌-◌, ◌<◌, ◌≤◌, List, [], ◌∷◌, ◌++◌, length, get_or, append_assoc, length-append, Option, Some, None, refl, sym, ap, ◌∙◌, subst, arith}
use Rattle.std.specs.Prelude.{slice_get}
use Rattle.c_code.specs.declared.instr.Instr.{Instr}
use Rattle.c_lower_placement.specs.Code.{Lies}
use Rattle.c_lower_placement.specs.Heights.{Stand}

-- the item after a list
get_after : {A : Type 0} (pre post : List A) (i : A) → slice_get (pre ++ (i ∷ post)) (length pre) ≡ Some i
get_after [] post i = refl
get_after (j ∷ pre) post i = get_after pre post i

pub lies_after : (pre is post : List Instr) → Lies (pre ++ (is ++ post)) (length pre) is
lies_after pre [] post = tt
lies_after pre (i ∷ is) post =
    let next : length (pre ++ (i ∷ [])) ≡ length pre + 1 = length-append pre (i ∷ []) in
    let rest : Lies ((pre ++ (i ∷ [])) ++ (is ++ post)) (length (pre ++ (i ∷ []))) is = lies_after (pre ++ (i ∷ [])) is post in
    let placed : Lies ((pre ++ (i ∷ [])) ++ (is ++ post)) (length pre + 1) is = subst (λ n. Lies ((pre ++ (i ∷ [])) ++ (is ++ post)) n is) next rest in
    (get_after pre (is ++ post) i, subst (λ l. Lies l (length pre + 1) is) (append_assoc pre (i ∷ []) (is ++ post)) placed)

number_after : (pre post : List ℕ) (h : ℕ) → get_or (pre ++ (h ∷ post)) (length pre) 0 ≡ h
number_after [] post h = refl
number_after (j ∷ pre) post h = number_after pre post h

-- a height by its place
abbrev pub height_in : List ℕ → ℕ → ℕ
height_in hs p = get_or hs p 0

pub stand_after : (pre hs post : List ℕ) → Stand (height_in (pre ++ (hs ++ post))) (length pre) hs
stand_after pre [] post = tt
stand_after pre (h ∷ hs) post =
    let next : length (pre ++ (h ∷ [])) ≡ length pre + 1 = length-append pre (h ∷ []) in
    let rest : Stand (height_in ((pre ++ (h ∷ [])) ++ (hs ++ post))) (length (pre ++ (h ∷ []))) hs = stand_after (pre ++ (h ∷ [])) hs post in
    let placed : Stand (height_in ((pre ++ (h ∷ [])) ++ (hs ++ post))) (length pre + 1) hs = subst (λ n. Stand (height_in ((pre ++ (h ∷ [])) ++ (hs ++ post))) n hs) next rest in
    (number_after pre (hs ++ post) h, subst (λ l. Stand (height_in l) (length pre + 1) hs) (append_assoc pre (h ∷ []) (hs ++ post)) placed)

-- after the first of two lists
pub get_second : {A : Type 0} (xs ys : List A) (k : ℕ) → length xs ≤ k → slice_get (xs ++ ys) k ≡ slice_get ys (k - length xs)
get_second [] ys k h = ap (λ n. slice_get ys n) (omega arith)
get_second (x ∷ xs) ys zero h = absurd (omega arith)
get_second (x ∷ xs) ys (suc k) h = get_second xs ys k (omega arith) ∙ ap (λ n. slice_get ys n) (omega arith)
