-- Turns whose steps are kept as far as the last turn of more than one.
use Rattle.std.proofs.Common.{◌≡◌, ℕ, zero, suc, ◌-◌, ◌<◌, ◌≤◌, List, [], ◌∷◌, ◌++◌, length, get_or, replicate, Some, refl, ap, ◌∙◌, arith}
use Rattle.std.specs.List.{slice_get}
use Rattle.system_side.specs.Schedule.{turns_of}

pub length_turns : (ts ns : List ℕ) → length (turns_of ts ns) ≡ length ts
length_turns [] ns = refl
length_turns (t ∷ ts) [] = ap suc (length_turns ts [])
length_turns (t ∷ ts) (n ∷ ns) = ap suc (length_turns ts ns)

-- a turn of one step
pub one_step : (ts ns : List ℕ) (t : ℕ) → length ns ≤ length ts → turns_of (ts ++ t ∷ []) ns ≡ turns_of ts ns ++ (t, 1) ∷ []
one_step [] [] t le = refl
one_step [] (n ∷ ns) t le = absurd (omega arith)
one_step (s ∷ ts) [] t le = ap (λ more. (s, 1) ∷ more) (one_step ts [] t (omega arith))
one_step (s ∷ ts) (n ∷ ns) t le = ap (λ more. (s, n) ∷ more) (one_step ts ns t (omega arith))

-- one of more, before which all steps are kept then
pub more_steps : (ts ns : List ℕ) (t m : ℕ) → length ns ≤ length ts → turns_of (ts ++ t ∷ []) ((ns ++ replicate (length ts - length ns) 1) ++ m ∷ []) ≡ turns_of ts ns ++ (t, m) ∷ []
more_steps [] [] t m le = refl
more_steps [] (n ∷ ns) t m le = absurd (omega arith)
more_steps (s ∷ ts) [] t m le =
    let less : length (s ∷ ts) - 0 ≡ suc (length ts - 0) = omega arith in
    ap (λ k. turns_of (s ∷ ts ++ t ∷ []) (replicate k 1 ++ m ∷ [])) less
    ∙ ap (λ more. (s, 1) ∷ more) (more_steps ts [] t m (omega arith))
more_steps (s ∷ ts) (n ∷ ns) t m le =
    let less : length (s ∷ ts) - length (n ∷ ns) ≡ length ts - length ns = omega arith in
    ap (λ k. turns_of (s ∷ ts ++ t ∷ []) ((n ∷ ns ++ replicate k 1) ++ m ∷ [])) less
    ∙ ap (λ more. (s, n) ∷ more) (more_steps ts ns t m (omega arith))

-- the turn at a place
pub turn_at : (ts ns : List ℕ) (place : ℕ) → place < length ts → slice_get (turns_of ts ns) place ≡ Some (get_or ts place 0, get_or ns place 1)
turn_at [] ns place lt = absurd (omega arith)
turn_at (t ∷ ts) [] zero lt = refl
turn_at (t ∷ ts) [] (suc n) lt = turn_at ts [] n (omega arith)
turn_at (t ∷ ts) (m ∷ ns) zero lt = refl
turn_at (t ∷ ts) (m ∷ ns) (suc n) lt = turn_at ts ns n (omega arith)
