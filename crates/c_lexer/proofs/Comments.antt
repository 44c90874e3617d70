-- Going along a comment to its end.
use Rattle.std.proofs.Common.{◌≡◌, ℕ, suc, ◌+◌, ◌<◌, false, List, [], ◌∷◌, length, drop, get_or, drop-cons, add-one, refl, sym, ap, ◌∙◌, arith, Option, Some, None, nat_eq}
use Rattle.std.specs.List.{starts_with}
use Rattle.c_lexer.specs.Gaps.{comment_length, further}

-- so many bytes more
abbrev pub later : ℕ → Option ℕ → Option ℕ
later n None = None
later n (Some m) = Some (n + m)

pub later_first : (r : Option ℕ) → later 0 r ≡ r
later_first None = refl
later_first (Some n) = ap Some (omega arith)

later_further : (i : ℕ) (r : Option ℕ) → later i (further r) ≡ later (suc i) r
later_further i None = refl
later_further i (Some n) = ap Some (omega arith)

comment_step : (x : ℕ) (ds : List ℕ) → starts_with nat_eq (x ∷ ds) (42 ∷ 47 ∷ []) ≡ false → comment_length (x ∷ ds) ≡ further (comment_length ds)
comment_step x ds e = rw e refl

pub comment_on : (xs : List ℕ) (i : ℕ) (t : Option ℕ) → i < length xs → starts_with nat_eq (drop i xs) (42 ∷ 47 ∷ []) ≡ false → later i (comment_length (drop i xs)) ≡ t → later (i + 1) (comment_length (drop (i + 1) xs)) ≡ t
comment_on xs i t lt e h =
    let d = drop-cons xs i 0 lt in
    let step = comment_step (get_or xs i 0) (drop (suc i) xs) (rw d at e) in
    let k : later i (further (comment_length (drop (suc i) xs))) ≡ t = ap (later i) (sym step ∙ ap comment_length (sym d)) ∙ h in
    rw add-one (sym (later_further i (comment_length (drop (suc i) xs))) ∙ k)
