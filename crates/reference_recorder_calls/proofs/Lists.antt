-- The first item of a list that is taken away, and pairs of lists of bytes.
use Rattle.std.proofs.Common.{◌≡◌, ℕ, ◌+◌, ◌<◌, ◌≤◌, cond, eqb, Option, Some, None, List, [], ◌∷◌, ◌++◌, length, get_or, take, drop, refl, sym, ap, ◌∙◌, arith, eq-eqb}
use Rattle.std.specs.Option.{option_or}
use Rattle.std.proofs.lemmas.Bool.{ne_eqb}
use Rattle.std.proofs.lemmas.List.{map-append, take_more}
use Rattle.marks.specs.declared.range.Range.{Range}
use Rattle.marks.specs.Ranges.{Piece, piece_ranges}
use Rattle.marks.specs.Opens.{tail}
use Rattle.replay_runs.specs.Threads.{Returned}

pub ranges_more : (ps : List Piece) (i : ℕ) (p : Piece) → i < length ps → p ≡ get_or ps i p → (now next : List Range) (r : Range) → r ≡ p.range → next ≡ now ++ r ∷ [] → now ≡ piece_ranges (take i ps) → next ≡ piece_ranges (take (i + 1) ps)
ranges_more ps i p lt is now next r e more h =
    more ∙ (λ j. h j ++ e j ∷ [])
    ∙ ap (λ (q : Piece). piece_ranges (take i ps) ++ q.range ∷ []) is
    ∙ sym (ap piece_ranges (take_more ps i p lt) ∙ map-append (λ (q : Piece). q.range) (take i ps) (get_or ps i p ∷ []))

pub tail_none : {X : Type 0} (xs : List X) → length xs ≤ 0 → xs ≡ tail xs
tail_none [] h = refl
tail_none (x ∷ xs) h = absurd (omega (arith, h))

pub tail_some : {X : Type 0} (xs : List X) → take 0 xs ++ drop 1 xs ≡ tail xs
tail_some [] = refl
tail_some (x ∷ xs) = refl

-- a return of the function gives this, and one of another nothing

pub gives_this : (of f value : ℕ) (bytes made : List (List ℕ)) → of ≡ f → made ≡ bytes → (before : Option Returned) → cond (eqb of f) (Some (record { result = value; bytes = bytes })) before ≡ option_or (Some (record { result = value; bytes = made })) before
gives_this of f value bytes made is e before = ap (λ b. cond b (Some (record { result = value; bytes = bytes })) before) (eq-eqb of f is) ∙ (λ i. Some (record { result = value; bytes = sym e i }))

pub gives_nothing : (of f value : ℕ) (bytes : List (List ℕ)) → (of ≡ f → ⊥) → (before : Option Returned) → cond (eqb of f) (Some (record { result = value; bytes = bytes })) before ≡ option_or None before
gives_nothing of f value bytes ne before = ap (λ b. cond b (Some (record { result = value; bytes = bytes })) before) (ne_eqb of f ne)
