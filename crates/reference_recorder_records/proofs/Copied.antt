-- The bytes of one piece more.
use Rattle.std.proofs.Common.{◌≡◌, ℕ, ◌+◌, ◌<◌, List, [], ◌∷◌, ◌++◌, length, get_or, take, sym, ap, ◌∙◌, append_assoc}
use Rattle.std.proofs.lemmas.List.{append-nil, map-append, take_more}
use Rattle.marks.specs.Ranges.{Piece, piece_bytes}

pub copied_none : (old : List (List ℕ)) → old ≡ old ++ []
copied_none old = sym (append-nil old)

pub copied_more : (ps : List Piece) (i : ℕ) (p : Piece) → i < length ps → p ≡ get_or ps i p → (old now next : List (List ℕ)) (copy : List ℕ) → copy ≡ p.bytes → next ≡ now ++ copy ∷ [] → now ≡ old ++ piece_bytes (take i ps) → next ≡ old ++ piece_bytes (take (i + 1) ps)
copied_more ps i p lt is old now next copy e more h =
    more ∙ (λ j. h j ++ e j ∷ [])
    ∙ append_assoc old (piece_bytes (take i ps)) (p.bytes ∷ [])
    ∙ ap (λ xs. old ++ xs) (ap (λ (q : Piece). piece_bytes (take i ps) ++ q.bytes ∷ []) is ∙ sym (ap piece_bytes (take_more ps i p lt) ∙ map-append (λ (q : Piece). q.bytes) (take i ps) (get_or ps i p ∷ [])))
