-- Pieces of one list after those of another.
use Rattle.std.proofs.Common.{◌≡◌, ℕ, Bool, true, false, cond, ◌||◌, List, [], ◌∷◌, ◌++◌, refl}
use Rattle.marks.specs.Ranges.{Piece, covers, any_piece}
use Rattle.marks.specs.Bytes.{Cell, give, give_any}

pub any_piece_append : (ps qs : List Piece) (x : ℕ) → any_piece (ps ++ qs) x ≡ (any_piece ps x || any_piece qs x)
any_piece_append [] qs x = refl
any_piece_append (p ∷ ps) qs x = go (covers p.range x) (any_piece_append ps qs x)
  where
    go : (b : Bool) → any_piece (ps ++ qs) x ≡ (any_piece ps x || any_piece qs x) → (b || any_piece (ps ++ qs) x) ≡ ((b || any_piece ps x) || any_piece qs x)
    go true h = refl
    go false h = h

-- the first piece of all that has the byte leaves what it has
pub give_any_append : (ps qs : List Piece) (x : ℕ) (c : Cell) →
    give_any (ps ++ qs) x c ≡ cond (any_piece ps x) (give_any ps x c) (give_any qs x c)
give_any_append [] qs x c = refl
give_any_append (p ∷ ps) qs x c = go (covers p.range x) (give_any_append ps qs x c)
  where
    go : (b : Bool) → give_any (ps ++ qs) x c ≡ cond (any_piece ps x) (give_any ps x c) (give_any qs x c) →
        cond b (give p x c) (give_any (ps ++ qs) x c) ≡
        cond (b || any_piece ps x) (cond b (give p x c) (give_any ps x c)) (give_any qs x c)
    go true h = refl
    go false h = h
