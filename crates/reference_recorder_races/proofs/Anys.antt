-- One range, piece or prepared range more.
use Rattle.std.proofs.Common.{◌≡◌, ℕ, ◌+◌, ◌<◌, Bool, true, false, ◌||◌, ◌∙◌, Option, None, List, [], ◌∷◌, ◌++◌, length, get_or, take, refl, sym, ap}
use Rattle.std.proofs.lemmas.List.{take_more}
use Rattle.marks.specs.declared.range.Range.{Range}
use Rattle.marks.specs.Places.{is_constant}
use Rattle.marks.specs.Ranges.{Piece, Prepared, any_piece, any_prepared, any_range, covers}
use Rattle.reference_recorder_races.specs.declared.tested.Tested.{Tested}
use Rattle.reference_recorder_races.specs.Least.{IsLeastAt}
use Rattle.reference_recorder_races.specs.Hits.{reading, writing}
use Rattle.reference_recorder_races.proofs.Bits.{or_assoc, reading_none, reading_or, writing_none, writing_or}
use Rattle.reference_recorder_races.proofs.Leasts.{more, no_least, same_least}

or_none : (b : Bool) → (b || false) ≡ b
or_none true = refl
or_none false = refl

range_append : (rs qs : List Range) (x : ℕ) → any_range (rs ++ qs) x ≡ (any_range rs x || any_range qs x)
range_append [] qs x = refl
range_append (r ∷ rs) qs x = ap (λ b. covers r x || b) (range_append rs qs x) ∙ or_assoc (covers r x) (any_range rs x) (any_range qs x)

pub piece_append : (rs qs : List Piece) (x : ℕ) → any_piece (rs ++ qs) x ≡ (any_piece rs x || any_piece qs x)
piece_append [] qs x = refl
piece_append (r ∷ rs) qs x = ap (λ b. covers r.range x || b) (piece_append rs qs x) ∙ or_assoc (covers r.range x) (any_piece rs x) (any_piece qs x)

prepared_append : (rs qs : List Prepared) (x : ℕ) → any_prepared (rs ++ qs) x ≡ (any_prepared rs x || any_prepared qs x)
prepared_append [] qs x = refl
prepared_append (r ∷ rs) qs x = ap (λ b. covers r.range x || b) (prepared_append rs qs x) ∙ or_assoc (covers r.range x) (any_prepared rs x) (any_prepared qs x)

range_more : (rs : List Range) (i : ℕ) (d : Range) → i < length rs → (x : ℕ) → any_range (take (i + 1) rs) x ≡ (any_range (take i rs) x || covers (get_or rs i d) x)
range_more rs i d lt x = ap (λ qs. any_range qs x) (take_more rs i d lt) ∙ range_append (take i rs) (get_or rs i d ∷ []) x ∙ ap (λ b. any_range (take i rs) x || b) (or_none (covers (get_or rs i d) x))

piece_more : (rs : List Piece) (i : ℕ) (d : Piece) → i < length rs → (x : ℕ) → any_piece (take (i + 1) rs) x ≡ (any_piece (take i rs) x || covers (get_or rs i d).range x)
piece_more rs i d lt x = ap (λ qs. any_piece qs x) (take_more rs i d lt) ∙ piece_append (take i rs) (get_or rs i d ∷ []) x ∙ ap (λ b. any_piece (take i rs) x || b) (or_none (covers (get_or rs i d).range x))

prepared_more : (rs : List Prepared) (i : ℕ) (d : Prepared) → i < length rs → (x : ℕ) → any_prepared (take (i + 1) rs) x ≡ (any_prepared (take i rs) x || covers (get_or rs i d).range x)
prepared_more rs i d lt x = ap (λ qs. any_prepared qs x) (take_more rs i d lt) ∙ prepared_append (take i rs) (get_or rs i d ∷ []) x ∙ ap (λ b. any_prepared (take i rs) x || b) (or_none (covers (get_or rs i d).range x))

-- the answer is the lesser of two
abbrev pub IsLesser : (best found new : Option ℕ) → Type 0
IsLesser best found new = (f g : ℕ → Bool) → IsLeastAt f best → IsLeastAt g found → IsLeastAt (λ x. f x || g x) new

module _ (a : Tested) where
  abbrev read_at : ℕ → Bool → Bool
  read_at x b = reading a x b

  abbrev written_at : ℕ → Bool → Bool
  written_at x b = writing a x b

  read_parts : (x : ℕ) (p q : Bool) → read_at x (p || q) ≡ (read_at x p || read_at x q)
  read_parts x p q = reading_or (covers a.range x) a.write (is_constant x) p q

  written_parts : (x : ℕ) (p q : Bool) → written_at x (p || q) ≡ (written_at x p || written_at x q)
  written_parts x p q = writing_or (covers a.range x) p q

  pub none_read : IsLeastAt (λ x. reading a x false) None
  none_read = no_least (λ x. reading a x false) (λ x. reading_none (covers a.range x) a.write (is_constant x))

  pub none_written : IsLeastAt (λ x. writing a x false) None
  none_written = no_least (λ x. writing a x false) (λ x. writing_none (covers a.range x))

  pub one_written : (p : Piece) (o : Option ℕ) → IsLeastAt (λ x. writing a x (covers p.range x)) o → IsLeastAt (λ x. writing a x (any_piece (p ∷ []) x)) o
  one_written p o h = same_least (λ x. writing a x (covers p.range x)) (λ x. writing a x (any_piece (p ∷ []) x)) (λ x. ap (writing a x) (sym (or_none (covers p.range x)))) o h

  pub ranges_read : (rs : List Range) (i : ℕ) (r : Range) → i < length rs → r ≡ get_or rs i r → (best found new : Option ℕ) → IsLesser best found new → IsLeastAt (λ x. reading a x (any_range (take i rs) x)) best → IsLeastAt (λ x. reading a x (covers r x)) found → IsLeastAt (λ x. reading a x (any_range (take (i + 1) rs) x)) new
  ranges_read rs i r lt is = more read_at read_parts (any_range (take i rs)) (covers r) (any_range (take (i + 1) rs)) (λ x. range_more rs i r lt x ∙ ap (λ (q : Range). any_range (take i rs) x || covers q x) (sym is))

  pub ranges_written : (rs : List Range) (i : ℕ) (r : Range) → i < length rs → r ≡ get_or rs i r → (best found new : Option ℕ) → IsLesser best found new → IsLeastAt (λ x. writing a x (any_range (take i rs) x)) best → IsLeastAt (λ x. writing a x (covers r x)) found → IsLeastAt (λ x. writing a x (any_range (take (i + 1) rs) x)) new
  ranges_written rs i r lt is = more written_at written_parts (any_range (take i rs)) (covers r) (any_range (take (i + 1) rs)) (λ x. range_more rs i r lt x ∙ ap (λ (q : Range). any_range (take i rs) x || covers q x) (sym is))

  pub pieces_read : (rs : List Piece) (i : ℕ) (r : Piece) → i < length rs → r ≡ get_or rs i r → (best found new : Option ℕ) → IsLesser best found new → IsLeastAt (λ x. reading a x (any_piece (take i rs) x)) best → IsLeastAt (λ x. reading a x (covers r.range x)) found → IsLeastAt (λ x. reading a x (any_piece (take (i + 1) rs) x)) new
  pieces_read rs i r lt is = more read_at read_parts (any_piece (take i rs)) (covers r.range) (any_piece (take (i + 1) rs)) (λ x. piece_more rs i r lt x ∙ ap (λ (q : Piece). any_piece (take i rs) x || covers q.range x) (sym is))

  pub pieces_written : (rs : List Piece) (i : ℕ) (r : Piece) → i < length rs → r ≡ get_or rs i r → (best found new : Option ℕ) → IsLesser best found new → IsLeastAt (λ x. writing a x (any_piece (take i rs) x)) best → IsLeastAt (λ x. writing a x (covers r.range x)) found → IsLeastAt (λ x. writing a x (any_piece (take (i + 1) rs) x)) new
  pieces_written rs i r lt is = more written_at written_parts (any_piece (take i rs)) (covers r.range) (any_piece (take (i + 1) rs)) (λ x. piece_more rs i r lt x ∙ ap (λ (q : Piece). any_piece (take i rs) x || covers q.range x) (sym is))

  pub all_prepared : (rs : List Prepared) (i : ℕ) (r : Prepared) → i < length rs → r ≡ get_or rs i r → (best found new : Option ℕ) → IsLesser best found new → IsLeastAt (λ x. writing a x (any_prepared (take i rs) x)) best → IsLeastAt (λ x. writing a x (covers r.range x)) found → IsLeastAt (λ x. writing a x (any_prepared (take (i + 1) rs) x)) new
  all_prepared rs i r lt is = more written_at written_parts (any_prepared (take i rs)) (covers r.range) (any_prepared (take (i + 1) rs)) (λ x. prepared_more rs i r lt x ∙ ap (λ (q : Prepared). any_prepared (take i rs) x || covers q.range x) (sym is))
