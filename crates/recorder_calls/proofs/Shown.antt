-- Pieces that have what memory has in their ranges.
use Rattle.std.proofs.Common.{◌≡◌, false, ℕ, zero, suc, ◌+◌, ◌<◌, List, [], ◌∷◌, ◌++◌, length, Option, Some, None, refl, sym, ap, ◌∙◌, arith, All}
use Rattle.std.specs.Prelude.{unwrap_or}
use Rattle.std.proofs.lemmas.List.{append-nil}
use Rattle.std.proofs.lemmas.List.Elements.{All-nil, All-cons}
use Rattle.marks.specs.declared.range.Range.{Range}
use Rattle.marks.specs.Ranges.{Piece, piece_ranges}
use Rattle.replay_runs.specs.Records.{pieces_in_a_row}
use Rattle.replay_runs.specs.Rules.{AreWhole}
use Rattle.space_memory_bytes.specs.Areas.{AreaState, IsDead, byte_at}
use Rattle.space_memory_bytes.specs.Numbers.{HasBytes}
use Rattle.space_memory.specs.Spaces.{SpaceState}
use Rattle.space_memory_laws.specs.Calls.{IsShown}
use Rattle.space_memory_laws.proofs.Cells.{covered}
use Rattle.space_memory_laws.proofs.Passing.{AllFree}
use Rattle.recorder_calls.specs.Reading.{read_in, shown_from, shown_in}

some_of : (o : Option ℕ) → ¬ (o ≡ None) → o ≡ Some (unwrap_or o 0)
some_of (Some v) n = refl
some_of None n = absurd (n refl)

module _ (bytes : List AreaState) where
  pub count : (addr n : ℕ) → length (shown_from bytes addr n) ≡ n
  count addr zero = refl
  count addr (suc n) = ap suc (count (suc addr) n)

  pub shows : (addr n : ℕ) → ((i : ℕ) → i < n → ¬ IsDead bytes (addr + i)) → HasBytes bytes addr (shown_from bytes addr n)
  shows addr zero live i lt = absurd (omega (arith, lt))
  shows addr (suc n) live zero lt =
      let at : addr + 0 ≡ addr = omega arith in
      ap (byte_at bytes) at ∙ some_of (byte_at bytes addr) (λ e. live 0 (omega arith) (ap (byte_at bytes) at ∙ e))
  shows addr (suc n) live (suc i) lt =
      let at : addr + suc i ≡ suc addr + i = omega arith in
      ap (byte_at bytes) at ∙ shows (suc addr) n (λ j less e. live (suc j) (omega (arith, less)) (ap (byte_at bytes) (let on : addr + suc j ≡ suc addr + j = omega arith in on) ∙ e)) i (omega (arith, lt))

  -- bytes that stand in memory are those
  pub read_is : (addr : ℕ) (read : List ℕ) → HasBytes bytes addr read → read ≡ shown_from bytes addr (length read)
  read_is addr [] h = refl
  read_is addr (x ∷ xs) h =
      let at : addr ≡ addr + 0 = omega arith in
      let first : byte_at bytes addr ≡ Some x = ap (byte_at bytes) at ∙ h 0 (omega arith) in
      let rest : xs ≡ shown_from bytes (suc addr) (length xs) = read_is (suc addr) xs (λ i lt. ap (byte_at bytes) (let on : suc addr + i ≡ addr + suc i = omega arith in on) ∙ h (suc i) (omega (arith, lt))) in
      λ i. unwrap_or (sym first i) 0 ∷ rest i

  pub pieces : List Range → List Piece
  pieces [] = []
  pieces (r ∷ rs) = record { range = r; bytes = shown_in bytes r } ∷ pieces rs

  pub ranges_are : (rs : List Range) → piece_ranges (pieces rs) ≡ rs
  unfolding pieces
  ranges_are [] = refl
  ranges_are (r ∷ rs) = ap (λ qs. r ∷ qs) (ranges_are rs)

  pub in_a_row : (rs : List Range) → pieces_in_a_row (pieces rs) ≡ read_in bytes rs
  unfolding pieces
  in_a_row [] = refl
  in_a_row (r ∷ rs) = ap (λ bs. shown_in bytes r ++ bs) (in_a_row rs)

  pub whole : (rs : List Range) → AreWhole (pieces rs)
  unfolding pieces
  whole [] = tt
  whole (r ∷ rs) = (count r.addr r.len, whole rs)

pub all_shown : (base : SpaceState) (rs : List Range) → AllFree base false rs → All (IsShown base.bytes) (pieces base.bytes rs)
unfolding pieces
all_shown base [] h = All-nil (IsShown base.bytes)
all_shown base (r ∷ rs) h = All-cons (IsShown base.bytes) (record { range = r; bytes = shown_in base.bytes r }) (pieces base.bytes rs)
    (record { whole = count base.bytes r.addr r.len; bytes_are = shows base.bytes r.addr r.len (λ i lt. h.0.live (r.addr + i) (covered r (r.addr + i) (omega arith) (omega (arith, lt)))) })
    (all_shown base rs h.1)

-- no bytes add nothing
pub none_printed : (output bytes : List ℕ) → length bytes ≡ 0 → output ≡ output ++ bytes
none_printed output [] e = sym (append-nil output)
none_printed output (b ∷ bytes) e = absurd (omega (arith, e))
