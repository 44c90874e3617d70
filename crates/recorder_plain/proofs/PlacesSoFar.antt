-- Places of parameters, one after the other.
use Rattle.std.proofs.Common.{◌≡◌, ℕ, zero, suc, ◌+◌, ◌*◌, ◌≤◌, List, [], ◌∷◌, ◌++◌, drop, length, refl, sym, ap, ◌∙◌, arith, append_assoc, length-append}
use Rattle.std.specs.Int.{next_multiple_of}
use Rattle.c_code.specs.declared.shape.Shape.{Shape}
use Rattle.c_code.specs.Frames.{param_offsets, param_widths, size_of}

-- of the first parameters, which end so far after the beginning of the frame
pub record AreSoFar (params : List Shape) (count end : ℕ) (offsets widths : List ℕ) : Type 0 where
  pub offsets_are : offsets ++ param_offsets end (drop count params) ≡ param_offsets 0 params
  pub widths_are : widths ++ param_widths (drop count params) ≡ param_widths params
  pub offset_count : length offsets ≡ count
  pub width_count : length widths ≡ count
  pub near : end ≤ 16 * count

pub none_yet : (params : List Shape) → AreSoFar params 0 0 [] []
none_yet params = record { offsets_are = refl; widths_are = refl; offset_count = refl; width_count = refl; near = omega arith }

one_more : (xs : List ℕ) (x : ℕ) → length (xs ++ x ∷ []) ≡ length xs + 1
one_more xs x = length-append xs (x ∷ [])

pub next_one : (params : List Shape) (count end offset : ℕ) (offsets widths : List ℕ) (s : Shape) (rest : List Shape) → AreSoFar params count end offsets widths → drop count params ≡ s ∷ rest → drop (count + 1) params ≡ rest → offset ≡ next_multiple_of end (size_of s) → offset ≤ end + size_of s → size_of s ≤ 8 → AreSoFar params (count + 1) (offset + size_of s) (offsets ++ offset ∷ []) (widths ++ size_of s ∷ [])
next_one params count end offset offsets widths s rest h now then place near few = record {
  offsets_are =
      let at : param_offsets end (drop count params) ≡ offset ∷ param_offsets (offset + size_of s) rest =
      ap (param_offsets end) now ∙ ap (λ o. o ∷ param_offsets (o + size_of s) rest) (sym place) in
      append_assoc offsets (offset ∷ []) (param_offsets (offset + size_of s) (drop (count + 1) params)) ∙ ap (λ ps. offsets ++ offset ∷ param_offsets (offset + size_of s) ps) then ∙ ap (λ xs. offsets ++ xs) (sym at) ∙ h.offsets_are;
  widths_are = append_assoc widths (size_of s ∷ []) (param_widths (drop (count + 1) params)) ∙ ap (λ ps. widths ++ size_of s ∷ param_widths ps) then ∙ ap (λ ps. widths ++ param_widths ps) (sym now) ∙ h.widths_are;
  offset_count = one_more offsets offset ∙ ap (λ n. n + 1) h.offset_count;
  width_count = one_more widths (size_of s) ∙ ap (λ n. n + 1) h.width_count;
  near = let e = h.near in omega (arith, e, near, few);
}

append_none : (xs ys : List ℕ) → ys ≡ [] → xs ++ ys ≡ xs
append_none [] ys e = e
append_none (x ∷ xs) ys e = ap (λ zs. x ∷ zs) (append_none xs ys e)

drop_all : (params : List Shape) (count : ℕ) → length params ≤ count → drop count params ≡ []
drop_all [] zero le = refl
drop_all [] (suc n) le = refl
drop_all (s ∷ params) zero le = absurd (omega arith)
drop_all (s ∷ params) (suc n) le = drop_all params n (omega arith)

pub all_offsets : (params : List Shape) (count end : ℕ) (offsets widths : List ℕ) → AreSoFar params count end offsets widths → length params ≤ count → offsets ≡ param_offsets 0 params
all_offsets params count end offsets widths h le = sym (append_none offsets (param_offsets end (drop count params)) (ap (param_offsets end) (drop_all params count le))) ∙ h.offsets_are

pub all_widths : (params : List Shape) (count end : ℕ) (offsets widths : List ℕ) → AreSoFar params count end offsets widths → length params ≤ count → widths ≡ param_widths params
all_widths params count end offsets widths h le = sym (append_none widths (param_widths (drop count params)) (ap param_widths (drop_all params count le))) ∙ h.widths_are
