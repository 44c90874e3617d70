-- Layouts of members with capped sizes, and what one more member adds.
use Rattle.std.proofs.Common.{◌≡◌, ℕ, suc, ◌+◌, ◌<◌, ◌≤◌, max, List, [], ◌∷◌, ◌++◌, map, length, drop, get_or, drop-cons, refl, sym, ap, ◌∙◌, arith, append_assoc}
use Rattle.std.proofs.lemmas.List.{drop_all}
use Rattle.std.specs.Int.{next_multiple_of}
use Rattle.c_types_model.specs.declared.extent.Extent.{Extent}
use Rattle.c_types_model.specs.Layouts.{capped, capped_extent, offsets_from, end_from, greatest_align, struct_of}
use Rattle.c_types_model.proofs.Capped.{capped_sum, capped_multiple, offsets_capped, end_capped}

-- the sizes of members may be capped before they are laid
pub offsets_of_capped : (ms : List Extent) (n : ℕ) → map capped (offsets_from n (map capped_extent ms)) ≡ map capped (offsets_from n ms)
offsets_of_capped [] n = refl
offsets_of_capped (m ∷ ms) n =
    let at = next_multiple_of n m.align in
    let next : capped (at + capped m.size) ≡ capped (at + m.size) = omega arith in
    let tail = offsets_of_capped ms (at + capped m.size) ∙ (sym (offsets_capped ms (at + capped m.size)) ∙ (ap (λ x. map capped (offsets_from x ms)) next ∙ offsets_capped ms (at + m.size))) in
    ap (λ xs. capped at ∷ xs) tail

pub end_of_capped : (ms : List Extent) (n : ℕ) → capped (end_from n (map capped_extent ms)) ≡ capped (end_from n ms)
end_of_capped [] n = refl
end_of_capped (m ∷ ms) n =
    let at = next_multiple_of n m.align in
    let next : capped (at + capped m.size) ≡ capped (at + m.size) = omega arith in
    end_of_capped ms (at + capped m.size) ∙ (sym (end_capped ms (at + capped m.size)) ∙ (ap (λ x. capped (end_from x ms)) next ∙ end_capped ms (at + m.size)))

pub align_of_capped : (ms : List Extent) → greatest_align (map capped_extent ms) ≡ greatest_align ms
align_of_capped [] = refl
align_of_capped (m ∷ ms) = ap (max m.align) (align_of_capped ms)

-- rounding up goes by what the end counts as
pub size_by_end : (a m n : ℕ) → capped m ≡ capped n → capped (next_multiple_of m a) ≡ capped (next_multiple_of n a)
size_by_end a m n e = sym (capped_multiple m a) ∙ (ap (λ x. capped (next_multiple_of x a)) e ∙ capped_multiple n a)

pub struct_of_capped : (ms : List Extent) → capped_extent (struct_of (map capped_extent ms)) ≡ capped_extent (struct_of ms)
struct_of_capped ms =
    let aligns = align_of_capped ms in
    let sizes : capped (struct_of (map capped_extent ms)).size ≡ capped (struct_of ms).size =
    ap (λ a. capped (next_multiple_of (end_from 0 (map capped_extent ms)) a)) aligns ∙ size_by_end (greatest_align ms) (end_from 0 (map capped_extent ms)) (end_from 0 ms) (end_of_capped ms 0) in
    ap (λ s. record { size = s; align = greatest_align (map capped_extent ms) }) sizes ∙ ap (λ a. record { size = capped (struct_of ms).size; align = a }) aligns

-- a member more: its offset, and where the members after it are laid from
pub offsets_step : (ms : List Extent) (i n o e : ℕ) (d : Extent) (xs ys : List ℕ) → i < length ms → o ≡ capped (next_multiple_of n (get_or ms i d).align) → e ≡ capped (o + (get_or ms i d).size) → xs ++ map capped (offsets_from n (drop i ms)) ≡ ys → (xs ++ o ∷ []) ++ map capped (offsets_from e (drop (suc i) ms)) ≡ ys
offsets_step ms i n o e d xs ys lt oe ee h =
    let m = get_or ms i d in
    let at = next_multiple_of n m.align in
    let cons = ap (λ l. map capped (offsets_from n l)) (drop-cons ms i d lt) in
    let next : e ≡ capped (at + m.size) = ee ∙ (ap (λ x. capped (x + m.size)) oe ∙ capped_sum at m.size) in
    let tail : map capped (offsets_from e (drop (suc i) ms)) ≡ map capped (offsets_from (at + m.size) (drop (suc i) ms)) = ap (λ x. map capped (offsets_from x (drop (suc i) ms))) next ∙ offsets_capped (drop (suc i) ms) (at + m.size) in
    append_assoc xs (o ∷ []) (map capped (offsets_from e (drop (suc i) ms))) ∙ (ap (λ l. xs ++ o ∷ l) tail ∙ (ap (λ x. xs ++ x ∷ map capped (offsets_from (at + m.size) (drop (suc i) ms))) oe ∙ (ap (λ l. xs ++ l) (sym cons) ∙ h)))

pub end_step : (ms : List Extent) (i n o e y : ℕ) (d : Extent) → i < length ms → o ≡ capped (next_multiple_of n (get_or ms i d).align) → e ≡ capped (o + (get_or ms i d).size) → capped (end_from n (drop i ms)) ≡ y → capped (end_from e (drop (suc i) ms)) ≡ y
end_step ms i n o e y d lt oe ee h =
    let m = get_or ms i d in
    let at = next_multiple_of n m.align in
    let cons = ap (λ l. capped (end_from n l)) (drop-cons ms i d lt) in
    let next : e ≡ capped (at + m.size) = ee ∙ (ap (λ x. capped (x + m.size)) oe ∙ capped_sum at m.size) in
    ap (λ x. capped (end_from x (drop (suc i) ms))) next ∙ (end_capped (drop (suc i) ms) (at + m.size) ∙ (sym cons ∙ h))

pub align_step : (ms : List Extent) (i a b y : ℕ) (d : Extent) → i < length ms → b ≡ max a (get_or ms i d).align → max a (greatest_align (drop i ms)) ≡ y → max b (greatest_align (drop (suc i) ms)) ≡ y
align_step ms i a b y d lt e h =
    let cons : greatest_align (drop i ms) ≡ max (get_or ms i d).align (greatest_align (drop (suc i) ms)) = ap greatest_align (drop-cons ms i d lt) in
    omega arith

pub align_above : (ms : List Extent) → max 1 (greatest_align ms) ≡ greatest_align ms
align_above [] = refl
align_above (m ∷ ms) = let h = align_above ms in omega arith

-- where all members are laid
pub end_of_all : (ms : List Extent) (i n y : ℕ) → length ms ≤ i → capped (end_from n (drop i ms)) ≡ y → capped n ≡ y
end_of_all ms i n y past h = sym (ap (λ l. capped (end_from n l)) (drop_all i ms past)) ∙ h

pub align_of_all : (ms : List Extent) (i a y : ℕ) → 0 < a → length ms ≤ i → max a (greatest_align (drop i ms)) ≡ y → a ≡ y
align_of_all ms i a y some past h =
    let none : greatest_align (drop i ms) ≡ 1 = ap greatest_align (drop_all i ms past) in
    omega arith

pub extent_of_all : (ms : List Extent) (i n a s : ℕ) → 0 < a → length ms ≤ i → s ≡ capped (next_multiple_of n a) → capped (end_from n (drop i ms)) ≡ capped (end_from 0 ms) → max a (greatest_align (drop i ms)) ≡ greatest_align ms
    → ◌≡◌ {A = Extent} (record { size = s; align = a }) (capped_extent (struct_of ms))
extent_of_all ms i n a s some past rounded ends aligns =
    let align = align_of_all ms i a (greatest_align ms) some past aligns in
    let size : s ≡ capped (struct_of ms).size =
    rounded ∙ (size_by_end a n (end_from 0 ms) (end_of_all ms i n (capped (end_from 0 ms)) past ends) ∙ ap (λ x. capped (next_multiple_of (end_from 0 ms) x)) align) in
    ap (λ x. record { size = x; align = a }) size ∙ ap (λ x. record { size = capped (struct_of ms).size; align = x }) align
