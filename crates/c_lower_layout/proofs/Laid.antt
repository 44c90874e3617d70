-- Members of which each has an alignment of at least 1.
use Rattle.std.proofs.Common.{◌≡◌, ℕ, zero, suc, ◌+◌, max, List, [], ◌∷◌, map, refl, ap, ◌∙◌, arith}
use Rattle.std.specs.Int.{next_multiple_of}
use Rattle.std.specs.List.{All}
use Rattle.std.proofs.lemmas.List.Elements.{All-nil, All-cons}
use Rattle.c_types_model.specs.declared.extent.Extent.{Extent}
use Rattle.c_types_model.specs.Layouts.{IsAligned, capped, capped_extent, offsets_from}
use Rattle.c_types_model.proofs.Steps.{offsets_of_capped}
use Rattle.c_lower_layout.specs.Offsets.{laid}

pub all_aligned : (es : List Extent) → All IsAligned (map laid es)
all_aligned [] = All-nil IsAligned
all_aligned (e ∷ es) = All-cons IsAligned (laid e) (map laid es) (omega arith) (all_aligned es)

abbrev aligned : Extent → Extent
aligned e = record { size = e.size; align = max e.align 1 }

multiple_aligned : (n a : ℕ) → next_multiple_of n (max a 1) ≡ next_multiple_of n a
multiple_aligned n zero = omega arith
multiple_aligned n (suc a) = let same : max (suc a) 1 ≡ suc a = omega arith in ap (next_multiple_of n) same

offsets_aligned : (n : ℕ) (es : List Extent) → offsets_from n (map aligned es) ≡ offsets_from n es
offsets_aligned n [] = refl
offsets_aligned n (e ∷ es) =
    let head = multiple_aligned n e.align in
    ap (λ o. o ∷ offsets_from (o + e.size) (map aligned es)) head ∙ ap (λ os. next_multiple_of n e.align ∷ os) (offsets_aligned (next_multiple_of n e.align + e.size) es)

both : (es : List Extent) → map laid es ≡ map capped_extent (map aligned es)
both [] = refl
both (e ∷ es) = ap (λ l. laid e ∷ l) (both es)

-- members lie where they lie without that
pub offsets_laid : (es : List Extent) → map capped (offsets_from 0 (map laid es)) ≡ map capped (offsets_from 0 es)
offsets_laid es = ap (λ l. map capped (offsets_from 0 l)) (both es) ∙ (offsets_of_capped (map aligned es) 0 ∙ ap (map capped) (offsets_aligned 0 es))
