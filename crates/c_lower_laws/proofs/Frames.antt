-- A frame that begins with scalars holds them.
use Rattle.std.proofs.Common.{◌≡◌, ℕ, ◌+◌, ◌/◌, ◌≤◌, true, false, List, [], ◌∷◌, ◌++◌, length, map, take, refl, sym, ap, ◌∙◌, arith}
use Rattle.std.specs.Int.{next_multiple_of}
use Rattle.std.proofs.Math.Seq.{take-append_seam}
use Rattle.r2_num.specs.declared.kinds.IntKind.{IntKind}
use Rattle.r2_num.specs.declared.kinds.IntKind.TheVariants.{I8, U8, I16, U16, I32, U32, I64, U64}
use Rattle.r2_num.specs.Kinds.{width_of}
use Rattle.c_code.specs.Frames.{param_offsets, params_end}
use Rattle.c_code.proofs.FrameBytes.{offsets_count}
use Rattle.c_code.specs.Values.{bytes_of}
use Rattle.c_types_model.specs.Types.{CType, CTypes, Void, Integer, PointerTo, ArrayOf, StructOf, UndefinedStruct, FunctionOf, NoTypes, MoreTypes}
use Rattle.c_types_model.specs.Layouts.{end_from, extent_of, offsets_from}
use Rattle.c_types_model.specs.declared.extent.Extent.{Extent}
use Rattle.c_types_rules.specs.Limits.{frame_size}
use Rattle.c_types_rules.specs.Sources.{Program, extent_or, extents_in, listed}
use Rattle.c_semantics.specs.Context.{shapes_of}
use Rattle.c_lower_laws.proofs.Locals.{Starts}
use Rattle.c_lower_laws.proofs.Params.{AreScalars}

-- ---- objects in a row

extents_of_both : (p : Program) (ts us : List CType) → extents_in p (ts ++ us) ≡ extents_in p ts ++ extents_in p us
extents_of_both p [] us = refl
extents_of_both p (t ∷ ts) us = ap (λ es. extent_or (extent_of (map (λ s. s.extent) p.structs) t) ∷ es) (extents_of_both p ts us)

end_of_both : (at : ℕ) (xs ys : List Extent) → end_from at (xs ++ ys) ≡ end_from (end_from at xs) ys
end_of_both at [] ys = refl
end_of_both at (x ∷ xs) ys = end_of_both (next_multiple_of at x.align + x.size) xs ys

-- the end is no less than the beginning
end_is_after : (at : ℕ) (es : List Extent) → at ≤ end_from at es
end_is_after at [] = omega arith
end_is_after at (e ∷ es) = let rest = end_is_after (next_multiple_of at e.align + e.size) es in omega (arith, rest)

-- ---- scalars

never : false ≡ true → ⊥
never e = cc

bytes_are : (k : IntKind) → bytes_of k ≡ width_of k / 8
bytes_are I8 = refl
bytes_are U8 = refl
bytes_are I16 = refl
bytes_are U16 = refl
bytes_are I32 = refl
bytes_are U32 = refl
bytes_are I64 = refl
bytes_are U64 = refl

-- parameters end in a frame where they end as objects in a row
scalars_end : (p : Program) (ts : CTypes) (at : ℕ) → AreScalars ts → params_end at (shapes_of ts) ≡ end_from at (extents_in p (listed ts))
scalars_end p NoTypes at h = refl
scalars_end p (MoreTypes (Integer k) ts) at h =
    ap (λ n. params_end (next_multiple_of at n + n) (shapes_of ts)) (bytes_are k) ∙ scalars_end p ts (next_multiple_of at (width_of k / 8) + width_of k / 8) h.1
scalars_end p (MoreTypes (PointerTo t) ts) at h = scalars_end p ts (next_multiple_of at 8 + 8) h.1
scalars_end p (MoreTypes Void ts) at h = absurd (never h.0)
scalars_end p (MoreTypes (ArrayOf n t) ts) at h = absurd (never h.0)
scalars_end p (MoreTypes (StructOf n) ts) at h = absurd (never h.0)
scalars_end p (MoreTypes (UndefinedStruct tag) ts) at h = absurd (never h.0)
scalars_end p (MoreTypes (FunctionOf r ps) ts) at h = absurd (never h.0)

-- a frame whose objects begin with these parameters holds them
pub frame_holds : (p : Program) (ts : CTypes) (locals : List CType) → AreScalars ts → Starts (listed ts) locals → params_end 0 (shapes_of ts) ≤ frame_size p locals
frame_holds p ts locals h starts =
    let first = end_from 0 (extents_in p (listed ts)) in
    let whole : end_from 0 (extents_in p locals) ≡ end_from first (extents_in p starts.0) =
    ap (λ us. end_from 0 (extents_in p us)) (sym starts.1) ∙ (ap (end_from 0) (extents_of_both p (listed ts) starts.0) ∙ end_of_both 0 (extents_in p (listed ts)) (extents_in p starts.0)) in
    omega (arith, scalars_end p ts 0 h, whole, end_is_after first (extents_in p starts.0))

-- ---- their places

offsets_of_both : (at : ℕ) (xs ys : List Extent) → offsets_from at (xs ++ ys) ≡ offsets_from at xs ++ offsets_from (end_from at xs) ys
offsets_of_both at [] ys = refl
offsets_of_both at (x ∷ xs) ys = ap (λ os. next_multiple_of at x.align ∷ os) (offsets_of_both (next_multiple_of at x.align + x.size) xs ys)

-- parameters lie in a frame where they lie as objects in a row
scalars_lie : (p : Program) (ts : CTypes) (at : ℕ) → AreScalars ts → param_offsets at (shapes_of ts) ≡ offsets_from at (extents_in p (listed ts))
scalars_lie p NoTypes at h = refl
scalars_lie p (MoreTypes (Integer k) ts) at h =
    ap (λ n. next_multiple_of at n ∷ param_offsets (next_multiple_of at n + n) (shapes_of ts)) (bytes_are k)
    ∙ ap (λ os. next_multiple_of at (width_of k / 8) ∷ os) (scalars_lie p ts (next_multiple_of at (width_of k / 8) + width_of k / 8) h.1)
scalars_lie p (MoreTypes (PointerTo t) ts) at h = ap (λ os. next_multiple_of at 8 ∷ os) (scalars_lie p ts (next_multiple_of at 8 + 8) h.1)
scalars_lie p (MoreTypes Void ts) at h = absurd (never h.0)
scalars_lie p (MoreTypes (ArrayOf n t) ts) at h = absurd (never h.0)
scalars_lie p (MoreTypes (StructOf n) ts) at h = absurd (never h.0)
scalars_lie p (MoreTypes (UndefinedStruct tag) ts) at h = absurd (never h.0)
scalars_lie p (MoreTypes (FunctionOf r ps) ts) at h = absurd (never h.0)

-- the first locals of a frame that begins with these parameters lie where the parameters do
pub params_lie : (p : Program) (ts : CTypes) (locals : List CType) → AreScalars ts → Starts (listed ts) locals → take (length (shapes_of ts)) (offsets_from 0 (extents_in p locals)) ≡ param_offsets 0 (shapes_of ts)
params_lie p ts locals h starts =
    let first = extents_in p (listed ts) in
    let offsets = offsets_from 0 first in
    let rest = offsets_from (end_from 0 first) (extents_in p starts.0) in
    let whole : offsets_from 0 (extents_in p locals) ≡ offsets ++ rest =
    ap (λ us. offsets_from 0 (extents_in p us)) (sym starts.1) ∙ (ap (offsets_from 0) (extents_of_both p (listed ts) starts.0) ∙ offsets_of_both 0 first (extents_in p starts.0)) in
    let same : param_offsets 0 (shapes_of ts) ≡ offsets = scalars_lie p ts 0 h in
    let count : length (shapes_of ts) ≡ length offsets = sym (offsets_count 0 (shapes_of ts)) ∙ ap length same in
    ap (take (length (shapes_of ts))) whole ∙ (ap (λ n. take n (offsets ++ rest)) count ∙ (take-append_seam offsets rest ∙ sym same))
