-- Extents of types where those of structs are capped.
use Rattle.std.proofs.Common.{◌≡◌, ℕ, zero, suc, ◌-◌, ◌*◌, ◌^◌, ◌<◌, ◌≤◌, Bool, true, false, ltb, List, map, Option, Some, None, refl, sym, ap, ◌∙◌, arith}
use Rattle.std.proofs.Math.Nat.{mul-le-mul_left, min-eq_right}
use borrow.Author.Tests.{ltb-false, ltb-true}
use Rattle.std.proofs.lemmas.Option.{slice_get-map}
use Rattle.std.specs.Prelude.{slice_get}
use Rattle.std.specs.Option.{option_map}
use Rattle.c_types_model.specs.declared.extent.Extent.{Extent}
use Rattle.c_types_model.specs.Types.{CType, Void, Integer, PointerTo, ArrayOf, StructOf, UndefinedStruct, FunctionOf}
use Rattle.c_types_model.specs.Layouts.{capped, capped_extent, extent_of, repeated}

array_capped : (n : ℕ) (e : Extent) → capped_extent (repeated n (capped_extent e)) ≡ capped_extent (repeated n e)
array_capped n e = ap (λ s. record { size = s; align = e.align }) (sizes n e.size)
  where
    over : (n s : ℕ) → 2 ^ 64 ≤ s → 2 ^ 64 ≤ suc n * s
    over n s h = let m : suc n * 2 ^ 64 ≤ suc n * s = mul-le-mul_left (suc n) h in omega arith

    top : (n : ℕ) → 2 ^ 64 - 1 ≤ suc n * (2 ^ 64 - 1)
    top n = omega arith

    by : (n s : ℕ) (t : Bool) → ltb s (2 ^ 64) ≡ t → capped (suc n * capped s) ≡ capped (suc n * s)
    by n s true h = let less : s < 2 ^ 64 = ltb-true s (2 ^ 64) h in let same : capped s ≡ s = omega arith in ap (λ x. capped (suc n * x)) same
    by n s false h =
        let more : 2 ^ 64 ≤ s = ltb-false s (2 ^ 64) h in
        let cut : capped s ≡ 2 ^ 64 - 1 = omega arith in
        let a = over n s more in
        let b = top n in
        ap (λ x. capped (suc n * x)) cut ∙ (min-eq_right b ∙ sym (let c : 2 ^ 64 - 1 ≤ suc n * s = omega arith in min-eq_right c))

    sizes : (n s : ℕ) → capped (n * capped s) ≡ capped (n * s)
    sizes zero s = omega arith
    sizes (suc n) s = by n s (ltb s (2 ^ 64)) refl

through : (n : ℕ) (o : Option Extent) → option_map capped_extent (option_map (repeated n) (option_map capped_extent o)) ≡ option_map capped_extent (option_map (repeated n) o)
through n None = refl
through n (Some e) = ap Some (array_capped n e)

twice : (o : Option Extent) → option_map capped_extent (option_map capped_extent o) ≡ option_map capped_extent o
twice None = refl
twice (Some e) = ap (λ s. Some (record { size = s; align = e.align })) (again e.size)
  where
    again : (s : ℕ) → capped (capped s) ≡ capped s
    again s = omega arith

-- an array of capped elements
pub array_of_capped : (n : ℕ) (o : Option Extent) → option_map capped_extent (option_map (repeated n) (option_map capped_extent o)) ≡ option_map capped_extent (option_map (repeated n) o)
array_of_capped = through

pub extents_capped : (structs : List Extent) (t : CType) → option_map capped_extent (extent_of (map capped_extent structs) t) ≡ option_map capped_extent (extent_of structs t)
extents_capped structs Void = refl
extents_capped structs (Integer k) = refl
extents_capped structs (PointerTo t) = refl
extents_capped structs (ArrayOf n t) =
    let inner = extents_capped structs t in
    sym (through n (extent_of (map capped_extent structs) t)) ∙ (ap (λ o. option_map capped_extent (option_map (repeated n) o)) inner ∙ through n (extent_of structs t))
extents_capped structs (StructOf i) = ap (option_map capped_extent) (slice_get-map capped_extent structs i) ∙ twice (slice_get structs i)
extents_capped structs (UndefinedStruct tag) = refl
extents_capped structs (FunctionOf r ps) = refl
