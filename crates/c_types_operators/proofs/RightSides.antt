-- Which rule the right side of a compound assignment breaks that is no integer.
use Rattle.std.proofs.Common.{◌≡◌, ◌&&◌, ℕ, Bool, true, false, List, Option, Some, None, is_some, refl, sym, ap, ◌∙◌, subst}
use Rattle.std.specs.Prelude.{if◌then◌else◌}
use Rattle.r2_num.specs.declared.kinds.IntKind.{IntKind}
use Rattle.r2_num.specs.declared.operations.Op.{Op}
use Rattle.r2_num.specs.declared.operations.Op.TheVariants.{Add, Sub}
use Rattle.c_types_model.specs.Types.{CType, Void, Integer, PointerTo, ArrayOf, StructOf, UndefinedStruct, FunctionOf}
use Rattle.c_types_model.specs.declared.extent.Extent.{Extent}
use Rattle.c_types_table.specs.declared.ids.TypeId.{TypeId}
use Rattle.c_types_table.specs.declared.ty.Ty.{Ty}
use Rattle.c_types_table.specs.Tables.{type_at}
use Rattle.c_types_rules.specs.TypeTests.{is_complete, is_scalar, same_type}
use Rattle.c_types_rules.specs.Operators.{difference_is_integer, is_unfit, rule_of_right, sum_is_pointer}
use Rattle.c_types_operators.specs.declared.queries.Scalar.{Scalar}
use Rattle.c_types_operators.specs.declared.queries.Scalar.TheVariants as scalars
use Rattle.c_types_operators.specs.Answers.{IsSizeOf, is_pointer}
use Rattle.c_types_operators.specs.Scalars.{IsScalar}

-- a size is there exactly of a complete type
pub size_there : (structs : List Extent) (c : CType) (o : Option ℕ) → IsSizeOf structs c o → is_some o ≡ is_complete structs c
size_there structs c (Some size) h = sym h.0
size_there structs c None h = sym h

module _ (structs : List Extent) (types : List Ty) (c u : CType) where
  pub sum_tested : (k : IntKind) → c ≡ Integer k → sum_is_pointer structs c (PointerTo u) ≡ is_complete structs u
  sum_tested k e = let P : CType → Type 0 = λ d. sum_is_pointer structs d (PointerTo u) ≡ is_complete structs u in subst P (sym e) refl

  not_sum : (d : CType) → is_scalar d ≡ false → sum_is_pointer structs d (PointerTo u) ≡ false
  not_sum Void h = refl
  not_sum (Integer k) h = absurd cc
  not_sum (PointerTo t) h = refl
  not_sum (ArrayOf n t) h = refl
  not_sum (StructOf n) h = refl
  not_sum (UndefinedStruct tag) h = refl
  not_sum (FunctionOf r ps) h = refl

  pub no_sum : (o : Option Scalar) → IsScalar types c o → ((k : IntKind) → o ≡ Some (scalars.Integer k) → ⊥) → sum_is_pointer structs c (PointerTo u) ≡ false
  no_sum (Some (scalars.Integer k)) h n = absurd (n k refl)
  no_sum (Some (scalars.Pointer t)) h n = let P : CType → Type 0 = λ d. sum_is_pointer structs d (PointerTo u) ≡ false in subst P (sym h.1) refl
  no_sum None h n = not_sum c h

  pub difference_tested : (t : TypeId) → c ≡ PointerTo (type_at types t) → difference_is_integer structs c (PointerTo u) ≡ (same_type (type_at types t) u && is_complete structs (type_at types t))
  difference_tested t e = let P : CType → Type 0 = λ d. difference_is_integer structs d (PointerTo u) ≡ (same_type (type_at types t) u && is_complete structs (type_at types t)) in subst P (sym e) refl

  not_difference : (d : CType) → is_scalar d ≡ false → difference_is_integer structs d (PointerTo u) ≡ false
  not_difference Void h = refl
  not_difference (Integer k) h = absurd cc
  not_difference (PointerTo t) h = absurd cc
  not_difference (ArrayOf n t) h = refl
  not_difference (StructOf n) h = refl
  not_difference (UndefinedStruct tag) h = refl
  not_difference (FunctionOf r ps) h = refl

  pub no_difference : (o : Option Scalar) → IsScalar types c o → ((t : TypeId) → o ≡ Some (scalars.Pointer t) → ⊥) → difference_is_integer structs c (PointerTo u) ≡ false
  no_difference (Some (scalars.Integer k)) h n = let P : CType → Type 0 = λ d. difference_is_integer structs d (PointerTo u) ≡ false in subst P (sym h) refl
  no_difference (Some (scalars.Pointer t)) h n = absurd (n t refl)
  no_difference None h n = not_difference c h

-- ---- the rule

-- what is no pointer on the right fits no operator
integer_summed : (structs : List Extent) (j : IntKind) (u : CType) → is_pointer u ≡ false → sum_is_pointer structs (Integer j) u ≡ false
integer_summed structs j (PointerTo u) h = absurd cc
integer_summed structs j Void h = refl
integer_summed structs j (Integer k) h = refl
integer_summed structs j (ArrayOf n u) h = refl
integer_summed structs j (StructOf n) h = refl
integer_summed structs j (UndefinedStruct tag) h = refl
integer_summed structs j (FunctionOf r ps) h = refl

no_pointer_summed : (structs : List Extent) (t u : CType) → is_pointer u ≡ false → sum_is_pointer structs t u ≡ false
no_pointer_summed structs (Integer j) u h = integer_summed structs j u h
no_pointer_summed structs Void u h = refl
no_pointer_summed structs (PointerTo t) u h = refl
no_pointer_summed structs (ArrayOf n t) u h = refl
no_pointer_summed structs (StructOf n) u h = refl
no_pointer_summed structs (UndefinedStruct tag) u h = refl
no_pointer_summed structs (FunctionOf r ps) u h = refl

pointer_taken : (structs : List Extent) (t u : CType) → is_pointer u ≡ false → difference_is_integer structs (PointerTo t) u ≡ false
pointer_taken structs t (PointerTo u) h = absurd cc
pointer_taken structs t Void h = refl
pointer_taken structs t (Integer k) h = refl
pointer_taken structs t (ArrayOf n u) h = refl
pointer_taken structs t (StructOf n) h = refl
pointer_taken structs t (UndefinedStruct tag) h = refl
pointer_taken structs t (FunctionOf r ps) h = refl

no_pointer_taken : (structs : List Extent) (t u : CType) → is_pointer u ≡ false → difference_is_integer structs t u ≡ false
no_pointer_taken structs (PointerTo t) u h = pointer_taken structs t u h
no_pointer_taken structs Void u h = refl
no_pointer_taken structs (Integer k) u h = refl
no_pointer_taken structs (ArrayOf n t) u h = refl
no_pointer_taken structs (StructOf n) u h = refl
no_pointer_taken structs (UndefinedStruct tag) u h = refl
no_pointer_taken structs (FunctionOf r ps) u h = refl

fits_no_operator : (structs : List Extent) (op : Op) (t u : CType) → is_pointer u ≡ false → is_unfit structs op t u ≡ false
fits_no_operator structs Add t u h = no_pointer_summed structs t u h
fits_no_operator structs Sub t u h = no_pointer_taken structs t u h
fits_no_operator structs _ t u h = refl

pub no_pointer : (structs : List Extent) (op : Op) (t u : CType) → is_pointer u ≡ false → 5 ≡ rule_of_right structs op t u
no_pointer structs op t u h = ap (λ b. if b then 6 else 5) (sym (fits_no_operator structs op t u h))

pub unfit_rule : (structs : List Extent) (op : Op) (t u : CType) (b : Bool) → b ≡ is_unfit structs op t u → (if b then 6 else 5) ≡ rule_of_right structs op t u
unfit_rule structs op t u b e = ap (λ c. if c then 6 else 5) e
