-- What sorts of types say of the types.
use Rattle.std.proofs.Common.{◌≡◌, List, refl}
use Rattle.c_types_model.specs.Types.{CType, Void, Integer, PointerTo, ArrayOf, StructOf, UndefinedStruct, FunctionOf}
use Rattle.c_types_model.specs.declared.extent.Extent.{Extent}
use Rattle.annot_reader_rules.specs.Regions.{target}
use Rattle.annot_reader_functions.specs.Sorts.{known_size, sort_of, target_size}

module _ (structs : List Extent) where
  of_object : (t : CType) → target_size (sort_of structs (PointerTo t)) ≡ known_size structs t
  of_object Void = refl
  of_object (Integer k) = refl
  of_object (PointerTo t) = refl
  of_object (ArrayOf n t) = refl
  of_object (StructOf n) = refl
  of_object (UndefinedStruct tag) = refl
  of_object (FunctionOf r ts) = refl

  -- what a pointer points to has the size of its type, where that is known; what is no pointer is as one to void
  pub target_size_is : (t : CType) → target_size (sort_of structs t) ≡ known_size structs (target t)
  target_size_is Void = refl
  target_size_is (Integer k) = refl
  target_size_is (PointerTo t) = of_object t
  target_size_is (ArrayOf n t) = refl
  target_size_is (StructOf n) = refl
  target_size_is (UndefinedStruct tag) = refl
  target_size_is (FunctionOf r ts) = refl
