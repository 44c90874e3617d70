-- The types of the language (C11 6.2.5).
use Rattle.std.specs.Prelude.{ℕ, List}
use Rattle.r2_num.specs.declared.kinds.IntKind.{IntKind}

mutual
  -- a struct is named by the number of its definition, in the order of the source
  pub data CType : Type 0 where
    Void : CType
    Integer : IntKind → CType
    PointerTo : CType → CType
    ArrayOf : (length : ℕ) → CType → CType
    StructOf : (number : ℕ) → CType
    -- a struct that the source never defines, which is named by its tag
    UndefinedStruct : (tag : List ℕ) → CType
    FunctionOf : (result : CType) → CTypes → CType

  -- the types of parameters
  pub data CTypes : Type 0 where
    NoTypes : CTypes
    MoreTypes : CType → CTypes → CTypes
