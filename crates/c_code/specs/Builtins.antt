-- What code knows of the builtins: the types of their parameters and results, as far as code tells types
-- apart.
use Rattle.std.specs.Prelude.{◌≡◌, List, [], ◌∷◌, None}
use Rattle.r2_num.specs.declared.kinds.IntKind.TheVariants.{I32, U64}
use Rattle.c_code.specs.declared.shape.Shape.{Shape}
use Rattle.c_code.specs.declared.shape.Shape.TheVariants.{Void, Int, Pointer}
use Rattle.c_code.specs.declared.code.FuncInfo.{FuncInfo}

pub record Prototype : Type 0 where
  pub params : List Shape
  pub result : Shape

abbrev pub prototype : List Shape → Shape → Prototype
prototype params result = record { params = params; result = result }

abbrev pub int : Shape
int = Int I32

abbrev pub size : Shape
size = Int U64

-- by number: malloc, free, spawn, join, lock, unlock, print
abbrev pub prototypes : List Prototype
prototypes =
    prototype (size ∷ []) Pointer
    ∷ prototype (Pointer ∷ []) Void
    ∷ prototype (Pointer ∷ Pointer ∷ []) int
    ∷ prototype (int ∷ []) int
    ∷ prototype (int ∷ []) int
    ∷ prototype (int ∷ []) int
    ∷ prototype (Pointer ∷ size ∷ []) Void
    ∷ []

-- the function has these types, and no body
pub record IsBuiltin (f : FuncInfo) (p : Prototype) : Type 0 where
  pub params : f.params ≡ p.params
  pub result : f.result ≡ p.result
  pub no_body : f.entry ≡ None

-- the functions are those of the prototypes, in their order
abbrev pub AreBuiltins : List FuncInfo → List Prototype → Type 0
AreBuiltins [] [] = Unit {0}
AreBuiltins (f ∷ fs) (p ∷ ps) = IsBuiltin f p × AreBuiltins fs ps
AreBuiltins (f ∷ fs) [] = ⊥
AreBuiltins [] (p ∷ ps) = ⊥
