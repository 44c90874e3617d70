-- What annotations say of functions, parameters and globals.
use Rattle.std.specs.Prelude.{ℕ, Bool, List, Option}
use Rattle.stub_core.specs.declared.terms.Size.{Size}

-- of a parameter: how many bytes are read; the capacity and the used size of what is written; the parameter
-- that is the key of what is written later, and its capacity; whether it is a function that may be called
-- back
pub record Parameter : Type 0 where
  pub reads : Option Size
  -- the capacity, and then the used size
  pub writes : Option (Size × Size)
  pub prepares : Option (ℕ × Size)
  pub callback : Bool

-- of a function: the cuts that it is in the interface of; its parameters; those whose values are keys of
-- its call and return; the key and the used size of what it releases; whether equal results are written
-- once; the mutexes that its callers hold
pub record Notes : Type 0 where
  pub cuts : List (List ℕ)
  pub params : List Parameter
  pub sync : List ℕ
  pub commit : Option (ℕ × Size)
  pub cache : Bool
  pub holds : List ℕ

-- of a source: of its functions, in the order of their numbers, and the mutexes that guard its globals
pub record Annotated : Type 0 where
  pub functions : List Notes
  pub guards : List (Option ℕ)
