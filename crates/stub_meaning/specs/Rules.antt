-- The rules that annotations keep, as far as the types of values tell.
use Rattle.std.specs.Prelude.{◌≡◌, ℕ, Bool, true, false, List, [], ◌∷◌, Option, Some, None, IfSome, slice_get}
use Rattle.std.specs.List.{All}
use Rattle.c_code.specs.declared.shape.Shape.{Shape}
use Rattle.c_code.specs.declared.shape.Shape.TheVariants.{Void, Int, Pointer}
use Rattle.c_code.specs.Builtins.{Prototype}
use Rattle.stub_core.specs.declared.terms.Term.{Term}
use Rattle.stub_core.specs.declared.terms.Term.TheVariants.{Const, Param, Return}
use Rattle.stub_core.specs.declared.terms.Size.{Size}
use Rattle.stub_operations.specs.Operations.{CallSays, ParameterSays}

abbrev pub IsInteger : Option Shape → Type 0
IsInteger (Some (Int kind)) = Unit {0}
IsInteger (Some Void) = ⊥
IsInteger (Some Pointer) = ⊥
IsInteger None = ⊥

abbrev pub IsScalar : Option Shape → Type 0
IsScalar (Some (Int kind)) = Unit {0}
IsScalar (Some Void) = ⊥
IsScalar (Some Pointer) = Unit {0}
IsScalar None = ⊥

-- a factor is a number, an integer parameter, or the integer result where that is known
abbrev pub IsTerm : Prototype → (known : Bool) → Term → Type 0
IsTerm t known (Const n) = Unit {0}
IsTerm t known (Param p) = IsInteger (slice_get t.params p)
IsTerm t known Return = (known ≡ true) × IsInteger (Some t.result)

abbrev pub IsSize : Prototype → (known : Bool) → Size → Type 0
IsSize t known size = IsTerm t known size.a × IfSome size.b (IsTerm t known)

-- the value of the parameter is a key
abbrev pub IsKey : Prototype → ℕ → Type 0
IsKey t p = IsScalar (slice_get t.params p)

-- what is written has a capacity, and a used size that may be the result
abbrev pub IsWritten : Prototype → Size × Size → Type 0
IsWritten t w = IsSize t false w.0 × IsSize t true w.1

abbrev pub IsPrepared : Prototype → ℕ × Size → Type 0
IsPrepared t p = IsKey t p.0 × IsSize t false p.1

abbrev pub IsCommitted : Prototype → ℕ × Size → Type 0
IsCommitted t c = IsKey t c.0 × IsSize t true c.1

-- what may be said of a parameter of this type: regions and callbacks of pointers alone; no region of a
-- function; nothing else of what is written later; with `out` what is read is the capacity
pub record KeepsParameter (t : Prototype) (shape : Shape) (x : ParameterSays) : Type 0 where
  pub reads : IfSome x.reads (λ r. (shape ≡ Pointer) × IsSize t false r)
  pub writes : IfSome x.writes (λ w. (shape ≡ Pointer) × IsWritten t w)
  pub prepares : IfSome x.prepares (λ p. (shape ≡ Pointer) × IsPrepared t p × (x.reads ≡ None) ×
      (x.writes ≡ None))
  pub whole : IfSome x.writes (λ w. IfSome x.reads (λ r. r ≡ w.0))
  pub callback : x.callback ≡ true → (shape ≡ Pointer) × (x.reads ≡ None) × (x.writes ≡ None) ×
      (x.prepares ≡ None)

-- of each parameter
abbrev pub KeepParameters : Prototype → List Shape → List ParameterSays → Type 0
KeepParameters t [] [] = Unit {0}
KeepParameters t [] (x ∷ xs) = ⊥
KeepParameters t (s ∷ ss) [] = ⊥
KeepParameters t (s ∷ ss) (x ∷ xs) = KeepsParameter t s x × KeepParameters t ss xs

pub record KeepsRules (t : Prototype) (n : CallSays) : Type 0 where
  pub params : KeepParameters t t.params n.params
  pub sync : All (IsKey t) n.sync
  pub commit : IfSome n.commit (IsCommitted t)
