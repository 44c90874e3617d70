-- What a size is in one call.
use Rattle.std.specs.Prelude.{ℕ, ◌-◌, ◌^◌, ◌<◌, List, slice_index_or, Option, None, Some, IfSome, ℤ, pos, ◌*ℤ◌, ⊤}
use Rattle.std.specs.Int.{int_min}
use Rattle.stub_core.specs.declared.terms.Term.{Term}
use Rattle.stub_core.specs.declared.terms.Term.TheVariants.{Const, Param, Return}
use Rattle.stub_core.specs.declared.terms.Size.{Size}

-- the value of a term, given the arguments and the result of the call
abbrev pub value_of : List ℤ → ℤ → Term → ℤ
value_of args outcome (Const n) = pos n
value_of args outcome (Param i) = slice_index_or args i (pos 0)
value_of args outcome Return = outcome

-- the value of a second term, 1 where there is none
abbrev pub second_of : List ℤ → ℤ → Option Term → ℤ
second_of args outcome None = pos 1
second_of args outcome (Some term) = value_of args outcome term

-- the product of the terms, and 2^127 - 1 where the product is greater
abbrev pub size_of : Size → List ℤ → ℤ → ℤ
size_of size args outcome = int_min (value_of args outcome size.a *ℤ second_of args outcome size.b)
    (pos (2 ^ 127 - 1))

-- a term that is a parameter names one of n arguments
abbrev pub IsWithin : ℕ → Term → Type 0
IsWithin n (Param i) = i < n
IsWithin n term = ⊤

abbrev pub ParamsWithin : ℕ → Size → Type 0
ParamsWithin n size = IsWithin n size.a × IfSome size.b (IsWithin n)
