-- How the logic stores a type: as a list of steps, by which two stacks make it again.
use Rattle.std.specs.Prelude.{◌≡◌, ℕ, ◌==◌, if◌then◌else◌, List, [], ◌∷◌, drop, refl}
use Rattle.std.specs.Coded.{Coded, code_by, coded×, coded_ℕ, coded_list}
use Rattle.std.proofs.Common.{ap, ◌∙◌}
use Rattle.r2_num.specs.declared.kinds.IntKind.{IntKind}
use Rattle.r2_num.specs.declared.kinds.IntKind.TheVariants.{I8, U8, I16, U16, I32, U32, I64, U64}
use Rattle.c_types_model.specs.Types.{CType, CTypes, Void, Integer, PointerTo, ArrayOf, StructOf, UndefinedStruct, FunctionOf, NoTypes, MoreTypes}

abbrev Steps : Type 0
Steps = List (ℕ × List ℕ)

abbrev number_of : IntKind → ℕ
number_of I8 = 0
number_of U8 = 1
number_of I16 = 2
number_of U16 = 3
number_of I32 = 4
number_of U32 = 5
number_of I64 = 6
number_of U64 = 7

abbrev kind_of : ℕ → IntKind
kind_of n = if n == 0 then I8 else if n == 1 then U8
    else if n == 2 then I16 else if n == 3 then U16 else if n == 4 then I32 else if n == 5 then U32
    else if n == 6 then I64 else U64

pub kind_of-number_of : (k : IntKind) → kind_of (number_of k) ≡ k
kind_of-number_of I8 = refl
kind_of-number_of U8 = refl
kind_of-number_of I16 = refl
kind_of-number_of U16 = refl
kind_of-number_of I32 = refl
kind_of-number_of U32 = refl
kind_of-number_of I64 = refl
kind_of-number_of U64 = refl

abbrev number_in : List ℕ → ℕ
number_in [] = 0
number_in (n ∷ ns) = n

abbrev top : List CType → CType
top [] = Void
top (t ∷ s) = t

abbrev top_list : List CTypes → CTypes
top_list [] = NoTypes
top_list (ts ∷ s) = ts

-- the steps that put a type, or a list of types, on its stack, and then the further steps
abbrev mutual
  steps_of : CType → Steps → Steps
  steps_of Void rest = (0, []) ∷ rest
  steps_of (Integer k) rest = (1, number_of k ∷ []) ∷ rest
  steps_of (StructOf n) rest = (2, n ∷ []) ∷ rest
  steps_of (UndefinedStruct tag) rest = (3, tag) ∷ rest
  steps_of (PointerTo t) rest = steps_of t ((4, []) ∷ rest)
  steps_of (ArrayOf n t) rest = steps_of t ((5, n ∷ []) ∷ rest)
  steps_of (FunctionOf r ps) rest = all_steps_of ps (steps_of r ((8, []) ∷ rest))

  all_steps_of : CTypes → Steps → Steps
  all_steps_of NoTypes rest = (6, []) ∷ rest
  all_steps_of (MoreTypes t ts) rest = all_steps_of ts (steps_of t ((7, []) ∷ rest))

-- what steps make of a stack of types and one of lists
abbrev made_by : Steps → List CType → List CTypes → List CType
made_by [] s l = s
made_by (k ∷ ks) s l =
    if k.0 == 0 then made_by ks (Void ∷ s) l
    else if k.0 == 1 then made_by ks (Integer (kind_of (number_in k.1)) ∷ s) l
    else if k.0 == 2 then made_by ks (StructOf (number_in k.1) ∷ s) l
    else if k.0 == 3 then made_by ks (UndefinedStruct k.1 ∷ s) l
    else if k.0 == 4 then made_by ks (PointerTo (top s) ∷ drop 1 s) l
    else if k.0 == 5 then made_by ks (ArrayOf (number_in k.1) (top s) ∷ drop 1 s) l
    else if k.0 == 6 then made_by ks s (NoTypes ∷ l)
    else if k.0 == 7 then made_by ks (drop 1 s) (MoreTypes (top s) (top_list l) ∷ drop 1 l)
    else made_by ks (FunctionOf (top s) (top_list l) ∷ drop 1 s) (drop 1 l)

mutual
  type_made : (t : CType) (rest : Steps) (s : List CType) (l : List CTypes) →
      made_by (steps_of t rest) s l ≡ made_by rest (t ∷ s) l
  type_made Void rest s l = refl
  type_made (Integer k) rest s l = ap (λ j. made_by rest (Integer j ∷ s) l) (kind_of-number_of k)
  type_made (StructOf n) rest s l = refl
  type_made (UndefinedStruct tag) rest s l = refl
  type_made (PointerTo t) rest s l = type_made t ((4, []) ∷ rest) s l
  type_made (ArrayOf n t) rest s l = type_made t ((5, n ∷ []) ∷ rest) s l
  type_made (FunctionOf r ps) rest s l = types_made ps (steps_of r ((8, []) ∷ rest)) s l ∙ type_made r
      ((8, []) ∷ rest) s (ps ∷ l)

  types_made : (ts : CTypes) (rest : Steps) (s : List CType) (l : List CTypes) →
      made_by (all_steps_of ts rest) s l ≡ made_by rest s (ts ∷ l)
  types_made NoTypes rest s l = refl
  types_made (MoreTypes t ts) rest s l = types_made ts (steps_of t ((7, []) ∷ rest)) s l ∙ type_made t
      ((7, []) ∷ rest) s (ts ∷ l)

pub made_again : (t : CType) → top (made_by (steps_of t []) [] []) ≡ t
made_again t = ap top (type_made t [] [] [])

abbrev pub type_code : Coded CType
type_code = code_by Steps (coded_list (coded× coded_ℕ (coded_list coded_ℕ))) (λ t. steps_of t []) (λ ks.
    top (made_by ks [] [])) made_again
