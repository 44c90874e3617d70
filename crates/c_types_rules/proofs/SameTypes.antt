-- The test of types is equality.
use Rattle.std.proofs.Common.{◌≡◌, ℕ, ◌↔◌, ◌&&◌, Bool, true, false, IsTrue, List, nat_eq, refl, ap, ◌∙◌, subst}
use Rattle.std.proofs.lemmas.Slice.Eq.{bytes_eq-Decides}
use borrow.Author.Tests.{eqb-true, eq-eqb}
use Rattle.r2_num.specs.declared.kinds.IntKind.{IntKind}
use Rattle.r2_num.specs.declared.kinds.IntKind.TheVariants.{I8, U8, I16, U16, I32, U32, I64, U64}
use Rattle.c_types_model.specs.Types.{CType, CTypes, Void, Integer, PointerTo, ArrayOf, StructOf, UndefinedStruct, FunctionOf, NoTypes, MoreTypes}
use Rattle.c_scopes.specs.Scopes.{same_name}
use Rattle.c_types_rules.specs.TypeTests.{same_kind, same_type, same_types}

both : (a b : Bool) → IsTrue (a && b) → IsTrue a × IsTrue b
both true b h = (refl, h)
both false b h = absurd cc

all : (a b : Bool) → IsTrue a → IsTrue b → IsTrue (a && b)
all true b h k = k
all false b h k = absurd cc

kind_itself : (k : IntKind) → IsTrue (same_kind k k)
kind_itself I8 = refl
kind_itself U8 = refl
kind_itself I16 = refl
kind_itself U16 = refl
kind_itself I32 = refl
kind_itself U32 = refl
kind_itself I64 = refl
kind_itself U64 = refl

kinds_equal : (j k : IntKind) → IsTrue (same_kind j k) → j ≡ k
kinds_equal I8 I8 h = refl
kinds_equal U8 U8 h = refl
kinds_equal I16 I16 h = refl
kinds_equal U16 U16 h = refl
kinds_equal I32 I32 h = refl
kinds_equal U32 U32 h = refl
kinds_equal I64 I64 h = refl
kinds_equal U64 U64 h = refl
kinds_equal _ _ h = absurd cc

number_itself : (n : ℕ) → IsTrue (nat_eq n n)
number_itself n = eq-eqb n n refl

numbers_equal : (m n : ℕ) → IsTrue (nat_eq m n) → m ≡ n
numbers_equal m n h = eqb-true m n h

name_itself : (a : List ℕ) → IsTrue (same_name a a)
name_itself a = (bytes_eq-Decides a a).1 refl

names_equal : (a b : List ℕ) → IsTrue (same_name a b) → a ≡ b
names_equal a b h = (bytes_eq-Decides a b).0 h

mutual
  itself : (t : CType) → IsTrue (same_type t t)
  itself Void = refl
  itself (Integer k) = kind_itself k
  itself (PointerTo t) = itself t
  itself (ArrayOf n t) = all (nat_eq n n) (same_type t t) (number_itself n) (itself t)
  itself (StructOf n) = number_itself n
  itself (UndefinedStruct tag) = name_itself tag
  itself (FunctionOf r ps) = all (same_type r r) (same_types ps ps) (itself r) (themselves ps)

  themselves : (ts : CTypes) → IsTrue (same_types ts ts)
  themselves NoTypes = refl
  themselves (MoreTypes t ts) = all (same_type t t) (same_types ts ts) (itself t) (themselves ts)

mutual
  types_equal : (t u : CType) → IsTrue (same_type t u) → t ≡ u
  types_equal Void Void h = refl
  types_equal (Integer j) (Integer k) h = ap Integer (kinds_equal j k h)
  types_equal (PointerTo t) (PointerTo u) h = ap PointerTo (types_equal t u h)
  types_equal (ArrayOf m t) (ArrayOf n u) h =
      let parts = both (nat_eq m n) (same_type t u) h in
      ap (λ k. ArrayOf k t) (numbers_equal m n parts.0) ∙ ap (ArrayOf n) (types_equal t u parts.1)
  types_equal (StructOf m) (StructOf n) h = ap StructOf (numbers_equal m n h)
  types_equal (UndefinedStruct a) (UndefinedStruct b) h = ap UndefinedStruct (names_equal a b h)
  types_equal (FunctionOf r ps) (FunctionOf s qs) h =
      let parts = both (same_type r s) (same_types ps qs) h in
      ap (λ t. FunctionOf t ps) (types_equal r s parts.0) ∙ ap (FunctionOf s) (lists_equal ps qs parts.1)
  types_equal _ _ h = absurd cc

  lists_equal : (ts us : CTypes) → IsTrue (same_types ts us) → ts ≡ us
  lists_equal NoTypes NoTypes h = refl
  lists_equal (MoreTypes t ts) (MoreTypes u us) h =
      let parts = both (same_type t u) (same_types ts us) h in
      ap (λ v. MoreTypes v ts) (types_equal t u parts.0) ∙ ap (MoreTypes u) (lists_equal ts us parts.1)
  lists_equal _ _ h = absurd cc

pub types_compared : (t u : CType) → IsTrue (same_type t u) ↔ (t ≡ u)
types_compared t u = (types_equal t u, λ e. subst (λ v. IsTrue (same_type t v)) e (itself t))
