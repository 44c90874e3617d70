-- In a table in which no type stands twice, equal types have one number.
use Rattle.std.proofs.Common.{◌≡◌, ℕ, zero, suc, ◌+◌, ◌<◌, ◌≤◌, ◌↔◌, Bool, true, false, IsTrue, List, [], ◌∷◌, length, get_or, Option, Some, None, nat_eq, refl, sym, ap, ◌∙◌, arith, subst, ◌⊎◌, inl, inr}
use Rattle.std.specs.Prelude.{slice_get}
use Rattle.std.specs.List.{All, IsDistinct}
use Rattle.std.proofs.lemmas.List.Elements.{All-head, All-tail}
use Rattle.std.proofs.lemmas.Option.{slice_get-get_or}
use Rattle.std.proofs.lemmas.Map.Keys.{apart_from_distinct}
use Rattle.c_types_model.specs.Types.{CType, CTypes, Integer, PointerTo, ArrayOf, StructOf, UndefinedStruct, FunctionOf, NoTypes, MoreTypes}
use Rattle.c_types_model.specs.Types as types
use Rattle.c_types_table.specs.declared.ids.TypeId.{TypeId}
use Rattle.c_types_table.specs.declared.ty.Ty.{Ty}
use Rattle.c_types_table.specs.declared.ty.Ty.TheVariants as nodes
use Rattle.c_types_table.specs.Tables.{IsBelow, IsMadeOf, IsTable, AreDistinct, at, all_at, made, types_of, type_at}
use Rattle.c_types_table.proofs.TypeLists.{made_in_table}

-- below i, a number is that of one type
One : List CType → ℕ → Type 0
One ts i = (p q : TypeId) → p.0 < i → q.0 < i → at ts p ≡ at ts q → p ≡ q

one_list : (ts : List CType) (i : ℕ) (ps qs : List TypeId) → All (IsBelow i) ps → All (IsBelow i) qs → One ts i → all_at ts ps ≡ all_at ts qs → ps ≡ qs
unfolding One
one_list ts i [] [] h g one e = refl
one_list ts i [] (q ∷ qs) h g one e = absurd cc
one_list ts i (p ∷ ps) [] h g one e = absurd cc
one_list ts i (p ∷ ps) (q ∷ qs) h g one e =
    let first : p ≡ q = one p q (All-head (IsBelow i) p ps h) (All-head (IsBelow i) q qs g) cc in
    let rest : ps ≡ qs = one_list ts i ps qs (All-tail (IsBelow i) p ps h) (All-tail (IsBelow i) q qs g) one cc in
    cc

-- types of the same parts are the same node
one_node : (ts : List CType) (i : ℕ) (x y : Ty) → IsMadeOf i x → IsMadeOf i y → One ts i → made ts x ≡ made ts y → x ≡ y
unfolding One
one_node ts i nodes.Void nodes.Void h g one e = cc
one_node ts i nodes.Void (nodes.Int k') h g one e = absurd cc
one_node ts i nodes.Void (nodes.Pointer t') h g one e = absurd cc
one_node ts i nodes.Void (nodes.Array t' l') h g one e = absurd cc
one_node ts i nodes.Void (nodes.Struct s') h g one e = absurd cc
one_node ts i nodes.Void (nodes.UndefinedStruct tag') h g one e = absurd cc
one_node ts i nodes.Void (nodes.Function r' ps') h g one e = absurd cc
one_node ts i (nodes.Int k) nodes.Void h g one e = absurd cc
one_node ts i (nodes.Int k) (nodes.Int k') h g one e = cc
one_node ts i (nodes.Int k) (nodes.Pointer t') h g one e = absurd cc
one_node ts i (nodes.Int k) (nodes.Array t' l') h g one e = absurd cc
one_node ts i (nodes.Int k) (nodes.Struct s') h g one e = absurd cc
one_node ts i (nodes.Int k) (nodes.UndefinedStruct tag') h g one e = absurd cc
one_node ts i (nodes.Int k) (nodes.Function r' ps') h g one e = absurd cc
one_node ts i (nodes.Pointer t) nodes.Void h g one e = absurd cc
one_node ts i (nodes.Pointer t) (nodes.Int k') h g one e = absurd cc
one_node ts i (nodes.Pointer t) (nodes.Pointer t') h g one e = ap nodes.Pointer (one t t' h g cc)
one_node ts i (nodes.Pointer t) (nodes.Array t' l') h g one e = absurd cc
one_node ts i (nodes.Pointer t) (nodes.Struct s') h g one e = absurd cc
one_node ts i (nodes.Pointer t) (nodes.UndefinedStruct tag') h g one e = absurd cc
one_node ts i (nodes.Pointer t) (nodes.Function r' ps') h g one e = absurd cc
one_node ts i (nodes.Array t l) nodes.Void h g one e = absurd cc
one_node ts i (nodes.Array t l) (nodes.Int k') h g one e = absurd cc
one_node ts i (nodes.Array t l) (nodes.Pointer t') h g one e = absurd cc
one_node ts i (nodes.Array t l) (nodes.Array t' l') h g one e = let element : t ≡ t' = one t t' h g cc in let length : l ≡ l' = cc in cc
one_node ts i (nodes.Array t l) (nodes.Struct s') h g one e = absurd cc
one_node ts i (nodes.Array t l) (nodes.UndefinedStruct tag') h g one e = absurd cc
one_node ts i (nodes.Array t l) (nodes.Function r' ps') h g one e = absurd cc
one_node ts i (nodes.Struct s) nodes.Void h g one e = absurd cc
one_node ts i (nodes.Struct s) (nodes.Int k') h g one e = absurd cc
one_node ts i (nodes.Struct s) (nodes.Pointer t') h g one e = absurd cc
one_node ts i (nodes.Struct s) (nodes.Array t' l') h g one e = absurd cc
one_node ts i (nodes.Struct s) (nodes.Struct s') h g one e = let number : s.0 ≡ s'.0 = cc in ap (λ n. nodes.Struct (record { 0 = n })) number
one_node ts i (nodes.Struct s) (nodes.UndefinedStruct tag') h g one e = absurd cc
one_node ts i (nodes.Struct s) (nodes.Function r' ps') h g one e = absurd cc
one_node ts i (nodes.UndefinedStruct tag) nodes.Void h g one e = absurd cc
one_node ts i (nodes.UndefinedStruct tag) (nodes.Int k') h g one e = absurd cc
one_node ts i (nodes.UndefinedStruct tag) (nodes.Pointer t') h g one e = absurd cc
one_node ts i (nodes.UndefinedStruct tag) (nodes.Array t' l') h g one e = absurd cc
one_node ts i (nodes.UndefinedStruct tag) (nodes.Struct s') h g one e = absurd cc
one_node ts i (nodes.UndefinedStruct tag) (nodes.UndefinedStruct tag') h g one e = cc
one_node ts i (nodes.UndefinedStruct tag) (nodes.Function r' ps') h g one e = absurd cc
one_node ts i (nodes.Function r ps) nodes.Void h g one e = absurd cc
one_node ts i (nodes.Function r ps) (nodes.Int k') h g one e = absurd cc
one_node ts i (nodes.Function r ps) (nodes.Pointer t') h g one e = absurd cc
one_node ts i (nodes.Function r ps) (nodes.Array t' l') h g one e = absurd cc
one_node ts i (nodes.Function r ps) (nodes.Struct s') h g one e = absurd cc
one_node ts i (nodes.Function r ps) (nodes.UndefinedStruct tag') h g one e = absurd cc
one_node ts i (nodes.Function r ps) (nodes.Function r' ps') h g one e = let result : r ≡ r' = one r r' h.0 g.0 cc in let params : ps ≡ ps' = one_list ts i ps ps' h.1 g.1 one cc in cc

below_all : (i j : ℕ) (ps : List TypeId) → i ≤ j → All (IsBelow i) ps → All (IsBelow j) ps
below_all i j ps le h = λ k d lt. omega (arith, h k d lt)

-- parts below a number are below a greater one
made_below : (i j : ℕ) (x : Ty) → i ≤ j → IsMadeOf i x → IsMadeOf j x
made_below i j nodes.Void le h = h
made_below i j (nodes.Int k) le h = h
made_below i j (nodes.Pointer t) le h = omega arith
made_below i j (nodes.Array t l) le h = omega arith
made_below i j (nodes.Struct s) le h = h
made_below i j (nodes.UndefinedStruct tag) le h = h
made_below i j (nodes.Function r ps) le h = (omega (arith, h.0), below_all i j ps le h.1)

-- the node of a number
node_at : (ns : List Ty) (a : TypeId) → a.0 < length ns → (x : Ty) × (slice_get ns a.0 ≡ Some x)
node_at ns a lt = (get_or ns a.0 nodes.Void, slice_get-get_or ns a.0 nodes.Void lt)

module _ (ns : List Ty) (table : IsTable ns) (apart : AreDistinct ns) where
  below : (n : ℕ) → n ≤ length ns → One (types_of ns) n
  unfolding One
  below zero le p q lt lt' e = absurd (omega arith)
  below (suc n) le p q lt lt' e =
      let x = node_at ns p (omega arith) in
      let y = node_at ns q (omega arith) in
      let left : made (types_of ns) x.0 ≡ type_at ns p = made_in_table ns p x.0 table x.1 in
      let right : made (types_of ns) y.0 ≡ type_at ns q = made_in_table ns q y.0 table y.1 in
      let parts_left : IsMadeOf n x.0 = made_below p.0 n x.0 (omega arith) (table p.0 x.0 x.1) in
      let parts_right : IsMadeOf n y.0 = made_below q.0 n y.0 (omega arith) (table q.0 y.0 y.1) in
      let same : x.0 ≡ y.0 = one_node (types_of ns) n x.0 y.0 parts_left parts_right (below n (omega arith)) (left ∙ (e ∙ sym right)) in
      let place : p.0 ≡ q.0 = apart p.0 q.0 x.0 x.1 (y.1 ∙ ap Some (sym same)) in
      ap (λ k. record { 0 = k }) place

  pub one_number : (a b : TypeId) → a.0 < length ns → b.0 < length ns → type_at ns a ≡ type_at ns b → a.0 ≡ b.0
  unfolding One
  one_number a b lt lt' e = ap (λ (i : TypeId). i.0) (below (length ns) (omega arith) a b lt lt' e)
