-- The types of a function's parameters.
use Rattle.std.proofs.Common.{◌≡◌, ℕ, zero, suc, ◌<◌, ◌≤◌, Bor, IfSome, MatchOption, get_or, List, [], ◌∷◌, ◌++◌, length, Option, Some, None, refl, ap, ◌∙◌, sym, arith}
use Rattle.std.specs.Prelude.{slice_get}
use Rattle.std.specs.List.{All, HoldsAt}
use Rattle.std.specs.Option.{option_copied}
use Rattle.std.proofs.lemmas.Option.{slice_get_past, slice_get_read}
use Rattle.std.proofs.lemmas.List.Elements.{All-nil, All-cons, All-head, All-tail}
use Rattle.c_builtins.specs.declared.builtin.Builtin.{Builtin}
use Rattle.c_builtins.specs.declared.builtin.Builtin.TheVariants.{Malloc, Free, Spawn, Join, Lock, Unlock, Print}
use Rattle.c_builtins.specs.declared.builtin.BuiltinType.{BuiltinType}
use Rattle.c_builtins.specs.Table.{ctype_of, ctypes_of, params_of, prototype_of, result_of}
use Rattle.c_types_model.specs.Types.{CType, CTypes, FunctionOf, MoreTypes}
use Rattle.c_types_table.specs.declared.ids.TypeId.{TypeId}
use Rattle.c_types_table.specs.declared.ty.Ty.{Ty}
use Rattle.c_types_table.specs.Tables.{IsBelow, all_at, type_at, types_of}
use Rattle.c_types_nodes.specs.Tables.{KeepsTypes, Names}
use Rattle.c_types_operators.specs.Calls.{AreNamed, IsParameter}

-- ---- the parameter of a number

deeper : (types : List Ty) (t : CType) (ts : CTypes) (n : ℕ) (o : Option TypeId) → IsParameter types ts n o → IsParameter types (MoreTypes t ts) (suc n) o
deeper types t ts n (Some p) h = h
deeper types t ts n None h = h

pub parameter_at : (types : List Ty) (bound : ℕ) (ids : List TypeId) (n : ℕ) → bound ≤ length types → All (IsBelow bound) ids → IsParameter types (all_at (types_of types) ids) n (slice_get ids n)
parameter_at types bound [] zero le h = refl
parameter_at types bound [] (suc n) le h = refl
parameter_at types bound (id ∷ ids) zero le h = (let first = All-head (IsBelow bound) id ids h in omega arith, refl)
parameter_at types bound (id ∷ ids) (suc n) le h =
    deeper types (type_at types id) (all_at (types_of types) ids) n (slice_get ids n) (parameter_at types bound ids n le (All-tail (IsBelow bound) id ids h))

-- what is read from a slice
pub read_at : (o : Option (Bor TypeId)) (ids : List TypeId) (n : ℕ) → MatchOption o (length ids ≤ n) (λ x. (n < length ids) × HoldsAt (λ y. x.now ≡ y) ids n) → IfSome o (λ x. x.now ≡ get_or ids n x.now) → option_copied o ≡ slice_get ids n
read_at None ids n h k = sym (slice_get_past ids n h)
read_at (Some x) ids n h k = sym (slice_get_read ids (length ids) n x.now refl h.0 k)

-- ---- the parameters of builtins

pub named_kept : (old new : List Ty) (ids : List TypeId) (bs : List BuiltinType) → KeepsTypes old new → AreNamed old ids bs → AreNamed new ids bs
named_kept old new [] [] k h = h
named_kept old new [] (b ∷ bs) k h = h
named_kept old new (id ∷ ids) [] k h = h
named_kept old new (id ∷ ids) (b ∷ bs) k h = (k.names id (ctype_of b) h.0, named_kept old new ids bs k h.1)

pub named_more : (types : List Ty) (ids : List TypeId) (bs : List BuiltinType) (id : TypeId) (b : BuiltinType) → AreNamed types ids bs → Names types id (ctype_of b) → AreNamed types (ids ++ id ∷ []) (bs ++ b ∷ [])
named_more types [] [] id b h n = (n, tt)
named_more types [] (c ∷ bs) id b h n = absurd h
named_more types (i ∷ ids) [] id b h n = absurd h
named_more types (i ∷ ids) (c ∷ bs) id b h n = (h.0, named_more types ids bs id b h.1 n)

pub named_below : (types : List Ty) (ids : List TypeId) (bs : List BuiltinType) → AreNamed types ids bs → All (IsBelow (length types)) ids
named_below types [] [] h = All-nil (IsBelow (length types))
named_below types [] (c ∷ bs) h = absurd h
named_below types (i ∷ ids) [] h = absurd h
named_below types (i ∷ ids) (c ∷ bs) h = let first = h.0 in All-cons (IsBelow (length types)) i ids first.inside (named_below types ids bs h.1)

pub named_are : (types : List Ty) (ids : List TypeId) (bs : List BuiltinType) → AreNamed types ids bs → all_at (types_of types) ids ≡ ctypes_of bs
named_are types [] [] h = refl
named_are types [] (c ∷ bs) h = absurd h
named_are types (i ∷ ids) [] h = absurd h
named_are types (i ∷ ids) (c ∷ bs) h = let first = h.0 in ap (λ t. MoreTypes t (all_at (types_of types) ids)) first.is ∙ ap (MoreTypes (ctype_of c)) (named_are types ids bs h.1)

pub prototype_is : (b : Builtin) → FunctionOf (result_of (prototype_of b)) (params_of (prototype_of b)) ≡ prototype_of b
prototype_is Malloc = refl
prototype_is Free = refl
prototype_is Spawn = refl
prototype_is Join = refl
prototype_is Lock = refl
prototype_is Unlock = refl
prototype_is Print = refl

pub prototype_made : (b : Builtin) (r : CType) (ps : CTypes) → r ≡ result_of (prototype_of b) → ps ≡ params_of (prototype_of b) → FunctionOf r ps ≡ prototype_of b
prototype_made b r ps hr hp = ap (λ t. FunctionOf t ps) hr ∙ (ap (FunctionOf (result_of (prototype_of b))) hp ∙ prototype_is b)
