-- Calls: what is called, what it gives and what it takes.
use Rattle.std.specs.Prelude.{◌≡◌, ℕ, zero, suc, ◌<◌, List, [], ◌∷◌, length, Option, Some, None}
use Rattle.c_builtins.specs.declared.builtin.BuiltinType.{BuiltinType}
use Rattle.c_builtins.specs.Table.{ctype_of}
use Rattle.c_types_model.specs.Types.{CType, CTypes, FunctionOf, NoTypes, MoreTypes}
use Rattle.c_types_table.specs.declared.ids.TypeId.{TypeId}
use Rattle.c_types_table.specs.declared.ty.Ty.{Ty}
use Rattle.c_types_table.specs.Tables.{type_at}
use Rattle.c_types_rules.specs.TypedTree.{Callee, AFunction}
use Rattle.c_types_nodes.specs.Tables.{Table, Names, typed_at}
use Rattle.c_types_operators.specs.declared.calls.CallTarget.{CallTarget}

-- what is called is there, with its type and that of its result
pub record IsCalled (t : Table) (f : Callee × CType × CTypes) (c : CallTarget) : Type 0 where
  pub callee : typed_at t c.callee ≡ Some (AFunction f.0 (FunctionOf f.1 f.2))
  pub function : Names t.types c.function (FunctionOf f.1 f.2)
  pub result : Names t.types c.result f.1

-- the types that are left after the first n
abbrev pub types_after : ℕ → CTypes → CTypes
types_after zero ts = ts
types_after (suc n) NoTypes = NoTypes
types_after (suc n) (MoreTypes t ts) = types_after n ts

-- the n-th of these types, from 0 on; None past the last
abbrev pub IsParameter : (types : List Ty) → CTypes → ℕ → Option TypeId → Type 0
IsParameter types ts n (Some p) = (p.0 < length types) ×
    (types_after n ts ≡ MoreTypes (type_at types p) (types_after (suc n) ts))
IsParameter types ts n None = types_after n ts ≡ NoTypes

-- the numbers of types stand for these of builtins, one after another
abbrev pub AreNamed : (types : List Ty) → List TypeId → List BuiltinType → Type 0
AreNamed types [] [] = Unit {0}
AreNamed types (id ∷ ids) (b ∷ bs) = Names types id (ctype_of b) × AreNamed types ids bs
AreNamed types _ _ = ⊥
