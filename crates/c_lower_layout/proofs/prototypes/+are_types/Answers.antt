use Rattle.std.proofs.Common.{◌≡◌, ◌<◌, ◌≤◌, false, List, [], ◌∷◌, length, refl, arith}
use Rattle.c_types_table.specs.declared.ids.TypeId.{TypeId}
use Rattle.c_types_table.specs.declared.ty.Ty.{Ty}
use Rattle.c_types_table.specs.Tables.{all_at, types_of}
use Rattle.c_builtins.specs.declared.builtin.BuiltinType.{BuiltinType}
use Rattle.c_builtins.specs.Table.{ctypes_of}
use Rattle.c_types_rules.specs.TypeTests.{same_types}
use Rattle.c_lower_layout.proofs.prototypes.+are_types.Goals as goal

unlike : (types : List Ty) (ps : List TypeId) (bs : List BuiltinType) → length ps < 1 → 1 ≤ length bs → false ≡ same_types (all_at (types_of types) ps) (ctypes_of bs)
unlike types [] [] h k = absurd (omega arith)
unlike types [] (b ∷ bs) h k = refl
unlike types (p ∷ ps) bs h k = absurd (omega arith)

pub returns-in-len1-up-builtins : goal.returns-in-len1-up-builtins
returns-in-len1-up-builtins t c = unlike c.args.types.now c.args.params.now c.args.builtins.now (omega arith) (omega arith)
