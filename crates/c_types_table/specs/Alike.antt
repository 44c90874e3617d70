-- Lists of numbers that a test finds equal are the same.
use Rattle.std.specs.Prelude.{◌≡◌, ℕ, Bool, true, List, nat_eq}
use Rattle.std.specs.Bool.{Decides}
use Rattle.std.specs.Cmp.{unsigned_Decides}
use Rattle.std.specs.Cmp.Lexicographic.{pointwise, pointwise_decides}
use Rattle.std.specs.Ordering.{on}
use mathlib.Core.Path.{ap}
use Rattle.c_types_table.specs.declared.ids.TypeId.{TypeId}

id_decides : (a b : TypeId) → Decides (on (λ (t : TypeId). t.0) nat_eq a b) (a ≡ b)
id_decides a b = (
  λ e. ap (λ n. record { 0 = n }) ((unsigned_Decides a.0 b.0).0 e),
  λ e. (unsigned_Decides a.0 b.0).1 (ap (λ (t : TypeId). t.0) e),
)

pub ids_decide : (a b : List TypeId) → Decides (pointwise (on (λ (t : TypeId). t.0) nat_eq) a b) (a ≡ b)
ids_decide = pointwise_decides id_decides
