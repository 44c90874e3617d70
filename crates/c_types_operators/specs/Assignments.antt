-- The two sides of an assignment (C11 6.5.16).
use Rattle.std.specs.Prelude.{ℕ, Bool, false}
use Rattle.r2_num.specs.declared.kinds.IntKind.{IntKind}
use Rattle.r2_num.specs.declared.operations.Op.{Op}
use Rattle.r2_num.specs.declared.operations.Op.TheVariants.{Shl, Shr}
use Rattle.r2_num.specs.Conversions.{common_of, promoted}
use Rattle.c_types_rules.specs.Checked.{Checked, Fine, ◌>>=◌}
use Rattle.c_types_rules.specs.TypeTests.{is_scalar}
use Rattle.c_types_rules.specs.Operators.{assigned}
use Rattle.c_types_rules.specs.TypedTree.{Object, Value, Typed, AnObject, Assigned, object_type}

-- an object that may stand on the left
abbrev pub is_scalar_object : Typed → Bool
is_scalar_object (AnObject o) = is_scalar (object_type o)
is_scalar_object x = false

-- the simple assignment to an object
abbrev pub simple : (from : ℕ) → Object → Value → Checked Value
simple from o b = do
  v ← assigned from (object_type o) b
  Fine (Assigned o v)

-- the kinds that the sides of an operator are converted to: to their common kind, but each side of a shift
-- by itself
-- (C11 6.3.1.8; 6.5.7, 3)
abbrev pub left_kind : Op → IntKind → IntKind → IntKind
left_kind Shl j k = promoted j
left_kind Shr j k = promoted j
left_kind op j k = common_of j k

abbrev pub right_kind : Op → IntKind → IntKind → IntKind
right_kind Shl j k = promoted k
right_kind Shr j k = promoted k
right_kind op j k = common_of j k
