-- Which conversions have an instruction: those that may change the value which is converted.
use Rattle.std.specs.Prelude.{◌==◌, Bool, false, if◌then◌else◌, not, ◌&&◌, ◌||◌, Option, Some, None}
use Rattle.r2_num.specs.declared.kinds.IntKind.{IntKind}
use Rattle.r2_num.specs.declared.kinds.IntKind.TheVariants.{I32, U64}
use Rattle.r2_num.specs.Kinds.{width_of}
use Rattle.r2_num.specs.Conversions.{represents_all}
use Rattle.c_code.specs.Values.{converted, written}
use Rattle.c_types_model.specs.Types.{CType}
use Rattle.c_types_rules.specs.TypedTree.{Value, Constant, ReadOf, Convert, Negate, Complement, Arithmetic, PointerComparison, Not, Both, Either, object_type}
use Rattle.c_semantics.specs.Context.{kind_of}
use Rattle.c_semantics.specs.Values.{is_read}

-- a value that was converted to the first kind stays as it is when it is converted to the second: that kind
-- has all bits
-- of a pattern, or all values of the first
abbrev pub is_within : IntKind → IntKind → Bool
is_within from to = width_of to == 64 || represents_all to from

-- a value that was converted to the first kind is converted by an instruction to the second
abbrev pub reconverts : IntKind → IntKind → Bool
reconverts from to = not (is_within from to)

-- the kind of a scalar type
abbrev pub scalar_kind : CType → Option IntKind
scalar_kind t = if is_read t then Some (kind_of t) else None

-- the kind to which all that a value may be is converted already, where its form tells
abbrev pub sure_kind : Value → Option IntKind
sure_kind (ReadOf o) = scalar_kind (object_type o)
sure_kind (Convert t v) = scalar_kind t
sure_kind (Negate k v) = Some k
sure_kind (Complement k v) = Some k
sure_kind (Arithmetic op k a b) = Some k
sure_kind (PointerComparison op a b) = Some U64
sure_kind (Not v) = Some I32
sure_kind (Both a b) = Some I32
sure_kind (Either a b) = Some I32
sure_kind v = None

-- what is surely of one kind, if any, stays as it is at another
abbrev pub is_kept : Option IntKind → IntKind → Bool
is_kept (Some from) to = is_within from to
is_kept None to = false

-- a conversion to the kind may change the value; of a constant it is known
abbrev pub may_change : IntKind → Value → Bool
may_change k (Constant j n) = not (converted k (written n) == written n)
may_change k v = not (is_kept (sure_kind v) k)

-- a conversion of the value to the type has an instruction
abbrev pub converts : CType → Value → Bool
converts t v = is_read t && may_change (kind_of t) v
