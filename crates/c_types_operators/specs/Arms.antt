-- The arms of `? :`.
use Rattle.std.specs.Prelude.{ℕ}
use Rattle.r2_num.specs.Conversions.{common_of}
use Rattle.c_types_rules.specs.Checked.{Checked, Fine, need, ◌>>=◌}
use Rattle.c_types_rules.specs.Operators.{to_kind}
use Rattle.c_types_rules.specs.TypeTests.{kind_in}
use Rattle.c_types_rules.specs.TypedTree.{Value, Choice, value_type}

-- two integers as arms (C11 6.5.15, 5)
abbrev pub integers_chosen : (from : ℕ) → Value → Value → Value → Checked Value
integers_chosen from c a b = do
  j ← need from 20 (kind_in (value_type a))
  k ← need from 20 (kind_in (value_type b))
  Fine (Choice c (to_kind (common_of j k) a) (to_kind (common_of j k) b))
