-- How many parts an expression has.
use Rattle.std.proofs.Common.{ℕ, ◌+◌}
use Rattle.c_types_rules.specs.TypedTree.{Object, Value, Values, Callee, Typed, AnObject, AFunction, AValue, GlobalObject, LocalObject, TextObject, Pointed, Element, MemberOf, Constant, FunctionAddress, ReadOf, AddressOf, Convert, Negate, Complement, Arithmetic, PointerSum, PointerDifference, PointerComparison, Not, Both, Either, Choice, Sequence, Assigned, Changed, Moved, Stepped, CallOf, NoValues, MoreValues, SourceFunction, BuiltinFunction, Through}

abbrev mutual
  pub object_weight : Object → ℕ
  object_weight (GlobalObject from place t) = 4
  object_weight (LocalObject place t) = 4
  object_weight (TextObject from n) = 4
  object_weight (Pointed v t) = 4 + value_weight v
  object_weight (Element s p i t) = 4 + (value_weight p + value_weight i)
  object_weight (MemberOf o n t) = 4 + object_weight o

  pub value_weight : Value → ℕ
  value_weight (Constant k n) = 4
  value_weight (FunctionAddress from n t) = 4
  value_weight (ReadOf o) = 4 + object_weight o
  value_weight (AddressOf o t) = 4 + object_weight o
  value_weight (Convert t v) = 4 + value_weight v
  value_weight (Negate k v) = 4 + value_weight v
  value_weight (Complement k v) = 4 + value_weight v
  value_weight (Arithmetic op k a b) = 4 + (value_weight a + value_weight b)
  value_weight (PointerSum s p i size) = 4 + (value_weight p + value_weight i)
  value_weight (PointerDifference a b size) = 4 + (value_weight a + value_weight b)
  value_weight (PointerComparison op a b) = 4 + (value_weight a + value_weight b)
  value_weight (Not v) = 4 + value_weight v
  value_weight (Both a b) = 4 + (value_weight a + value_weight b)
  value_weight (Either a b) = 4 + (value_weight a + value_weight b)
  value_weight (Choice c a b) = 4 + (value_weight c + (value_weight a + value_weight b))
  value_weight (Sequence a b) = 4 + (value_weight a + value_weight b)
  value_weight (Assigned o v) = 4 + (object_weight o + value_weight v)
  value_weight (Changed o op k v) = 4 + (object_weight o + value_weight v)
  value_weight (Moved o w i size) = 4 + (object_weight o + value_weight i)
  value_weight (Stepped o w g size) = 4 + object_weight o
  value_weight (CallOf f vs t) = 4 + (callee_weight f + values_weight vs)

  pub values_weight : Values → ℕ
  values_weight NoValues = 4
  values_weight (MoreValues v vs) = 4 + (value_weight v + values_weight vs)

  pub callee_weight : Callee → ℕ
  callee_weight (SourceFunction from n) = 4
  callee_weight (BuiltinFunction from b) = 4
  callee_weight (Through v) = 4 + value_weight v

abbrev pub weight : Typed → ℕ
weight (AnObject o) = object_weight o
weight (AFunction f t) = callee_weight f
weight (AValue v) = value_weight v
