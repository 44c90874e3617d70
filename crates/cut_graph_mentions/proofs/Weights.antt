-- How many parts expressions, statements and values of globals have.
use Rattle.std.proofs.Common.{ℕ, ◌+◌}
use Rattle.c_types_rules.specs.TypedTree as tree
use Rattle.c_types_rules.specs.Initials as initials
use Rattle.c_types_rules.specs.TypedTree.{Object, Value, Values, Callee, Typed, AnObject, AFunction, AValue, GlobalObject, LocalObject, TextObject, Pointed, Element, MemberOf, Constant, FunctionAddress, ReadOf, AddressOf, Convert, Negate, Complement, Arithmetic, PointerSum, PointerDifference, PointerComparison, Not, Both, Either, Choice, Sequence, Assigned, Changed, Moved, Stepped, CallOf, NoValues, MoreValues, SourceFunction, BuiltinFunction, Through}

abbrev mutual
  pub object_weight : Object → ℕ
  object_weight (GlobalObject from place t) = 8
  object_weight (LocalObject place t) = 8
  object_weight (TextObject from n) = 8
  object_weight (Pointed v t) = 8 + value_weight v
  object_weight (Element s p i t) = 8 + (value_weight p + value_weight i)
  object_weight (MemberOf o n t) = 8 + object_weight o

  pub value_weight : Value → ℕ
  value_weight (Constant k n) = 8
  value_weight (FunctionAddress from n t) = 8
  value_weight (ReadOf o) = 8 + object_weight o
  value_weight (AddressOf o t) = 8 + object_weight o
  value_weight (Convert t v) = 8 + value_weight v
  value_weight (Negate k v) = 8 + value_weight v
  value_weight (Complement k v) = 8 + value_weight v
  value_weight (Arithmetic op k a b) = 8 + (value_weight a + value_weight b)
  value_weight (PointerSum s p i size) = 8 + (value_weight p + value_weight i)
  value_weight (PointerDifference a b size) = 8 + (value_weight a + value_weight b)
  value_weight (PointerComparison op a b) = 8 + (value_weight a + value_weight b)
  value_weight (Not v) = 8 + value_weight v
  value_weight (Both a b) = 8 + (value_weight a + value_weight b)
  value_weight (Either a b) = 8 + (value_weight a + value_weight b)
  value_weight (Choice c a b) = 8 + (value_weight c + (value_weight a + value_weight b))
  value_weight (Sequence a b) = 8 + (value_weight a + value_weight b)
  value_weight (Assigned o v) = 8 + (object_weight o + value_weight v)
  value_weight (Changed o op k v) = 8 + (object_weight o + value_weight v)
  value_weight (Moved o w i size) = 8 + (object_weight o + value_weight i)
  value_weight (Stepped o w g size) = 8 + object_weight o
  value_weight (CallOf f vs t) = 8 + (callee_weight f + values_weight vs)

  pub values_weight : Values → ℕ
  values_weight NoValues = 8
  values_weight (MoreValues v vs) = 8 + (value_weight v + values_weight vs)

  pub callee_weight : Callee → ℕ
  callee_weight (SourceFunction from n) = 8
  callee_weight (BuiltinFunction from b) = 8
  callee_weight (Through v) = 8 + value_weight v

abbrev pub weight : Typed → ℕ
weight (AnObject o) = object_weight o
weight (AFunction f t) = callee_weight f
weight (AValue v) = value_weight v

-- how many parts a statement has
abbrev mutual
  pub statement_weight : tree.Statement → ℕ
  statement_weight (tree.Block ss) = 3 + statements_weight ss
  statement_weight (tree.Evaluate v) = 3
  statement_weight (tree.Initialise place t v) = 3
  statement_weight (tree.If v s) = 3 + statement_weight s
  statement_weight (tree.IfElse v s z) = 3 + (statement_weight s + statement_weight z)
  statement_weight (tree.While from v s) = 3 + statement_weight s
  statement_weight (tree.Do from s v) = 3 + statement_weight s
  statement_weight (tree.For from first v last s) = 3 + (statements_weight first + statement_weight s)
  statement_weight tree.Break = 3
  statement_weight tree.Continue = 3
  statement_weight (tree.Return from v) = 3

  pub statements_weight : tree.Statements → ℕ
  statements_weight tree.NoStatements = 1
  statements_weight (tree.MoreStatements s ss) = 1 + (statement_weight s + statements_weight ss)

-- how many parts the value of a global has
abbrev mutual
  pub initial_weight : initials.Initial → ℕ
  initial_weight (initials.Scalar k) = 3
  initial_weight (initials.Bytes bytes) = 3
  initial_weight (initials.Listed xs) = 3 + initials_weight xs

  pub initials_weight : initials.Initials → ℕ
  initials_weight initials.NoInitials = 1
  initials_weight (initials.MoreInitials x xs) = 1 + (initial_weight x + initials_weight xs)
