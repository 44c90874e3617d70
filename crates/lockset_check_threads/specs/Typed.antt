-- What the discipline of locks takes from the rules of types, part by part of a function.
use Rattle.std.specs.Prelude.{◌≡◌, ◌≤◌, Bool, true}
use Rattle.r2_num.specs.declared.kinds.IntKind.{IntKind}
use Rattle.r2_num.specs.declared.operations.Op.{Op}
use Rattle.r2_num.specs.declared.operations.Op.TheVariants.{Add, Sub, Mul, Div, Rem, Shl, Shr, And, Or, Xor, Eq, Ne, Lt, Le, Gt, Ge}
use Rattle.r2_num.specs.Kinds.{IsValue}
use Rattle.c_types_model.specs.Types.{CType, Integer}
use Rattle.c_builtins.specs.declared.builtin.Builtin.{Builtin}
use Rattle.c_builtins.specs.declared.builtin.Builtin.TheVariants.{Malloc, Free, Spawn, Join, Lock, Unlock, Print}
use Rattle.c_builtins.specs.Table.{first_source_function, prototype_of}
use Rattle.c_types_rules.specs.Sources.{params_of}
use Rattle.c_types_rules.specs.TypedTree.{Object, Value, Values, Callee, GlobalObject, LocalObject, TextObject, Pointed, Element, MemberOf, Constant, FunctionAddress, ReadOf, AddressOf, Convert, Negate, Complement, Arithmetic, PointerSum, PointerDifference, PointerComparison, Not, Both, Either, Choice, Sequence, Assigned, Changed, Moved, Stepped, CallOf, NoValues, MoreValues, SourceFunction, BuiltinFunction, Through, MaybeValue, NoValue, OneValue, Statement, Statements, Block, Evaluate, Initialise, If, IfElse, While, Do, For, Break, Continue, Return, NoStatements, MoreStatements, value_type}
use Rattle.c_semantics.specs.Arguments.{AreConverted}

-- ---- integer constants

-- what stands right of an operator on values of a kind: a value of the kind, after a shift of any (C11 6.5.7)
abbrev pub IsRightOf : Op → IntKind → CType → Type 0
IsRightOf Shl k t = (j : IntKind) × (t ≡ Integer j)
IsRightOf Shr k t = (j : IntKind) × (t ≡ Integer j)
IsRightOf Add k t = t ≡ Integer k
IsRightOf Sub k t = t ≡ Integer k
IsRightOf Mul k t = t ≡ Integer k
IsRightOf Div k t = t ≡ Integer k
IsRightOf Rem k t = t ≡ Integer k
IsRightOf And k t = t ≡ Integer k
IsRightOf Or k t = t ≡ Integer k
IsRightOf Xor k t = t ≡ Integer k
IsRightOf Eq k t = t ≡ Integer k
IsRightOf Ne k t = t ≡ Integer k
IsRightOf Lt k t = t ≡ Integer k
IsRightOf Le k t = t ≡ Integer k
IsRightOf Gt k t = t ≡ Integer k
IsRightOf Ge k t = t ≡ Integer k

-- each constant is a value of its kind, and operators stand over operands of one kind (C11 6.3.1.8); of what
-- is no part of an integer constant expression nothing is said
abbrev pub IsOfKinds : Value → Type 0
IsOfKinds (Constant k n) = IsValue k n
IsOfKinds (Convert t v) = IsOfKinds v
IsOfKinds (Negate k v) = IsOfKinds v
IsOfKinds (Complement k v) = IsOfKinds v
IsOfKinds (Arithmetic op k a b) = IsOfKinds a × IsOfKinds b × (value_type a ≡ Integer k) ×
    IsRightOf op k (value_type b)
IsOfKinds (Not v) = IsOfKinds v
IsOfKinds (Both a b) = IsOfKinds a × IsOfKinds b
IsOfKinds (Either a b) = IsOfKinds a × IsOfKinds b
IsOfKinds (Choice c a b) = IsOfKinds c × IsOfKinds a × IsOfKinds b × (value_type b ≡ value_type a)
IsOfKinds (FunctionAddress from number t) = Unit {0}
IsOfKinds (ReadOf o) = Unit {0}
IsOfKinds (AddressOf o t) = Unit {0}
IsOfKinds (PointerSum w p i size) = Unit {0}
IsOfKinds (PointerDifference a b size) = Unit {0}
IsOfKinds (PointerComparison op a b) = Unit {0}
IsOfKinds (Sequence a b) = Unit {0}
IsOfKinds (Assigned o v) = Unit {0}
IsOfKinds (Changed o op k v) = Unit {0}
IsOfKinds (Moved o w i size) = Unit {0}
IsOfKinds (Stepped o w g size) = Unit {0}
IsOfKinds (CallOf f vs t) = Unit {0}

-- ---- calls

-- by its name: a function of the source, by its own number, or a builtin, with a value for each parameter,
-- converted to its type
abbrev pub IsPlainCall : Callee → Values → Type 0
IsPlainCall (SourceFunction from number) vs = first_source_function ≤ number
IsPlainCall (BuiltinFunction from b) vs = AreConverted (params_of (prototype_of b)) vs
IsPlainCall (Through v) vs = Unit {0}

abbrev pub AllOfKinds : Values → Type 0
AllOfKinds NoValues = Unit {0}
AllOfKinds (MoreValues v vs) = IsOfKinds v × AllOfKinds vs

abbrev pub HasConstants : Builtin → Values → Type 0
HasConstants Malloc vs = Unit {0}
HasConstants Free vs = Unit {0}
HasConstants Spawn vs = Unit {0}
HasConstants Join vs = Unit {0}
HasConstants Lock vs = AllOfKinds vs
HasConstants Unlock vs = AllOfKinds vs
HasConstants Print vs = Unit {0}

-- in the argument of what locks or unlocks, integer constants are of their kinds
abbrev pub IsConstantCall : Callee → Values → Type 0
IsConstantCall (SourceFunction from number) vs = Unit {0}
IsConstantCall (BuiltinFunction from b) vs = HasConstants b vs
IsConstantCall (Through v) vs = Unit {0}

abbrev pub IsCall : Callee → Values → Type 0
IsCall f vs = IsPlainCall f vs × IsConstantCall f vs

-- each call within is such a one
abbrev mutual
  pub InObject : (Callee → Values → Type 0) → Object → Type 0
  InObject Is (GlobalObject from place t) = Unit {0}
  InObject Is (LocalObject place t) = Unit {0}
  InObject Is (TextObject from n) = Unit {0}
  InObject Is (Pointed v t) = InValue Is v
  InObject Is (Element w p i t) = InValue Is p × InValue Is i
  InObject Is (MemberOf o number t) = InObject Is o

  pub InValue : (Callee → Values → Type 0) → Value → Type 0
  InValue Is (Constant k n) = Unit {0}
  InValue Is (FunctionAddress from number t) = Unit {0}
  InValue Is (ReadOf o) = InObject Is o
  InValue Is (AddressOf o t) = InObject Is o
  InValue Is (Convert t v) = InValue Is v
  InValue Is (Negate k v) = InValue Is v
  InValue Is (Complement k v) = InValue Is v
  InValue Is (Arithmetic op k a b) = InValue Is a × InValue Is b
  InValue Is (PointerSum w p i size) = InValue Is p × InValue Is i
  InValue Is (PointerDifference a b size) = InValue Is a × InValue Is b
  InValue Is (PointerComparison op a b) = InValue Is a × InValue Is b
  InValue Is (Not v) = InValue Is v
  InValue Is (Both a b) = InValue Is a × InValue Is b
  InValue Is (Either a b) = InValue Is a × InValue Is b
  InValue Is (Choice c a b) = InValue Is c × InValue Is a × InValue Is b
  InValue Is (Sequence a b) = InValue Is a × InValue Is b
  InValue Is (Assigned o v) = InObject Is o × InValue Is v
  InValue Is (Changed o op k v) = InObject Is o × InValue Is v
  InValue Is (Moved o w i size) = InObject Is o × InValue Is i
  InValue Is (Stepped o w g size) = InObject Is o
  InValue Is (CallOf f vs t) = InCallee Is f × InValues Is vs × Is f vs

  pub InValues : (Callee → Values → Type 0) → Values → Type 0
  InValues Is NoValues = Unit {0}
  InValues Is (MoreValues v vs) = InValue Is v × InValues Is vs

  pub InCallee : (Callee → Values → Type 0) → Callee → Type 0
  InCallee Is (SourceFunction from number) = Unit {0}
  InCallee Is (BuiltinFunction from b) = Unit {0}
  InCallee Is (Through v) = InValue Is v

abbrev pub InMaybe : (Callee → Values → Type 0) → MaybeValue → Type 0
InMaybe Is NoValue = Unit {0}
InMaybe Is (OneValue v) = InValue Is v

-- ---- statements

-- `break` and `continue` stand in loops (C11 6.8.6.2, 6.8.6.3)
abbrev mutual
  pub InStatement : (Callee → Values → Type 0) → (in_loop : Bool) → Statement → Type 0
  InStatement Is l (Block zs) = InStatements Is l zs
  InStatement Is l (Evaluate v) = InValue Is v
  InStatement Is l (Initialise place t v) = InValue Is v
  InStatement Is l (If v z) = InValue Is v × InStatement Is l z
  InStatement Is l (IfElse v y z) = InValue Is v × InStatement Is l y × InStatement Is l z
  InStatement Is l (While from v z) = InValue Is v × InStatement Is true z
  InStatement Is l (Do from z v) = InStatement Is true z × InValue Is v
  InStatement Is l (For from first v last z) = InStatements Is l first × InMaybe Is v ×
      InMaybe Is last × InStatement Is true z
  InStatement Is l Break = l ≡ true
  InStatement Is l Continue = l ≡ true
  InStatement Is l (Return from v) = InMaybe Is v

  pub InStatements : (Callee → Values → Type 0) → (in_loop : Bool) → Statements → Type 0
  InStatements Is l NoStatements = Unit {0}
  InStatements Is l (MoreStatements z zs) = InStatement Is l z × InStatements Is l zs
