-- The depth of the evaluation stack before each instruction of the code of a construct, and at most.
use Rattle.std.specs.Prelude.{◌≡◌, ℕ, ◌+◌, max, Bool, true, false, List, [], ◌∷◌, ◌++◌, length, Some}
use Rattle.c_code.specs.declared.instr.Instr.{Instr}
use Rattle.c_code.specs.declared.code.FuncInfo.{FuncInfo}
use Rattle.c_code.specs.Machine.{Flat, func_of}
use Rattle.c_code.specs.Valid.{Keeps}
use Rattle.c_builtins.specs.Table.{number_of}
use Rattle.c_types_rules.specs.TypedTree.{Object, Value, Values, Callee, Sum, PointerPlus, PlusPointer, PointerMinus, Way, Up, Down, GlobalObject, LocalObject, TextObject, Pointed, Element, MemberOf, Constant, FunctionAddress, ReadOf, AddressOf, Convert, Negate, Complement, Arithmetic, PointerSum, PointerDifference, PointerComparison, Not, Both, Either, Choice, Sequence, Assigned, Changed, Moved, Stepped, CallOf, NoValues, MoreValues, SourceFunction, BuiltinFunction, Through, MaybeValue, NoValue, OneValue, Statement, Statements, Block, Evaluate, Initialise, If, IfElse, While, Do, For, Break, Continue, Return, NoStatements, MoreStatements, object_type, value_type}
use Rattle.c_types_rules.specs.TypedTree as typed
use Rattle.c_semantics.specs.Arguments.{Passes}
use Rattle.c_semantics.specs.Context.{kind_of}
use Rattle.c_semantics.specs.Values.{is_read, target}
use Rattle.c_lower_placement.specs.Conversions.{converts, reconverts}
use Rattle.c_lower_placement.specs.Placement.{count}
use Rattle.c_lower_placement.specs.Code.{Making}

-- the first of two values is on the stack below the second
abbrev pub pair_depth : ℕ → ℕ → ℕ
pair_depth a b = max a (1 + b)

abbrev pub sum_depth : Sum → (pointer index : ℕ) → ℕ
sum_depth PointerPlus p i = pair_depth p i
sum_depth PlusPointer p i = pair_depth i p
sum_depth PointerMinus p i = pair_depth p i

abbrev mutual
  -- the greatest depth of the evaluation stack, above what is on it before
  pub object_depth : Object → ℕ
  object_depth (GlobalObject from place t) = 1
  object_depth (LocalObject place t) = 1
  object_depth (TextObject from n) = 1
  object_depth (Pointed v t) = value_depth v
  object_depth (Element s p i t) = sum_depth s (value_depth p) (value_depth i)
  object_depth (MemberOf o number t) = object_depth o

  pub value_depth : Value → ℕ
  value_depth (Constant k n) = 1
  value_depth (FunctionAddress from number t) = 1
  value_depth (ReadOf o) = object_depth o
  value_depth (AddressOf o t) = object_depth o
  value_depth (Convert t v) = value_depth v
  value_depth (Negate k v) = value_depth v
  value_depth (Complement k v) = value_depth v
  value_depth (Arithmetic op k a b) = pair_depth (value_depth a) (value_depth b)
  value_depth (PointerSum s p i size) = sum_depth s (value_depth p) (value_depth i)
  value_depth (PointerDifference a b size) = pair_depth (value_depth a) (value_depth b)
  value_depth (PointerComparison op a b) = pair_depth (value_depth a) (value_depth b)
  value_depth (Not v) = value_depth v
  value_depth (Both a b) = max (value_depth a) (value_depth b)
  value_depth (Either a b) = max (value_depth a) (value_depth b)
  value_depth (Choice c a b) = max (value_depth c) (max (value_depth a) (value_depth b))
  value_depth (Sequence a b) = max (value_depth a) (value_depth b)
  value_depth (Assigned o v) = pair_depth (object_depth o) (value_depth v)
  value_depth (Changed o op k v) = max (object_depth o) (2 + value_depth v)
  value_depth (Moved o w i size) = max (object_depth o) (2 + value_depth i)
  value_depth (Stepped o w g size) = max (object_depth o) 2
  value_depth (CallOf f vs t) = call_depth f (values_depth vs)

  pub values_depth : Values → ℕ
  values_depth NoValues = 0
  values_depth (MoreValues v vs) = pair_depth (value_depth v) (values_depth vs)

  pub call_depth : Callee → ℕ → ℕ
  call_depth (SourceFunction from number) n = max 1 n
  call_depth (BuiltinFunction from b) n = max 1 n
  call_depth (Through v) n = pair_depth (value_depth v) n

-- the function of the number is known, and takes so many arguments
abbrev pub Takes : Flat → (func count : ℕ) → Type 0
Takes code f n = (info : FuncInfo) × (func_of code f ≡ Some info) × (length info.params ≡ n)

abbrev mutual
  -- each call is of what is known, and has one value per parameter, converted to its type
  pub ObjectCalls : Object → Making → Type 0
  ObjectCalls (GlobalObject from place t) x = Unit {0}
  ObjectCalls (LocalObject place t) x = Unit {0}
  ObjectCalls (TextObject from n) x = Unit {0}
  ObjectCalls (Pointed v t) x = ValueCalls v x
  ObjectCalls (Element s p i t) x = ValueCalls p x × ValueCalls i x
  ObjectCalls (MemberOf o number t) x = ObjectCalls o x

  pub ValueCalls : Value → Making → Type 0
  ValueCalls (Constant k n) x = Unit {0}
  ValueCalls (FunctionAddress from number t) x = Unit {0}
  ValueCalls (ReadOf o) x = ObjectCalls o x
  ValueCalls (AddressOf o t) x = ObjectCalls o x
  ValueCalls (Convert t v) x = ValueCalls v x
  ValueCalls (Negate k v) x = ValueCalls v x
  ValueCalls (Complement k v) x = ValueCalls v x
  ValueCalls (Arithmetic op k a b) x = ValueCalls a x × ValueCalls b x
  ValueCalls (PointerSum s p i size) x = ValueCalls p x × ValueCalls i x
  ValueCalls (PointerDifference a b size) x = ValueCalls a x × ValueCalls b x
  ValueCalls (PointerComparison op a b) x = ValueCalls a x × ValueCalls b x
  ValueCalls (Not v) x = ValueCalls v x
  ValueCalls (Both a b) x = ValueCalls a x × ValueCalls b x
  ValueCalls (Either a b) x = ValueCalls a x × ValueCalls b x
  ValueCalls (Choice c a b) x = ValueCalls c x × ValueCalls a x × ValueCalls b x
  ValueCalls (Sequence a b) x = ValueCalls a x × ValueCalls b x
  ValueCalls (Assigned o v) x = ObjectCalls o x × ValueCalls v x
  ValueCalls (Changed o op k v) x = ObjectCalls o x × ValueCalls v x
  ValueCalls (Moved o w i size) x = ObjectCalls o x × ValueCalls i x
  ValueCalls (Stepped o w g size) x = ObjectCalls o x
  ValueCalls (CallOf f vs t) x = CalleeCalls f x (count vs) × ValuesCall vs x × Passes x.against.source f vs

  pub ValuesCall : Values → Making → Type 0
  ValuesCall NoValues x = Unit {0}
  ValuesCall (MoreValues v vs) x = ValueCalls v x × ValuesCall vs x

  pub CalleeCalls : Callee → Making → (count : ℕ) → Type 0
  CalleeCalls (SourceFunction from number) x n = Takes x.against.code number n
  CalleeCalls (BuiltinFunction from b) x n = Takes x.against.code (number_of b) n
  CalleeCalls (Through v) x n = ValueCalls v x ×
      ((f : ℕ) (info : FuncInfo) → func_of x.against.code f ≡ Some info →
      info.sig ≡ x.sig (target (value_type v)) → length info.params ≡ n)

abbrev pub MaybeCalls : MaybeValue → Making → Type 0
MaybeCalls NoValue x = Unit {0}
MaybeCalls (OneValue v) x = ValueCalls v x

abbrev pub maybe_depth : MaybeValue → ℕ
maybe_depth NoValue = 0
maybe_depth (OneValue v) = value_depth v

abbrev mutual
  pub StatementCalls : Statement → Making → Type 0
  StatementCalls (Block ss) x = StatementsCall ss x
  StatementCalls (Evaluate v) x = ValueCalls v x
  StatementCalls (Initialise place t v) x = ValueCalls v x
  StatementCalls (If v s) x = ValueCalls v x × StatementCalls s x
  StatementCalls (IfElse v s z) x = ValueCalls v x × StatementCalls s x × StatementCalls z x
  StatementCalls (While from v s) x = ValueCalls v x × StatementCalls s x
  StatementCalls (Do from s v) x = StatementCalls s x × ValueCalls v x
  StatementCalls (For from first v last s) x = StatementsCall first x × MaybeCalls v x ×
      MaybeCalls last x × StatementCalls s x
  StatementCalls Break x = Unit {0}
  StatementCalls Continue x = Unit {0}
  StatementCalls (Return from v) x = MaybeCalls v x

  pub StatementsCall : Statements → Making → Type 0
  StatementsCall NoStatements x = Unit {0}
  StatementsCall (MoreStatements s ss) x = StatementCalls s x × StatementsCall ss x

abbrev mutual
  -- the greatest depth of the evaluation stack in a statement, before which it is empty
  pub statement_depth : Statement → ℕ
  statement_depth (Block ss) = statements_depth ss
  statement_depth (Evaluate v) = value_depth v
  statement_depth (Initialise place t v) = value_depth v
  statement_depth (If v s) = max (value_depth v) (statement_depth s)
  statement_depth (IfElse v s z) = max (value_depth v) (max (statement_depth s) (statement_depth z))
  statement_depth (While from v s) = max (value_depth v) (statement_depth s)
  statement_depth (Do from s v) = max (statement_depth s) (value_depth v)
  statement_depth (For from first v last s) =
      max (statements_depth first) (max (maybe_depth v) (max (maybe_depth last) (statement_depth s)))
  statement_depth Break = 0
  statement_depth Continue = 0
  statement_depth (Return from v) = max 1 (maybe_depth v)

  pub statements_depth : Statements → ℕ
  statements_depth NoStatements = 0
  statements_depth (MoreStatements s ss) = max (statement_depth s) (statements_depth ss)

-- ---- the heights, one before each instruction

abbrev pub sum_heights : Sum → (pointer index : ℕ → List ℕ) → ℕ → List ℕ
sum_heights PointerPlus p i h = p h ++ (i (h + 1) ++ ((h + 2) ∷ []))
sum_heights PlusPointer p i h = i h ++ (p (h + 1) ++ ((h + 2) ∷ []))
sum_heights PointerMinus p i h = p h ++ (i (h + 1) ++ ((h + 2) ∷ ((h + 2) ∷ [])))

-- the second value stands on top of h + 1
abbrev pub move_heights : Way → ℕ → List ℕ
move_heights Up h = h ∷ []
move_heights Down h = h ∷ h ∷ []

-- the depth of the evaluation stack below the arguments
abbrev pub under_args : Callee → ℕ → ℕ
under_args (SourceFunction from number) h = h
under_args (BuiltinFunction from b) h = h
under_args (Through v) h = h + 1

abbrev pub if_true : Bool → ℕ → List ℕ
if_true true h = h ∷ []
if_true false h = []

abbrev mutual
  pub object_heights : Object → ℕ → List ℕ
  object_heights (GlobalObject from place t) h = h ∷ []
  object_heights (LocalObject place t) h = h ∷ []
  object_heights (TextObject from n) h = h ∷ []
  object_heights (Pointed v t) h = value_heights v h
  object_heights (Element s p i t) h = sum_heights s (value_heights p) (value_heights i) h
  object_heights (MemberOf o number t) h = object_heights o h ++ ((h + 1) ∷ [])

  pub value_heights : Value → ℕ → List ℕ
  value_heights (Constant k n) h = h ∷ []
  value_heights (FunctionAddress from number t) h = h ∷ []
  value_heights (ReadOf o) h = object_heights o h ++ if_true (is_read (object_type o)) (h + 1)
  value_heights (AddressOf o t) h = object_heights o h
  value_heights (Convert t v) h = value_heights v h ++ if_true (converts t v) (h + 1)
  value_heights (Negate k v) h = value_heights v h ++ ((h + 1) ∷ [])
  value_heights (Complement k v) h = value_heights v h ++ ((h + 1) ∷ [])
  value_heights (Arithmetic op k a b) h = value_heights a h ++ (value_heights b (h + 1) ++ ((h + 2) ∷ []))
  value_heights (PointerSum s p i size) h = sum_heights s (value_heights p) (value_heights i) h
  value_heights (PointerDifference a b size) h = value_heights a h ++
      (value_heights b (h + 1) ++ ((h + 2) ∷ []))
  value_heights (PointerComparison op a b) h = value_heights a h ++
      (value_heights b (h + 1) ++ ((h + 2) ∷ []))
  value_heights (Not v) h = value_heights v h ++ ((h + 1) ∷ [])
  value_heights (Both a b) h = value_heights a h ++ ((h + 1) ∷ (value_heights b h ++ ((h + 1) ∷ [])))
  value_heights (Either a b) h = value_heights a h ++ ((h + 1) ∷ (value_heights b h ++ ((h + 1) ∷ [])))
  value_heights (Choice c a b) h = value_heights c h ++
      ((h + 1) ∷ (value_heights a h ++ ((h + 1) ∷ value_heights b h)))
  value_heights (Sequence a b) h = value_heights a h ++ ((h + 1) ∷ value_heights b h)
  value_heights (Assigned o v) h = object_heights o h ++ (value_heights v (h + 1) ++ ((h + 2) ∷ []))
  value_heights (Changed o op k v) h =
      let own = kind_of (object_type o) in
      object_heights o h ++ ((h + 1) ∷ (if_true (reconverts own k) (h + 2) ++
      (value_heights v (h + 2) ++ ((h + 3) ∷ (if_true (reconverts k own) (h + 2) ++ ((h + 2) ∷ []))))))
  value_heights (Moved o w i size) h = object_heights o h ++
      ((h + 1) ∷ (value_heights i (h + 2) ++ (move_heights w (h + 3) ++ ((h + 2) ∷ []))))
  value_heights (Stepped o w g size) h = object_heights o h ++ ((h + 1) ∷ ((h + 2) ∷ []))
  value_heights (CallOf f vs t) h = callee_heights f h ++
      (values_heights vs (under_args f h) ++ ((under_args f h + count vs) ∷ []))

  pub values_heights : Values → ℕ → List ℕ
  values_heights NoValues h = []
  values_heights (MoreValues v vs) h = value_heights v h ++ values_heights vs (h + 1)

  pub callee_heights : Callee → ℕ → List ℕ
  callee_heights (SourceFunction from number) h = []
  callee_heights (BuiltinFunction from b) h = []
  callee_heights (Through v) h = value_heights v h

-- ---- statements, before which no value waits

abbrev pub test_heights : MaybeValue → List ℕ
test_heights NoValue = []
test_heights (OneValue v) = value_heights v 0 ++ (1 ∷ [])

abbrev pub return_heights : MaybeValue → List ℕ
return_heights NoValue = 0 ∷ (1 ∷ [])
return_heights (OneValue v) = value_heights v 0 ++ (1 ∷ [])

abbrev mutual
  pub statement_heights : Statement → List ℕ
  statement_heights (Block ss) = statements_heights ss
  statement_heights (Evaluate v) = value_heights v 0 ++ (1 ∷ [])
  statement_heights (Initialise place t v) = value_heights v 0 ++ (1 ∷ [])
  statement_heights (If v s) = value_heights v 0 ++ (1 ∷ statement_heights s)
  statement_heights (IfElse v s z) = value_heights v 0 ++
      (1 ∷ (statement_heights s ++ (0 ∷ statement_heights z)))
  statement_heights (While from v s) = 0 ∷ (value_heights v 0 ++ (1 ∷ (statement_heights s ++ (0 ∷ []))))
  statement_heights (Do from s v) = 0 ∷ (statement_heights s ++ (value_heights v 0 ++ (1 ∷ (0 ∷ []))))
  statement_heights (For from first v last s) = statements_heights first ++
      (0 ∷ (test_heights v ++ (statement_heights s ++ (test_heights last ++ (0 ∷ [])))))
  statement_heights Break = 0 ∷ []
  statement_heights Continue = 0 ∷ []
  statement_heights (Return from v) = return_heights v

  pub statements_heights : Statements → List ℕ
  statements_heights NoStatements = []
  statements_heights (MoreStatements s ss) = statement_heights s ++ statements_heights ss

abbrev pub body_heights : typed.Body → List ℕ
body_heights b = statement_heights b.statements ++ (0 ∷ (1 ∷ []))

-- these heights stand from a place on
abbrev pub Stand : (ℕ → ℕ) → ℕ → List ℕ → Type 0
Stand height at [] = Unit {0}
Stand height at (h ∷ hs) = (height at ≡ h) × Stand height (at + 1) hs

-- each instruction from a place on keeps what valid code keeps
abbrev pub Kept : Flat → (ℕ → ℕ) → ℕ → List Instr → Type 0
Kept code height at [] = Unit {0}
Kept code height at (i ∷ is) = Keeps code height at i × Kept code height (at + 1) is
