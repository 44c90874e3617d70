-- The code of a typed source, construct by construct.
use Rattle.std.specs.Prelude.{◌≡◌, ℕ, ◌+◌, Bool, true, false, List, [], ◌∷◌, ◌++◌, length, Some, slice_get}
use Rattle.r2_num.specs.declared.kinds.IntKind.{IntKind}
use Rattle.r2_num.specs.declared.kinds.IntKind.TheVariants.{I64, U64}
use Rattle.marks.specs.Places.{function_address}
use Rattle.c_code.specs.declared.instr.Push.TheVariants.{Number, Local, Global, Text}
use Rattle.c_code.specs.declared.instr.Change.TheVariants as change
use Rattle.c_code.specs.declared.instr.Combine.TheVariants as combine
use Rattle.c_code.specs.declared.instr.Instr.{Instr}
use Rattle.c_code.specs.declared.instr.Instr.TheVariants as instr
use Rattle.c_code.specs.Machine.{Flat}
use Rattle.c_code.specs.Values.{written}
use Rattle.c_types_model.specs.Types.{CType}
use Rattle.c_builtins.specs.Table.{number_of}
use Rattle.c_types_rules.specs.TypedTree.{Object, Value, Values, Callee, Sum, PointerPlus, PlusPointer, PointerMinus, Way, Up, Down, GlobalObject, LocalObject, TextObject, Pointed, Element, MemberOf, Constant, FunctionAddress, ReadOf, AddressOf, Convert, Negate, Complement, Arithmetic, PointerSum, PointerDifference, PointerComparison, Not, Both, Either, Choice, Sequence, Assigned, Changed, Moved, Stepped, CallOf, NoValues, MoreValues, SourceFunction, BuiltinFunction, Through, MaybeValue, NoValue, OneValue, Statement, Statements, Block, Evaluate, Initialise, If, IfElse, While, Do, For, Break, Continue, Return, NoStatements, MoreStatements, object_type, value_type}
use Rattle.c_types_rules.specs.TypedTree as typed
use Rattle.c_semantics.specs.Context.{Source, kind_of, member_offset, order_of, size_of}
use Rattle.c_semantics.specs.Values.{is_read, origin, target}
use Rattle.c_lower_placement.specs.Conversions.{converts, reconverts}
use Rattle.c_lower_placement.specs.Placement.{Against, IsSigOf, against, count, keeps_old, loads, offset_of, step_by, stores}

-- what code is made with: the numbers of types of functions, and what it is placed against
pub record Making : Type 0 where
  pub against : Against
  pub sig : CType → ℕ

-- each number is that of its type
abbrev pub HasSigs : Making → Type 0
HasSigs x = (t : CType) → IsSigOf x.against.source x.against.code t (x.sig t)

abbrev pub one : Instr → List Instr
one i = i ∷ []

abbrev pub sum_code : Sum → (pointer index : List Instr) → (size : ℕ) → List Instr
sum_code PointerPlus p i size = p ++ (i ++ one (instr.Combine (combine.Index size)))
sum_code PlusPointer p i size = i ++ (p ++ one (instr.Combine (combine.IndexOf size)))
sum_code PointerMinus p i size = p ++ (i ++ (instr.Change (change.Negate I64) ∷
    one (instr.Combine (combine.Index size))))

abbrev pub move_code : Way → (size : ℕ) → List Instr
move_code Up size = one (instr.Combine (combine.Index size))
move_code Down size = instr.Change (change.Negate I64) ∷ one (instr.Combine (combine.Index size))

abbrev pub convert_code : Bool → IntKind → List Instr
convert_code true k = one (instr.Change (change.Convert k))
convert_code false k = []

abbrev pub load_code : Bool → Object → List Instr
load_code true o = one (instr.Load (kind_of (object_type o)) (origin o))
load_code false o = []

abbrev pub call_code : Callee → Making → (count : ℕ) → List Instr
call_code (SourceFunction from number) x n = one (instr.Call number n)
call_code (BuiltinFunction from b) x n = one (instr.Call (number_of b) n)
call_code (Through v) x n = one (instr.CallPointer (x.sig (target (value_type v))) n)

abbrev mutual
  pub object_code : Object → Making → List Instr
  object_code (GlobalObject from place t) x = one (instr.Push (Global place))
  object_code (LocalObject place t) x = one (instr.Push (Local (offset_of x.against place)))
  object_code (TextObject from n) x = one (instr.Push (Text (order_of from x.against.source.texts)))
  object_code (Pointed v t) x = value_code v x
  object_code (Element s p i t) x = sum_code s (value_code p x) (value_code i x)
      (size_of x.against.source t)
  object_code (MemberOf o number t) x = object_code o x ++
      one (instr.Change (change.Offset (member_offset x.against.source (object_type o) number)))

  pub value_code : Value → Making → List Instr
  value_code (Constant k n) x = one (instr.Push (Number (written n)))
  value_code (FunctionAddress from number t) x = one (instr.Push (Number (function_address number)))
  value_code (ReadOf o) x = object_code o x ++ load_code (is_read (object_type o)) o
  value_code (AddressOf o t) x = object_code o x
  value_code (Convert t v) x = value_code v x ++ convert_code (converts t v) (kind_of t)
  value_code (Negate k v) x = value_code v x ++ one (instr.Change (change.Negate k))
  value_code (Complement k v) x = value_code v x ++ one (instr.Change (change.Complement k))
  value_code (Arithmetic op k a b) x = value_code a x ++
      (value_code b x ++ one (instr.Combine (combine.Arith op k)))
  value_code (PointerSum s p i size) x = sum_code s (value_code p x) (value_code i x) size
  value_code (PointerDifference a b size) x = value_code a x ++
      (value_code b x ++ one (instr.Combine (combine.Distance size)))
  value_code (PointerComparison op a b) x = value_code a x ++
      (value_code b x ++ one (instr.Combine (combine.Arith op U64)))
  value_code (Not v) x = value_code v x ++ one (instr.Change change.Not)
  value_code (Both a b) x = value_code a x ++
      (instr.EndIfZero (length (value_code b x) + 1) ∷ (value_code b x ++ one (instr.Change change.Truth)))
  value_code (Either a b) x = value_code a x ++
      (instr.EndUnlessZero (length (value_code b x) + 1) ∷
      (value_code b x ++ one (instr.Change change.Truth)))
  value_code (Choice c a b) x = value_code c x ++
      (instr.SkipIfZero (length (value_code a x) + 1) ∷
      (value_code a x ++ (instr.GoOn (length (value_code b x)) ∷ value_code b x)))
  value_code (Sequence a b) x = value_code a x ++ (instr.Drop ∷ value_code b x)
  value_code (Assigned o v) x = object_code o x ++ (value_code v x ++ one (stores o))
  value_code (Changed o op k v) x =
      let own = kind_of (object_type o) in
      object_code o x ++ (loads o ∷ (convert_code (reconverts own k) k ++
      (value_code v x ++ (instr.Combine (combine.Arith op k) ∷
      (convert_code (reconverts k own) own ++ one (stores o))))))
  value_code (Moved o w i size) x = object_code o x ++
      (loads o ∷ (value_code i x ++ (move_code w size ++ one (stores o))))
  value_code (Stepped o w g size) x = object_code o x ++
      (loads o ∷ one (instr.StoreStep (kind_of (object_type o)) (step_by w size) (keeps_old g) (origin o)))
  value_code (CallOf f vs t) x = callee_code f x ++ (values_code vs x ++ call_code f x (count vs))

  pub values_code : Values → Making → List Instr
  values_code NoValues x = []
  values_code (MoreValues v vs) x = value_code v x ++ values_code vs x

  pub callee_code : Callee → Making → List Instr
  callee_code (SourceFunction from number) x = []
  callee_code (BuiltinFunction from b) x = []
  callee_code (Through v) x = value_code v x

-- ---- statements; `stop` and `again` say how far after the statement's end a `break` and a `continue` lead

-- the condition of a `for`, if it has one, and a jump over so many instructions
abbrev pub test_code : MaybeValue → Making → (over : ℕ) → List Instr
test_code NoValue x over = []
test_code (OneValue v) x over = value_code v x ++ one (instr.SkipIfZero over)

abbrev pub last_code : MaybeValue → Making → List Instr
last_code NoValue x = []
last_code (OneValue v) x = value_code v x ++ one instr.Drop

abbrev pub return_code : MaybeValue → Making → List Instr
return_code NoValue x = instr.Push (Number 0) ∷ one instr.Finish
return_code (OneValue v) x = value_code v x ++ one instr.Finish

abbrev mutual
  pub statement_code : Statement → Making → (stop again : ℕ) → List Instr
  statement_code (Block ss) x stop again = statements_code ss x stop again
  statement_code (Evaluate v) x stop again = value_code v x ++ one instr.Drop
  statement_code (Initialise place t v) x stop again = value_code v x ++
      one (instr.StoreLocal (kind_of t) (offset_of x.against place))
  statement_code (If v s) x stop again =
      let body = statement_code s x stop again in
      value_code v x ++ (instr.SkipIfZero (length body) ∷ body)
  statement_code (IfElse v s z) x stop again =
      let other = statement_code z x stop again in
      let body = statement_code s x (length other + 1 + stop) (length other + 1 + again) in
      value_code v x ++ (instr.SkipIfZero (length body + 1) ∷ (body ++ (instr.GoOn (length other) ∷ other)))
  statement_code (While from v s) x stop again =
      let body = statement_code s x 1 0 in
      instr.Turn ∷ (value_code v x ++ (instr.SkipIfZero (length body + 1) ∷
      (body ++ one (instr.GoBack (length (value_code v x) + 1 + length body)))))
  statement_code (Do from s v) x stop again =
      let body = statement_code s x (length (value_code v x) + 2) 0 in
      instr.Turn ∷ (body ++ (value_code v x ++
      (instr.SkipIfZero 1 ∷ one (instr.GoBack (length body + length (value_code v x) + 1)))))
  statement_code (For from first v last s) x stop again =
      let final = last_code last x in
      let body = statement_code s x (length final + 1) 0 in
      let test = test_code v x (length body + length final + 1) in
      let loop = instr.Turn ∷ (test ++ (body ++
      (final ++ one (instr.GoBack (length test + length body + length final))))) in
      statements_code first x (length loop + stop) (length loop + again) ++ loop
  statement_code Break x stop again = one (instr.GoOn stop)
  statement_code Continue x stop again = one (instr.GoOn again)
  statement_code (Return from v) x stop again = return_code v x

  pub statements_code : Statements → Making → (stop again : ℕ) → List Instr
  statements_code NoStatements x stop again = []
  statements_code (MoreStatements s ss) x stop again =
      let rest = statements_code ss x stop again in
      statement_code s x (length rest + stop) (length rest + again) ++ rest

-- the statements of a function, after which the result 0 is given
abbrev pub body_code : typed.Body → Making → List Instr
body_code b x = statement_code b.statements x 0 0 ++ (instr.Push (Number 0) ∷ one instr.Finish)

-- what the code of one function is made with
abbrev pub making : Source → Flat → (sig : CType → ℕ) → typed.Body → Making
making s code sig b = record { against = against s code b; sig = sig }

-- a list of instructions stands from a place on
abbrev pub Lies : List Instr → ℕ → List Instr → Type 0
Lies code at [] = Unit {0}
Lies code at (i ∷ is) = (slice_get code at ≡ Some i) × Lies code (at + 1) is
