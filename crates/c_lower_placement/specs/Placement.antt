-- Where the code of a typed source lies in flat code: `at` is where the code of a construct begins, and
-- `to` the place after it.
use Rattle.std.specs.Prelude.{◌≡◌, ℕ, suc, ◌+◌, ◌-◌, ◌^◌, leb, Bool, true, false, List, Option, Some, None, slice_get}
use Rattle.r2_num.specs.declared.kinds.IntKind.{IntKind}
use Rattle.r2_num.specs.declared.kinds.IntKind.TheVariants.{I64, U64}
use Rattle.marks.specs.Places.{builtin_count, function_address}
use Rattle.c_code.specs.declared.instr.Push.TheVariants.{Number, Local, Global, Text}
use Rattle.c_code.specs.declared.instr.Change.TheVariants as change
use Rattle.c_code.specs.declared.instr.Combine.TheVariants as combine
use Rattle.c_code.specs.declared.instr.Instr.{Instr}
use Rattle.c_code.specs.declared.instr.Instr.TheVariants as instr
use Rattle.c_code.specs.declared.code.FuncInfo.{FuncInfo}
use Rattle.c_code.specs.Machine.{Flat, func_of, has_sig}
use Rattle.c_code.specs.Values.{written}
use Rattle.c_types_model.specs.Types.{CType}
use Rattle.c_builtins.specs.Table.{number_of}
use Rattle.c_types_rules.specs.TypedTree.{Object, Value, Values, Callee, Sum, PointerPlus, PlusPointer, PointerMinus, Way, Up, Down, Given, New, Old, GlobalObject, LocalObject, TextObject, Pointed, Element, MemberOf, Constant, FunctionAddress, ReadOf, AddressOf, Convert, Negate, Complement, Arithmetic, PointerSum, PointerDifference, PointerComparison, Not, Both, Either, Choice, Sequence, Assigned, Changed, Moved, Stepped, CallOf, NoValues, MoreValues, SourceFunction, BuiltinFunction, Through, MaybeValue, NoValue, OneValue, Statement, Statements, Block, Evaluate, Initialise, If, IfElse, While, Do, For, Break, Continue, Return, NoStatements, MoreStatements, object_type, value_type}
use Rattle.c_types_rules.specs.TypedTree as typed
use Rattle.c_types_rules.specs.Limits.{frame_size}
use Rattle.c_semantics.specs.Context.{Source, is_function_of, kind_of, local_offsets, member_offset, order_of, param_shapes, result_shape, size_of}
use Rattle.c_semantics.specs.Values.{is_read, origin, target, wrap}
use Rattle.c_lower_placement.specs.Places.{Has, Jumps, GoesBack}
use Rattle.c_lower_placement.specs.Conversions.{converts, reconverts}

-- what code is placed against: the source, all code, and how far the function's locals lie after the
-- beginning of its frame
pub record Against : Type 0 where
  pub source : Source
  pub code : Flat
  pub offsets : List ℕ

abbrev pub instrs : Against → List Instr
instrs x = x.code.instrs

abbrev offset_or : Option ℕ → ℕ
offset_or (Some n) = n
offset_or None = 0

abbrev pub offset_of : Against → ℕ → ℕ
offset_of x place = offset_or (slice_get x.offsets place)

-- the number is that of functions of this type, and of no others
abbrev pub IsSigOf : Source → Flat → CType → ℕ → Type 0
IsSigOf s code t sig = (f : ℕ) → leb builtin_count f ≡ true →
    has_sig sig (func_of code f) ≡ is_function_of s t f

-- a pointer and an integer, in their order, and their sum
abbrev pub SumAt : Against → Sum → (pointer index : ℕ → ℕ → Type 0) → (size : ℕ) → ℕ → ℕ → Type 0
SumAt x PointerPlus p i size at to = (m n : ℕ) × p at m × i m n ×
    Has (instrs x) n (instr.Combine (combine.Index size)) to
SumAt x PlusPointer p i size at to = (m n : ℕ) × i at m × p m n ×
    Has (instrs x) n (instr.Combine (combine.IndexOf size)) to
SumAt x PointerMinus p i size at to =
    (m n o : ℕ) × p at m × i m n × Has (instrs x) n (instr.Change (change.Negate I64)) o ×
    Has (instrs x) o (instr.Combine (combine.Index size)) to

-- the sum of a pointer below and an integer on top
abbrev pub MoveAt : Against → Way → (size : ℕ) → ℕ → ℕ → Type 0
MoveAt x Up size at to = Has (instrs x) at (instr.Combine (combine.Index size)) to
MoveAt x Down size at to = (m : ℕ) × Has (instrs x) at (instr.Change (change.Negate I64)) m ×
    Has (instrs x) m (instr.Combine (combine.Index size)) to

-- how far a step goes, as a number of 64 bits
abbrev pub step_by : Way → ℕ → ℕ
step_by Up size = size
step_by Down size = wrap (2 ^ 64 - wrap size)

abbrev pub keeps_old : Given → Bool
keeps_old New = false
keeps_old Old = true

abbrev pub count : Values → ℕ
count NoValues = 0
count (MoreValues v vs) = suc (count vs)

-- a conversion has an instruction, or leaves the value as it is
abbrev pub ConvertAt : Against → Bool → IntKind → ℕ → ℕ → Type 0
ConvertAt x true k at to = Has (instrs x) at (instr.Change (change.Convert k)) to
ConvertAt x false k at to = at ≡ to

-- a scalar object is loaded, and of any other the address stays
abbrev pub LoadAt : Against → Bool → Object → ℕ → ℕ → Type 0
LoadAt x true o at to = Has (instrs x) at (instr.Load (kind_of (object_type o)) (origin o)) to
LoadAt x false o at to = at ≡ to

abbrev pub loads : Object → Instr
loads o = instr.LoadKeep (kind_of (object_type o)) (origin o)

abbrev pub stores : Object → Instr
stores o = instr.Store (kind_of (object_type o)) (origin o)

abbrev mutual
  -- the address of an object
  pub ObjectAt : Object → Against → ℕ → ℕ → Type 0
  ObjectAt (GlobalObject from place t) x at to = Has (instrs x) at (instr.Push (Global place)) to
  ObjectAt (LocalObject place t) x at to = Has (instrs x) at (instr.Push (Local (offset_of x place))) to
  ObjectAt (TextObject from n) x at to = Has (instrs x) at
      (instr.Push (Text (order_of from x.source.texts))) to
  ObjectAt (Pointed v t) x at to = ValueAt v x at to
  ObjectAt (Element s p i t) x at to = SumAt x s (ValueAt p x) (ValueAt i x) (size_of x.source t) at to
  ObjectAt (MemberOf o number t) x at to = (m : ℕ) × ObjectAt o x at m ×
      Has (instrs x) m (instr.Change (change.Offset (member_offset x.source (object_type o) number))) to

  pub ValueAt : Value → Against → ℕ → ℕ → Type 0
  ValueAt (Constant k n) x at to = Has (instrs x) at (instr.Push (Number (written n))) to
  ValueAt (FunctionAddress from number t) x at to =
      Has (instrs x) at (instr.Push (Number (function_address number))) to
  ValueAt (ReadOf o) x at to = (m : ℕ) × ObjectAt o x at m × LoadAt x (is_read (object_type o)) o m to
  ValueAt (AddressOf o t) x at to = ObjectAt o x at to
  ValueAt (Convert t v) x at to = (m : ℕ) × ValueAt v x at m × ConvertAt x (converts t v) (kind_of t) m to
  ValueAt (Negate k v) x at to = (m : ℕ) × ValueAt v x at m ×
      Has (instrs x) m (instr.Change (change.Negate k)) to
  ValueAt (Complement k v) x at to = (m : ℕ) × ValueAt v x at m ×
      Has (instrs x) m (instr.Change (change.Complement k)) to
  ValueAt (Arithmetic op k a b) x at to = (m n : ℕ) × ValueAt a x at m × ValueAt b x m n ×
      Has (instrs x) n (instr.Combine (combine.Arith op k)) to
  ValueAt (PointerSum s p i size) x at to = SumAt x s (ValueAt p x) (ValueAt i x) size at to
  ValueAt (PointerDifference a b size) x at to = (m n : ℕ) × ValueAt a x at m × ValueAt b x m n ×
      Has (instrs x) n (instr.Combine (combine.Distance size)) to
  ValueAt (PointerComparison op a b) x at to = (m n : ℕ) × ValueAt a x at m × ValueAt b x m n ×
      Has (instrs x) n (instr.Combine (combine.Arith op U64)) to
  ValueAt (Not v) x at to = (m : ℕ) × ValueAt v x at m × Has (instrs x) m (instr.Change change.Not) to
  ValueAt (Both a b) x at to = (m n : ℕ) × ValueAt a x at m × Jumps (instrs x) m instr.EndIfZero to ×
      ValueAt b x (m + 1) n × Has (instrs x) n (instr.Change change.Truth) to
  ValueAt (Either a b) x at to = (m n : ℕ) × ValueAt a x at m × Jumps (instrs x) m instr.EndUnlessZero to ×
      ValueAt b x (m + 1) n × Has (instrs x) n (instr.Change change.Truth) to
  ValueAt (Choice c a b) x at to = (m n : ℕ) × ValueAt c x at m ×
      Jumps (instrs x) m instr.SkipIfZero (n + 1) × ValueAt a x (m + 1) n ×
      Jumps (instrs x) n instr.GoOn to × ValueAt b x (n + 1) to
  ValueAt (Sequence a b) x at to = (m n : ℕ) × ValueAt a x at m × Has (instrs x) m instr.Drop n ×
      ValueAt b x n to
  ValueAt (Assigned o v) x at to = (m n : ℕ) × ObjectAt o x at m × ValueAt v x m n ×
      Has (instrs x) n (stores o) to
  ValueAt (Changed o op k v) x at to =
      let own = kind_of (object_type o) in
      (m n p q r u : ℕ) × ObjectAt o x at m × Has (instrs x) m (loads o) n ×
      ConvertAt x (reconverts own k) k n p × ValueAt v x p q ×
      Has (instrs x) q (instr.Combine (combine.Arith op k)) r × ConvertAt x (reconverts k own) own r u ×
      Has (instrs x) u (stores o) to
  ValueAt (Moved o w i size) x at to = (m n p q : ℕ) × ObjectAt o x at m × Has (instrs x) m (loads o) n ×
      ValueAt i x n p × MoveAt x w size p q × Has (instrs x) q (stores o) to
  ValueAt (Stepped o w g size) x at to =
      (m n : ℕ) × ObjectAt o x at m × Has (instrs x) m (loads o) n ×
      Has (instrs x) n (instr.StoreStep (kind_of (object_type o)) (step_by w size) (keeps_old g)
      (origin o)) to
  ValueAt (CallOf f vs t) x at to = (m n : ℕ) × CalleeAt f x at m × ValuesAt vs x m n ×
      CallAt f x (count vs) n to

  -- one after another
  pub ValuesAt : Values → Against → ℕ → ℕ → Type 0
  ValuesAt NoValues x at to = at ≡ to
  ValuesAt (MoreValues v vs) x at to = (m : ℕ) × ValueAt v x at m × ValuesAt vs x m to

  -- the value of a pointer to what is called; a name has none
  pub CalleeAt : Callee → Against → ℕ → ℕ → Type 0
  CalleeAt (SourceFunction from number) x at to = at ≡ to
  CalleeAt (BuiltinFunction from b) x at to = at ≡ to
  CalleeAt (Through v) x at to = ValueAt v x at to

  pub CallAt : Callee → Against → (count : ℕ) → ℕ → ℕ → Type 0
  CallAt (SourceFunction from number) x n at to = Has (instrs x) at (instr.Call number n) to
  CallAt (BuiltinFunction from b) x n at to = Has (instrs x) at (instr.Call (number_of b) n) to
  CallAt (Through v) x n at to = (sig : ℕ) × IsSigOf x.source x.code (target (value_type v)) sig ×
      Has (instrs x) at (instr.CallPointer sig n) to

-- ---- statements; `stop` is where a `break` leads, and `again` where a `continue` does

-- the condition of a `for`, if it has one, and the jump to its end
abbrev pub TestAt : MaybeValue → Against → ℕ → ℕ → (end : ℕ) → Type 0
TestAt NoValue x at to end = at ≡ to
TestAt (OneValue v) x at to end = (m : ℕ) × ValueAt v x at m × Jumps (instrs x) m instr.SkipIfZero end ×
    (m + 1 ≡ to)

abbrev pub LastAt : MaybeValue → Against → ℕ → ℕ → Type 0
LastAt NoValue x at to = at ≡ to
LastAt (OneValue v) x at to = (m : ℕ) × ValueAt v x at m × Has (instrs x) m instr.Drop to

abbrev pub ReturnAt : MaybeValue → Against → ℕ → ℕ → Type 0
ReturnAt NoValue x at to = (m : ℕ) × Has (instrs x) at (instr.Push (Number 0)) m ×
    Has (instrs x) m instr.Finish to
ReturnAt (OneValue v) x at to = (m : ℕ) × ValueAt v x at m × Has (instrs x) m instr.Finish to

abbrev mutual
  pub StatementAt : Statement → Against → ℕ → ℕ → (stop again : ℕ) → Type 0
  StatementAt (Block ss) x at to stop again = StatementsAt ss x at to stop again
  StatementAt (Evaluate v) x at to stop again = (m : ℕ) × ValueAt v x at m × Has (instrs x) m instr.Drop to
  StatementAt (Initialise place t v) x at to stop again = (m : ℕ) × ValueAt v x at m ×
      Has (instrs x) m (instr.StoreLocal (kind_of t) (offset_of x place)) to
  StatementAt (If v s) x at to stop again = (m : ℕ) × ValueAt v x at m ×
      Jumps (instrs x) m instr.SkipIfZero to × StatementAt s x (m + 1) to stop again
  StatementAt (IfElse v s z) x at to stop again =
      (m n : ℕ) × ValueAt v x at m × Jumps (instrs x) m instr.SkipIfZero (n + 1) ×
      StatementAt s x (m + 1) n stop again × Jumps (instrs x) n instr.GoOn to ×
      StatementAt z x (n + 1) to stop again
  StatementAt (While from v s) x at to stop again =
      (m n : ℕ) × (slice_get (instrs x) at ≡ Some instr.Turn) × ValueAt v x (at + 1) m ×
      Jumps (instrs x) m instr.SkipIfZero to × StatementAt s x (m + 1) n to n ×
      GoesBack (instrs x) n (at + 1) × (n + 1 ≡ to)
  StatementAt (Do from s v) x at to stop again =
      (m n : ℕ) × (slice_get (instrs x) at ≡ Some instr.Turn) × StatementAt s x (at + 1) m to m ×
      ValueAt v x m n × Jumps (instrs x) n instr.SkipIfZero to × GoesBack (instrs x) (n + 1) (at + 1) ×
      (n + 2 ≡ to)
  StatementAt (For from first v last s) x at to stop again =
      (h m n q : ℕ) × StatementsAt first x at h stop again × (slice_get (instrs x) h ≡ Some instr.Turn) ×
      TestAt v x (h + 1) m to × StatementAt s x m n to n × LastAt last x n q ×
      GoesBack (instrs x) q (h + 1) × (q + 1 ≡ to)
  StatementAt Break x at to stop again = Jumps (instrs x) at instr.GoOn stop × (at + 1 ≡ to)
  StatementAt Continue x at to stop again = Jumps (instrs x) at instr.GoOn again × (at + 1 ≡ to)
  StatementAt (Return from v) x at to stop again = ReturnAt v x at to

  pub StatementsAt : Statements → Against → ℕ → ℕ → (stop again : ℕ) → Type 0
  StatementsAt NoStatements x at to stop again = at ≡ to
  StatementsAt (MoreStatements s ss) x at to stop again = (m : ℕ) × StatementAt s x at m stop again ×
      StatementsAt ss x m to stop again

-- ---- functions

-- a body, after which the result 0 is given
abbrev pub BodyAt : typed.Body → Against → ℕ → Type 0
BodyAt b x at = (m n to : ℕ) × StatementAt b.statements x at m m m ×
    Has (instrs x) m (instr.Push (Number 0)) n × Has (instrs x) n instr.Finish to

abbrev pub against : Source → Flat → typed.Body → Against
against s code b = record { source = s; code = code; offsets = local_offsets s b.locals }

-- what callers know of a function with a body, and its code
pub record HasCode (s : Source) (code : Flat) (f : ℕ) (b : typed.Body) : Type 0 where
  pub info : FuncInfo
  pub entry : ℕ
  pub known : func_of code f ≡ Some info
  pub begins : info.entry ≡ Some entry
  pub params : info.params ≡ param_shapes s f
  pub result : info.result ≡ result_shape s f
  pub frame : info.frame ≡ frame_size s.program b.locals
  pub placed : BodyAt b (against s code b) entry
