-- Sources as typed trees: each name is what it means, and each conversion of C11 6.3 stands there.
use Rattle.std.specs.Prelude.{ℕ, ℤ, ◌+◌, List}
use Rattle.r2_num.specs.declared.kinds.IntKind.{IntKind}
use Rattle.r2_num.specs.declared.kinds.IntKind.TheVariants.{I8, I32, I64}
use Rattle.r2_num.specs.declared.operations.Op.{Op}
use Rattle.r2_num.specs.declared.operations.Op.TheVariants.{Eq, Ne, Lt, Le, Gt, Ge}
use Rattle.c_types_model.specs.Types.{CType, Integer, PointerTo, ArrayOf}
use Rattle.c_builtins.specs.declared.builtin.Builtin.{Builtin}

-- in which order a pointer and an integer stand, and whether the integer is taken away (C11 6.5.6)
pub data Sum : Type 0 where
  PointerPlus : Sum
  PlusPointer : Sum
  PointerMinus : Sum

-- what `++` and `--` give: the new value before an object, the old one after it (C11 6.5.2.4, 6.5.3.1)
pub data Given : Type 0 where
  New : Given
  Old : Given

-- one more or one less
pub data Way : Type 0 where
  Up : Way
  Down : Way

mutual
  -- what designates an object (C11 6.3.2.1, 1)
  pub data Object : Type 0 where
    -- the global of this place, in the order of the source, where its name stands at this offset
    GlobalObject : (from place : ℕ) → CType → Object
    -- the parameter or local of this place: first the parameters and then all locals of the function, in
    -- the order of the source
    LocalObject : (place : ℕ) → CType → Object
    -- the string that stands at this offset, without its ending zero so long
    TextObject : (from length : ℕ) → Object
    Pointed : Value → CType → Object
    -- a subscript (C11 6.5.2.1)
    Element : Sum → (pointer index : Value) → CType → Object
    -- the member of this number, in the order of the struct's definition
    MemberOf : Object → (number : ℕ) → CType → Object

  -- what gives a value
  pub data Value : Type 0 where
    Constant : IntKind → ℤ → Value
    -- the address of the function of this number, which is named at this offset
    FunctionAddress : (from number : ℕ) → CType → Value
    -- what is read from an object that is no array; of a struct nothing is read
    ReadOf : Object → Value
    -- a pointer of this type to an object, or to an array's first element
    AddressOf : Object → CType → Value
    Convert : CType → Value → Value
    Negate : IntKind → Value → Value
    Complement : IntKind → Value → Value
    -- an operator on two values of one kind; the right side of a shift has its own
    Arithmetic : Op → IntKind → Value → Value → Value
    -- a pointer and an integer, which counts elements of this size
    PointerSum : Sum → (pointer index : Value) → (size : ℕ) → Value
    -- how many elements of this size lie between two pointers
    PointerDifference : Value → Value → (size : ℕ) → Value
    PointerComparison : Op → Value → Value → Value
    Not : Value → Value
    Both : Value → Value → Value
    Either : Value → Value → Value
    Choice : Value → Value → Value → Value
    -- the comma operator
    Sequence : Value → Value → Value
    Assigned : Object → Value → Value
    -- the value of the object, converted to the kind, and the other value; the result is converted back
    Changed : Object → Op → IntKind → Value → Value
    -- a pointer object and an integer
    Moved : Object → Way → (index : Value) → (size : ℕ) → Value
    -- an integer goes up or down by 1, a pointer by the size of what it points to
    Stepped : Object → Way → Given → (size : ℕ) → Value
    CallOf : Callee → Values → (result : CType) → Value

  pub data Values : Type 0 where
    NoValues : Values
    MoreValues : Value → Values → Values

  pub data Callee : Type 0 where
    -- the function of this number, or a builtin, which is named at this offset
    SourceFunction : (from number : ℕ) → Callee
    BuiltinFunction : (from : ℕ) → Builtin → Callee
    Through : Value → Callee

-- what an expression is: an object, a function, or a value
pub data Typed : Type 0 where
  AnObject : Object → Typed
  AFunction : Callee → CType → Typed
  AValue : Value → Typed

pub data MaybeValue : Type 0 where
  NoValue : MaybeValue
  OneValue : Value → MaybeValue

mutual
  pub data Statement : Type 0 where
    Block : Statements → Statement
    Evaluate : Value → Statement
    -- the first value of a local
    Initialise : (place : ℕ) → CType → Value → Statement
    If : Value → Statement → Statement
    IfElse : Value → Statement → Statement → Statement
    -- loops, whose first word stands at this offset
    While : (from : ℕ) → Value → Statement → Statement
    Do : (from : ℕ) → Statement → Value → Statement
    For : (from : ℕ) → (first : Statements) → (condition last : MaybeValue) → Statement → Statement
    Break : Statement
    Continue : Statement
    -- `return` at this offset
    Return : (from : ℕ) → MaybeValue → Statement

  pub data Statements : Type 0 where
    NoStatements : Statements
    MoreStatements : Statement → Statements → Statements

-- one list after another
abbrev pub joined : Statements → Statements → Statements
joined NoStatements b = b
joined (MoreStatements s a) b = MoreStatements s (joined a b)

-- what a function does: the offset of its outermost block, the types of its parameters and locals by place,
-- its statements, and what stands unevaluated in its parameters and in its block: operands of sizeof, and
-- lengths of arrays, in the order of the source, each after those within it
pub record Body : Type 0 where
  pub from : ℕ
  pub locals : List CType
  pub statements : Statement
  pub in_params : List Typed
  pub unevaluated : List Typed

abbrev pub char : CType
char = Integer I8

abbrev pub int : CType
int = Integer I32

abbrev pub long : CType
long = Integer I64

abbrev pub object_type : Object → CType
object_type (GlobalObject from place t) = t
object_type (LocalObject place t) = t
object_type (TextObject from length) = ArrayOf (length + 1) char
object_type (Pointed v t) = t
object_type (Element s p i t) = t
object_type (MemberOf o number t) = t

-- comparisons give int (C11 6.5.8, 6.5.9)
abbrev pub result_kind : Op → IntKind → IntKind
result_kind Eq k = I32
result_kind Ne k = I32
result_kind Lt k = I32
result_kind Le k = I32
result_kind Gt k = I32
result_kind Ge k = I32
result_kind op k = k

abbrev pub value_type : Value → CType
value_type (Constant k n) = Integer k
value_type (FunctionAddress from number t) = PointerTo t
value_type (ReadOf o) = object_type o
value_type (AddressOf o t) = t
value_type (Convert t v) = t
value_type (Negate k v) = Integer k
value_type (Complement k v) = Integer k
value_type (Arithmetic op k a b) = Integer (result_kind op k)
value_type (PointerSum s p i size) = value_type p
value_type (PointerDifference a b size) = long
value_type (PointerComparison op a b) = int
value_type (Not v) = int
value_type (Both a b) = int
value_type (Either a b) = int
value_type (Choice c a b) = value_type a
value_type (Sequence a b) = value_type b
value_type (Assigned o v) = object_type o
value_type (Changed o op k v) = object_type o
value_type (Moved o w i size) = object_type o
value_type (Stepped o w g size) = object_type o
value_type (CallOf f vs t) = t

-- the type of an expression before it is converted
abbrev pub typed_type : Typed → CType
typed_type (AnObject o) = object_type o
typed_type (AFunction f t) = t
typed_type (AValue v) = value_type v

-- an array is converted to the address of its first element, any other object to what it holds (C11
-- 6.3.2.1, 2 and 3)
abbrev pub read_as : Object → CType → Value
read_as o (ArrayOf n t) = AddressOf o (PointerTo t)
read_as o t = ReadOf o

-- a function is converted to its address (C11 6.3.2.1, 4); a builtin has none
abbrev pub address_of_callee : Callee → CType → Value
address_of_callee (SourceFunction from number) t = FunctionAddress from number t
address_of_callee (BuiltinFunction from b) t = FunctionAddress from 0 t
address_of_callee (Through v) t = v

abbrev pub value_of : Typed → Value
value_of (AnObject o) = read_as o (object_type o)
value_of (AFunction f t) = address_of_callee f t
value_of (AValue v) = v
