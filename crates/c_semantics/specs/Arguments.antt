-- Calls whose arguments are converted to the types of the parameters as if by assignment (C11 6.5.2.2, 7),
-- and what threads want then: it carries values of their types, and so do their ends.
use Rattle.std.specs.Prelude.{◌≡◌, ℕ, Bool, true, false, ◌&&◌, List, Option, Some, None}
use Rattle.marks.specs.declared.side.Side.{Side}
use Rattle.marks.specs.Marks.{Mark}
use Rattle.marks.specs.Wants.{Want, Outside, Turns, Loads, Stores, Enters, Leaves, Allocs, Frees, Calls, Below, Gives, Returns, CallsBack, UpReturns, Steps, Fails}
use Rattle.c_code.specs.declared.shape.Shape.TheVariants.{Pointer}
use Rattle.c_code.specs.Builtins.{size as size_shape}
use Rattle.c_code.specs.Frames.{are_values}
use Rattle.c_code.specs.Values.{is_value}
use Rattle.c_code.specs.MarkLists.{Ended, Expects}
use Rattle.c_builtins.specs.declared.builtin.Builtin.{Builtin}
use Rattle.c_builtins.specs.Table.{number_of}
use Rattle.c_types_model.specs.Types.{CType, CTypes, NoTypes, MoreTypes}
use Rattle.c_types_rules.specs.TypedTree.{Body, Object, Value, Values, Callee, GlobalObject, LocalObject, TextObject, Pointed, Element, MemberOf, Constant, FunctionAddress, ReadOf, AddressOf, Convert, Negate, Complement, Arithmetic, PointerSum, PointerDifference, PointerComparison, Not, Both, Either, Choice, Sequence, Assigned, Changed, Moved, Stepped, CallOf, NoValues, MoreValues, SourceFunction, BuiltinFunction, Through, value_type, MaybeValue, NoValue, OneValue, Statement, Statements, Block, Evaluate, Initialise, If, IfElse, While, Do, For, Break, Continue, Return, NoStatements, MoreStatements}
use Rattle.c_types_rules.specs.Sources.{Function, params_of, result_of}
use Rattle.c_semantics.specs.Reading.{Marks}
use Rattle.c_semantics.specs.Context.{Source, body_of, builtin_of, param_shapes, result_shape, shape_of, source_function, type_of}
use Rattle.c_semantics.specs.Values.{target}
use Rattle.c_semantics.specs.Returned.{IsConverted}

-- one value for each type, converted to it
abbrev pub AreConverted : CTypes → Values → Type 0
AreConverted NoTypes NoValues = Unit {0}
AreConverted NoTypes (MoreValues v vs) = ⊥
AreConverted (MoreTypes t ts) NoValues = ⊥
AreConverted (MoreTypes t ts) (MoreValues v vs) = IsConverted t v × AreConverted ts vs

-- the type of what is called
abbrev pub called_type : Source → Callee → CType
called_type s (SourceFunction from number) = type_of s number
called_type s (BuiltinFunction from b) = type_of s (number_of b)
called_type s (Through v) = target (value_type v)

abbrev pub is_any : Option Function → Option Builtin → Bool
is_any (Some f) b = true
is_any None (Some b) = true
is_any None None = false

-- the number is that of a function of the source, or of a builtin
abbrev pub is_known : Source → ℕ → Bool
is_known s f = is_any (source_function s f) (builtin_of f)

-- what is called by its name is known
abbrev pub IsKnown : Source → Callee → Type 0
IsKnown s (SourceFunction from number) = is_known s number ≡ true
IsKnown s (BuiltinFunction from b) = Unit {0}
IsKnown s (Through v) = Unit {0}

-- a call of what is known, with converted arguments
abbrev pub Passes : Source → Callee → Values → Type 0
Passes s f vs = IsKnown s f × AreConverted (params_of (called_type s f)) vs

-- each call within is one
abbrev mutual
  pub ObjectPasses : Source → Object → Type 0
  ObjectPasses s (GlobalObject from place t) = Unit {0}
  ObjectPasses s (LocalObject place t) = Unit {0}
  ObjectPasses s (TextObject from n) = Unit {0}
  ObjectPasses s (Pointed v t) = ValuePasses s v
  ObjectPasses s (Element w p i t) = ValuePasses s p × ValuePasses s i
  ObjectPasses s (MemberOf o number t) = ObjectPasses s o

  pub ValuePasses : Source → Value → Type 0
  ValuePasses s (Constant k n) = Unit {0}
  ValuePasses s (FunctionAddress from number t) = Unit {0}
  ValuePasses s (ReadOf o) = ObjectPasses s o
  ValuePasses s (AddressOf o t) = ObjectPasses s o
  ValuePasses s (Convert t v) = ValuePasses s v
  ValuePasses s (Negate k v) = ValuePasses s v
  ValuePasses s (Complement k v) = ValuePasses s v
  ValuePasses s (Arithmetic op k a b) = ValuePasses s a × ValuePasses s b
  ValuePasses s (PointerSum w p i size) = ValuePasses s p × ValuePasses s i
  ValuePasses s (PointerDifference a b size) = ValuePasses s a × ValuePasses s b
  ValuePasses s (PointerComparison op a b) = ValuePasses s a × ValuePasses s b
  ValuePasses s (Not v) = ValuePasses s v
  ValuePasses s (Both a b) = ValuePasses s a × ValuePasses s b
  ValuePasses s (Either a b) = ValuePasses s a × ValuePasses s b
  ValuePasses s (Choice c a b) = ValuePasses s c × ValuePasses s a × ValuePasses s b
  ValuePasses s (Sequence a b) = ValuePasses s a × ValuePasses s b
  ValuePasses s (Assigned o v) = ObjectPasses s o × ValuePasses s v
  ValuePasses s (Changed o op k v) = ObjectPasses s o × ValuePasses s v
  ValuePasses s (Moved o w i size) = ObjectPasses s o × ValuePasses s i
  ValuePasses s (Stepped o w g size) = ObjectPasses s o
  ValuePasses s (CallOf f vs t) = CalleePasses s f × ValuesPass s vs × Passes s f vs

  pub ValuesPass : Source → Values → Type 0
  ValuesPass s NoValues = Unit {0}
  ValuesPass s (MoreValues v vs) = ValuePasses s v × ValuesPass s vs

  pub CalleePasses : Source → Callee → Type 0
  CalleePasses s (SourceFunction from number) = Unit {0}
  CalleePasses s (BuiltinFunction from b) = Unit {0}
  CalleePasses s (Through v) = ValuePasses s v

abbrev pub MaybePasses : Source → MaybeValue → Type 0
MaybePasses s NoValue = Unit {0}
MaybePasses s (OneValue v) = ValuePasses s v

abbrev mutual
  pub StatementPasses : Source → Statement → Type 0
  StatementPasses s (Block ss) = StatementsPass s ss
  StatementPasses s (Evaluate v) = ValuePasses s v
  StatementPasses s (Initialise place t v) = ValuePasses s v
  StatementPasses s (If v z) = ValuePasses s v × StatementPasses s z
  StatementPasses s (IfElse v y z) = ValuePasses s v × StatementPasses s y × StatementPasses s z
  StatementPasses s (While from v z) = ValuePasses s v × StatementPasses s z
  StatementPasses s (Do from z v) = StatementPasses s z × ValuePasses s v
  StatementPasses s (For from first v last z) = StatementsPass s first × MaybePasses s v ×
      MaybePasses s last × StatementPasses s z
  StatementPasses s Break = Unit {0}
  StatementPasses s Continue = Unit {0}
  StatementPasses s (Return from v) = MaybePasses s v

  pub StatementsPass : Source → Statements → Type 0
  StatementsPass s NoStatements = Unit {0}
  StatementsPass s (MoreStatements z zs) = StatementPasses s z × StatementsPass s zs

-- the functions of the source pass converted arguments
abbrev pub ArgumentsAreConverted : Source → Type 0
ArgumentsAreConverted s = (f : ℕ) (b : Body) → body_of s f ≡ Some b → StatementPasses s b.statements

-- the function is known, and these are values of its parameters' types, one for each
abbrev pub takes_values : Source → ℕ → List ℕ → Bool
takes_values s f args = is_known s f && are_values (param_shapes s f) args

abbrev pub AreArguments : Source → ℕ → List ℕ → Type 0
AreArguments s f args = takes_values s f args ≡ true

-- what is wanted carries values of their types
abbrev pub CarriesValues : Source → Want → Type 0
CarriesValues s Outside = Unit {0}
CarriesValues s Turns = Unit {0}
CarriesValues s (Loads origin at width) = Unit {0}
CarriesValues s (Stores origin at bytes) = Unit {0}
CarriesValues s (Enters indirect f args bytes) = AreArguments s f args
CarriesValues s (Leaves at size) = Unit {0}
CarriesValues s (Allocs size) = is_value size_shape size ≡ true
CarriesValues s (Frees at) = is_value Pointer at ≡ true
CarriesValues s (Calls indirect f args) = AreArguments s f args
CarriesValues s (Below f args) = AreArguments s f args
CarriesValues s (Gives f args) = AreArguments s f args
CarriesValues s (Returns f args v) = AreArguments s f args × (is_value (result_shape s f) v ≡ true)
CarriesValues s (CallsBack f args bytes) = AreArguments s f args
CarriesValues s (UpReturns f v) = is_value (result_shape s f) v ≡ true
CarriesValues s (Steps indirect f args) = AreArguments s f args
CarriesValues s (Fails kind) = Unit {0}

-- what may come next carries values of their types
abbrev pub WantsCarryValues : Source → Marks → Type 0
WantsCarryValues s p = (ms : List Mark) (side : Side) (want : Want) → p ms ≡ Expects side want →
    CarriesValues s want

-- the result with which a list ends is a value of the result's type
abbrev pub EndsWithValues : CType → Marks → Type 0
EndsWithValues t p = (ms : List Mark) (v : ℕ) → p ms ≡ Ended v →
    is_value (shape_of (result_of t)) v ≡ true
